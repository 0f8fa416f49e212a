-- Which versions hold at a moment, and lists in rising order.
use Rattle.std.specs.Prelude.{ℕ, ℤ, int_le, int_lt, Bool, true, ◌&&◌, List, [], ◌∷◌, map, filter, Option, Some, None}
use Rattle.std.specs.Bool.{if◌then◌else◌}
use Rattle.std.specs.Borrow.{Bor}
use Rattle.std.specs.Cmp.Lexicographic.{slice_cmp}
use Rattle.std.specs.Ordering.{nat_cmp, is_lt}
use Rattle.version_history.specs.declared.version.Version.{Version}
use Rattle.version_history.specs.Versions.{has_ident}

-- there is no end at the moment or before it
abbrev pub is_unended : ℤ → Option ℤ → Bool
is_unended moment None = true
is_unended moment (Some until) = int_lt moment until

-- what began and ended then holds at the moment: the begin is counted in, the end is not
abbrev pub holds : ℤ → ℤ → Option ℤ → Bool
holds moment since until = int_le since moment && is_unended moment until

-- the version holds at the moment
abbrev pub holds_at : ℤ → Version → Bool
holds_at moment v = holds moment v.since v.until

-- the item behind those of the list's front that come before it
unfoldable pub placed : {A : Type 0} → (A → A → Bool) → A → List A → List A
placed before a [] = a ∷ []
placed before a (b ∷ rest) = if before b a then b ∷ placed before a rest else a ∷ b ∷ rest

-- in order, those that tie as they stood
unfoldable pub in_order : {A : Type 0} → (A → A → Bool) → List A → List A
in_order before [] = []
in_order before (a ∷ rest) = placed before a (in_order before rest)

-- whether the first key is smaller
abbrev pub has_lower : {A : Type 0} → (A → List ℕ) → A → A → Bool
has_lower key a b = is_lt (slice_cmp nat_cmp (key a) (key b))

-- by rising key, those with one key as they stood
abbrev pub rising : {A : Type 0} → (A → List ℕ) → List A → List A
rising key items = in_order (has_lower key) items

-- the versions that hold at the moment, by rising identification
abbrev pub versions_at : ℤ → List Version → List Version
versions_at moment versions = rising (λ v. v.ident) (filter (holds_at moment) versions)

-- the versions of the identification, in order of making
abbrev pub versions_of : List ℕ → List Version → List Version
versions_of ident versions = filter (has_ident ident) versions

-- what each of these points to
abbrev pub contents : {A : Type 0} → List (Bor A) → List A
contents items = map (λ item. item.now) items
