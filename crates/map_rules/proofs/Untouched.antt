-- What mutations leave of the versions that they do not name.
use Rattle.std.proofs.Common.{◌≡◌, ◌∙◌, sym, ap, refl, Bool, true, false, List, [], ◌∷◌, ◌++◌, map, reverse, append_assoc}
use Rattle.std.specs.Prelude.{ℕ, ℤ, Option, Some, None, find, cond}
use Rattle.std.specs.List.{list_any, flat_map}
use Rattle.std.specs.Option.{option_or}
use Rattle.std.specs.Str.{bytes_eq}
use Rattle.std.proofs.Math.Bool.{and-false}
use Rattle.std.proofs.lemmas.List.Folds.{find-append}
use Rattle.std.proofs.lemmas.List.Sums.{fold-append}
use Rattle.std.proofs.lemmas.Grind.{flat_map-append}
use Rattle.std.proofs.lemmas.Simd.{map-map}
use Rattle.std.proofs.lemmas.List.{reverse-append, map-append}
use Rattle.std.proofs.lemmas.Slice.Eq.{bytes_eq-Decides}
use Rattle.imgeo_types.specs.declared.item.Item.{Item}
use Rattle.message_text.specs.declared.message.Mutation.{Mutation}
use Rattle.message_text.specs.declared.message.Mutation.TheVariants.{Add, Change, End}
use Rattle.version_history.specs.declared.version.Version.{Version}
use Rattle.version_history.specs.Versions.{has_ident, is_current_of, current_of, last_of, ended, ended_if, ended_in, new_version}
use Rattle.map_rules.specs.After.{touched, touched_by, begun, versions_after}
use Rattle.map_rules.specs.Rules.{ident_of}
use Rattle.map_rules.proofs.Finding.{neither, differ_sym, find-map_kept, find-none, find-map_none, list_any-reverse, reverse-map}

-- whether a mutation names the identification
abbrev pub names : List ℕ → Mutation → Bool
names ident mutation = bytes_eq (ident_of mutation) ident

ended_if-ident : (ident : List ℕ) (until : ℤ) (day : Option ℤ) (v : Version) → (ended_if ident until day v).ident ≡ v.ident
ended_if-ident ident until day v
    = elim (is_current_of ident v) as (λ (t : Bool). (cond t (ended until day v) v).ident ≡ v.ident) [ true ↦ refl | false ↦ refl ]

touched-ident : (moment : ℤ) (mutation : Mutation) (v : Version) → (touched moment mutation v).ident ≡ v.ident
touched-ident moment (Add ident item) v = refl
touched-ident moment (Change ident was item) v = ended_if-ident ident moment None v
touched-ident moment (End ident was day) v = ended_if-ident ident moment (Some day) v

touched_by-ident : (moment : ℤ) (ms : List Mutation) (v : Version) → (touched_by moment ms v).ident ≡ v.ident
touched_by-ident moment [] v = refl
touched_by-ident moment (m ∷ ms) v = touched_by-ident moment ms (touched moment m v) ∙ touched-ident moment m v

-- an identification that is not the version's ends nothing
ended_if-other : (ident : List ℕ) (until : ℤ) (day : Option ℤ) (v : Version) → bytes_eq v.ident ident ≡ false
    → ended_if ident until day v ≡ v
ended_if-other ident until day v e = rw e refl

touched-other : (moment : ℤ) (mutation : Mutation) (v : Version) → bytes_eq v.ident (ident_of mutation) ≡ false
    → touched moment mutation v ≡ v
touched-other moment (Add ident item) v e = refl
touched-other moment (Change ident was item) v e = ended_if-other ident moment None v e
touched-other moment (End ident was day) v e = ended_if-other ident moment (Some day) v e

-- a version that no mutation names stays
pub touched_by-other : (moment : ℤ) (ms : List Mutation) (v : Version) → list_any (names v.ident) ms ≡ false → touched_by moment ms v ≡ v
touched_by-other moment [] v e = refl
touched_by-other moment (m ∷ ms) v e =
    let both = neither (names v.ident m) (list_any (names v.ident) ms) e in
    ap (λ (w : Version). touched_by moment ms w) (touched-other moment m v (differ_sym (ident_of m) v.ident both.0)) ∙ touched_by-other
    moment ms v both.1

touched_by-named : (ident : List ℕ) (moment : ℤ) (ms : List Mutation) (v : Version) → list_any (names ident) ms ≡ false
    → has_ident ident v ≡ true → touched_by moment ms v ≡ v
touched_by-named ident moment ms v none has =
    let same : v.ident ≡ ident = (bytes_eq-Decides v.ident ident).0 has in
    touched_by-other moment ms v (rw same none)

-- what begins has the identification of its mutation
begun-none : (ident : List ℕ) (holder : List ℕ) (moment : ℤ) (ms : List Mutation) → list_any (names ident) ms ≡ false
    → list_any (has_ident ident) (flat_map (begun holder moment) ms) ≡ false
begun-none ident holder moment [] e = refl
begun-none ident holder moment (Add i item ∷ ms) e = let both = neither (bytes_eq i ident) (list_any (names ident) ms) e in rw both.0
    (begun-none ident holder moment ms both.1)
begun-none ident holder moment (Change i was item ∷ ms) e = let both = neither (bytes_eq i ident) (list_any (names ident) ms) e in rw both.0
    (begun-none ident holder moment ms both.1)
begun-none ident holder moment (End i was day ∷ ms) e = let both = neither (bytes_eq i ident) (list_any (names ident) ms) e in begun-none
    ident holder moment ms both.1

option_or-none : {A : Type 0} (o : Option A) → option_or o None ≡ o
option_or-none None = refl
option_or-none (Some a) = refl

current_tests : (ident : List ℕ) (moment : ℤ) (ms : List Mutation) → list_any (names ident) ms ≡ false → (v : Version)
    → is_current_of ident (touched_by moment ms v) ≡ is_current_of ident v
current_tests ident moment ms none v = by_case (has_ident ident v) refl
  where
    by_case : (t : Bool) → has_ident ident v ≡ t → is_current_of ident (touched_by moment ms v) ≡ is_current_of ident v
    by_case true h = ap (λ (w : Version). is_current_of ident w) (touched_by-named ident moment ms v none h)
    by_case false h = rw (touched_by-ident moment ms v, h) refl

-- the current version of an identification that no mutation names stays
pub current_of-after : (ident holder : List ℕ) (moment : ℤ) (ms : List Mutation) (vs : List Version) → list_any (names ident) ms ≡ false
    → current_of ident (versions_after holder moment ms vs) ≡ current_of ident vs
current_of-after ident holder moment ms vs none =
    let here = find-map_kept (is_current_of ident) (touched_by moment ms) (current_tests ident moment ms none)
    (λ v t. touched_by-named ident moment ms v none (has_of v (has_ident ident v) refl t)) vs in
    let there
    = find-none (has_ident ident) (is_current_of ident) (λ v t. rw t refl) (flat_map (begun holder moment) ms)
    (begun-none ident holder moment ms none) in
    find-append (is_current_of ident) (map (touched_by moment ms) vs)
    (flat_map (begun holder moment) ms) ∙ (rw (here, there) (option_or-none (current_of ident vs)))
  where
    has_of : (v : Version) (t : Bool) → has_ident ident v ≡ t → is_current_of ident v ≡ true → has_ident ident v ≡ true
    has_of v true h c = h
    has_of v false h c = let f : is_current_of ident v ≡ false = rw h refl in cc

-- and so does the one that was made last
pub last_of-after : (ident holder : List ℕ) (moment : ℤ) (ms : List Mutation) (vs : List Version) → list_any (names ident) ms ≡ false
    → last_of ident (versions_after holder moment ms vs) ≡ last_of ident vs
last_of-after ident holder moment ms vs none =
    let new = flat_map (begun holder moment) ms in
    let here = find-map_kept (has_ident ident) (touched_by moment ms)
    (λ v. ap (λ (i : List ℕ). bytes_eq i ident) (touched_by-ident moment ms v)) (λ v t. touched_by-named ident moment ms v none t)
    (reverse vs) in
    let there = find-none (has_ident ident) (has_ident ident) (λ v t. t) (reverse new)
    (list_any-reverse (has_ident ident) new (begun-none ident holder moment ms none)) in
    ap (λ (l : List Version). find (has_ident ident) l) (reverse-append (map (touched_by moment ms) vs) new)
    ∙ (find-append (has_ident ident) (reverse new)
    (reverse (map (touched_by moment ms) vs)) ∙ rw (there, reverse-map (touched_by moment ms) vs) here)

-- what ended is no longer current
pub current_of-ended : (ident : List ℕ) (until : ℤ) (day : Option ℤ) (vs : List Version)
    → current_of ident (ended_in ident until day vs) ≡ None
current_of-ended ident until day vs
    = find-map_none (is_current_of ident) (ended_if ident until day) (λ v. by_case v (is_current_of ident v) refl) vs
  where
    by_case : (v : Version) (t : Bool) → is_current_of ident v ≡ t → is_current_of ident (ended_if ident until day v) ≡ false
    by_case v true h = rw h (and-false (has_ident ident v))
    by_case v false h = rw h h

-- no mutation at all
pub after_none : (holder : List ℕ) (moment : ℤ) (vs : List Version) → vs ≡ versions_after holder moment [] vs
after_none holder moment [] = refl
after_none holder moment (v ∷ vs) = ap (λ (l : List Version). v ∷ l) (after_none holder moment vs)

-- one mutation alone
pub after_add : (holder : List ℕ) (moment : ℤ) (ident : List ℕ) (item : Item) (vs : List Version)
    → versions_after holder moment (Add ident item ∷ []) vs ≡ vs ++ new_version holder ident item moment ∷ []
after_add holder moment ident item vs = ap (λ (l : List Version). l ++ new_version holder ident item moment ∷ []) (map_same vs)
  where
    map_same : (l : List Version) → map (λ v. v) l ≡ l
    map_same [] = refl
    map_same (v ∷ l) = ap (λ (k : List Version). v ∷ k) (map_same l)

begun-touched : (holder : List ℕ) (moment : ℤ) (m : Mutation) (ms : List Mutation) → list_any (names (ident_of m)) ms ≡ false
    → map (touched moment m) (flat_map (begun holder moment) ms) ≡ flat_map (begun holder moment) ms
begun-touched holder moment m [] e = refl
begun-touched holder moment m (Add i item ∷ ms) e =
    let both = neither (bytes_eq i (ident_of m)) (list_any (names (ident_of m)) ms) e in
    rw (touched-other moment m (new_version holder i item moment) both.0, begun-touched holder moment m ms both.1) refl
begun-touched holder moment m (Change i was item ∷ ms) e =
    let both = neither (bytes_eq i (ident_of m)) (list_any (names (ident_of m)) ms) e in
    rw (touched-other moment m (new_version holder i item moment) both.0, begun-touched holder moment m ms both.1) refl
begun-touched holder moment m (End i was day ∷ ms) e =
    let both = neither (bytes_eq i (ident_of m)) (list_any (names (ident_of m)) ms) e in
    begun-touched holder moment m ms both.1

-- One mutation more, of an identification that none before it names, is that mutation applied to what those before it left.
pub after_one_more : (holder : List ℕ) (moment : ℤ) (ms : List Mutation) (m : Mutation) (vs : List Version)
    → list_any (names (ident_of m)) ms ≡ false
    → versions_after holder moment (ms ++ m ∷ []) vs ≡ versions_after holder moment (m ∷ []) (versions_after holder moment ms vs)
after_one_more holder moment ms m vs e =
    let new = flat_map (begun holder moment) ms in
    let one = begun holder moment m ++ [] in
    let old : map (touched_by moment (ms ++ m ∷ [])) vs ≡ map (touched moment m) (map (touched_by moment ms) vs) =
    each vs ∙ sym (map-map (touched moment m) (touched_by moment ms) vs) in
    let begun_all : flat_map (begun holder moment) (ms ++ m ∷ []) ≡ new ++ one = flat_map-append (begun holder moment) ms (m ∷ []) in
    let left : versions_after holder moment (ms ++ m ∷ []) vs ≡ map (touched moment m) (map (touched_by moment ms) vs) ++ (new ++ one)
    = rw (old, begun_all) refl in
    let right : map (touched moment m) (map (touched_by moment ms) vs ++ new) ≡ map (touched moment m)
    (map (touched_by moment ms) vs) ++ new =
    map-append (touched moment m) (map (touched_by moment ms) vs)
    new ∙ ap (λ (l : List Version). map (touched moment m) (map (touched_by moment ms) vs) ++ l) (begun-touched holder moment m ms e) in
    left ∙ (sym (append_assoc (map (touched moment m) (map (touched_by moment ms) vs)) new one) ∙ ap (λ (l : List Version). l ++ one)
    (sym right))
  where
    each : (l : List Version) → map (touched_by moment (ms ++ m ∷ [])) l ≡ map (λ v. touched moment m (touched_by moment ms v)) l
    each [] = refl
    each (v ∷ l) = rw (each l) (ap (λ (w : Version). w ∷ map (λ v. touched moment m (touched_by moment ms v)) l)
        (fold-append (λ (w : Version) (mutation : Mutation). touched moment mutation w) v ms (m ∷ [])))
