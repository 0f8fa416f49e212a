-- How a book stands: its versions and the current one of each holder; and how it stood before areas were set.
use Rattle.std.specs.Prelude.{◌≡◌, ◌≢◌, ◌-◌, ◌<◌, ℕ, ℤ, List, [], ◌∷◌, ◌++◌, length, map, take, suc, zero, position, slice_get, slice_index_or, slice_set, Option, Some, None, MatchOption, option_map}
use Rattle.std.specs.List.{All, AllPairs, Contains, flat_map}
use Rattle.std.specs.Str.{bytes_eq}
use Rattle.rd_plane.specs.Bounds.{Box, HaveCommonPoint, IsLeastBox}
use Rattle.rd_plane.specs.Plane.{Vertex}
use Rattle.part_shape.specs.Faults.{corners_of}
use Rattle.area_book.specs.declared.current.Current.{Current}
use Rattle.area_book.specs.declared.undo.Replaced.{Replaced}
use Rattle.area_book.specs.declared.version.AreaVersion.{AreaVersion}
use Rattle.area_book.specs.Areas.{new_area, newest_area}
use Rattle.area_book.specs.Throughout.{IsSoundBook}

-- all versions in order of making, and the current one of each holder that has an area
pub record Standing : Type 0 where
  pub areas : List AreaVersion
  pub current : List Current

-- ---- boxes of areas
-- the corners of all shapes
abbrev pub all_corners : List (List (List Vertex)) → List Vertex
all_corners shapes = flat_map corners_of shapes

-- the least box of the corners, none where there are no shapes
abbrev pub IsBoxOf : Option Box → List (List (List Vertex)) → Type 0
IsBoxOf bounds shapes = MatchOption bounds (shapes ≡ []) (IsLeastBox (all_corners shapes))

-- both have a box, and the boxes have a common point
abbrev pub BoxesMeet : Option Box → Option Box → Type 0
BoxesMeet (Some box) (Some other) = HaveCommonPoint box other
BoxesMeet _ _ = ⊥

-- ---- current areas
-- the version is the holder's current area, with its box
pub record IsCurrentAs (c : Current) (a : AreaVersion) : Type 0 where
  pub holder : a.holder ≡ c.holder
  pub open_end : a.until ≡ None
  pub boxed : IsBoxOf c.bounds a.shapes

-- its version is there
pub record IsCurrentIn (areas : List AreaVersion) (c : Current) : Type 0 where
  pub inside : c.place < length areas
  pub is : (d : AreaVersion) → IsCurrentAs c (slice_index_or areas c.place d)

-- just the current versions, of each holder one
pub record AreCurrent (current : List Current) (areas : List AreaVersion) : Type 0 where
  pub each : All (IsCurrentIn areas) current
  pub whole : (a : AreaVersion) (at : Contains areas a) → a.until ≡ None → (c : Current) × Contains current c × (c.place ≡ at.0)
  pub apart : AllPairs ◌≢◌ (map (λ (c : Current). c.holder) current)

-- the place of the holder among those that have an area
abbrev pub place_in : List ℕ → List Current → Option ℕ
place_in holder current = position (λ (c : Current). bytes_eq c.holder holder) current

-- the moment from which the version that was made last holds
abbrev pub last_since : List AreaVersion → Option ℤ
last_since areas = option_map (λ (a : AreaVersion). a.since) (slice_get areas (length areas - 1))

-- what holds of a book however it stands
pub record IsSoundStanding (s : Standing) : Type 0 where
  pub sound : IsSoundBook s.areas
  pub current : AreCurrent s.current s.areas
  pub newest : newest_area s.areas ≡ last_since s.areas

-- ---- an area that is set is taken back
-- the version at this place ends there
abbrev pub ending_at : ℕ → Option ℤ → List AreaVersion → List AreaVersion
ending_at place until [] = []
ending_at zero until (a ∷ areas) = record a { until = until } ∷ areas
ending_at (suc place) until (a ∷ areas) = a ∷ ending_at place until areas

-- without the last
abbrev pub but_last : {X : Type 0} → List X → List X
but_last xs = take (length xs - 1) xs

-- how the book stood before the last area was set, which replaced this one, or none
abbrev pub stood_before : Option Replaced → Standing → Standing
stood_before None s = record { areas = but_last s.areas; current = but_last s.current }
stood_before (Some r) s = record { areas = ending_at r.before.place None (but_last s.areas); current = slice_set s.current r.at r.before }

-- how it stood before the areas were set that replaced these, in order of making
abbrev pub stood : List (Option Replaced) → Standing → Standing
stood [] s = s
stood (r ∷ replaced) s = stood_before r (stood replaced s)

-- ---- an area that is set
-- this one becomes its holder's current area, and what was current before it ends at the moment
abbrev pub IsReplaced : Current → ℤ → Standing → Option Replaced → Standing → Type 0
IsReplaced one moment old None new
    = (place_in one.holder old.current ≡ None) × (new ≡ record { areas = old.areas; current = old.current ++ one ∷ [] })
IsReplaced one moment old (Some r) new
    = (place_in one.holder old.current ≡ Some r.at) × (r.before ≡ slice_index_or old.current r.at r.before)
    × (new ≡ record { areas = ending_at r.before.place (Some moment) old.areas; current = slice_set old.current r.at one })

-- the shapes are the holder's current area from the moment on, as the last version, and what they replace is noted
pub record IsSetBy (holder : List ℕ) (moment : ℤ) (shapes : List (List (List Vertex))) (old new : Standing)
    (before after : List (Option Replaced)) : Type 0 where
  pub one : Current
  pub replaced : Option Replaced
  pub middle : Standing
  pub own : one.holder ≡ holder
  pub at_end : one.place ≡ length old.areas
  pub boxed : IsBoxOf one.bounds shapes
  pub is : IsReplaced one moment old replaced middle
  pub added : new ≡ record { areas = middle.areas ++ new_area holder moment shapes ∷ []; current = middle.current }
  pub noted : after ≡ before ++ replaced ∷ []

-- the fields of a book fit each other
pub record Fits (areas : List AreaVersion) (current : List Current) (undo : List (Option Replaced)) : Type 0 where
  pub now : IsSoundStanding (record { areas = areas; current = current })
  pub kept : IsSoundStanding (stood undo (record { areas = areas; current = current }))
