-- Versions of areas: which is a holder's current one, and what a new area leaves.
use Rattle.std.specs.Prelude.{ℕ, ℤ, int_lt, Bool, ◌&&◌, List, [], ◌∷◌, ◌++◌, map, find, fold, Option, Some, None, is_none, option_map, unwrap_or}
use Rattle.std.specs.Bool.{if◌then◌else◌}
use Rattle.std.specs.Str.{bytes_eq}
use Rattle.rd_plane.specs.Plane.{Vertex}
use Rattle.area_book.specs.declared.version.AreaVersion.{AreaVersion}

-- a book as its reader sees it: all versions in order of making, and the same list as it was at the last `keep`
pub record BookView : Type 0 where
  pub areas : List AreaVersion
  pub kept : List AreaVersion

-- the later of a moment, where there is one, and another
abbrev pub later_of : Option ℤ → ℤ → Option ℤ
later_of None t = Some t
later_of (Some u) t = Some (if int_lt u t then t else u)

-- the greatest moment from which a version holds, where there is a version
abbrev pub newest_area : List AreaVersion → Option ℤ
newest_area areas = fold (λ (latest : Option ℤ) (a : AreaVersion). later_of latest a.since) None areas

-- the current version of the holder's area
abbrev pub is_area_of : List ℕ → AreaVersion → Bool
is_area_of holder a = bytes_eq a.holder holder && is_none a.until

-- the shapes of the holder's current area, none where it has no area
abbrev pub area_of : List ℕ → List AreaVersion → List (List (List Vertex))
area_of holder areas = unwrap_or (option_map (λ (a : AreaVersion). a.shapes) (find (is_area_of holder) areas)) []

-- the holder's current area ends
abbrev pub area_ended : List ℕ → ℤ → AreaVersion → AreaVersion
area_ended holder moment a = if is_area_of holder a then record a { until = Some moment } else a

-- a version that begins
abbrev pub new_area : List ℕ → ℤ → List (List (List Vertex)) → AreaVersion
new_area holder moment shapes = record { holder = holder; shapes = shapes; since = moment; until = None }

-- the shapes replace the holder's area
abbrev pub areas_with : List ℕ → ℤ → List (List (List Vertex)) → List AreaVersion → List AreaVersion
areas_with holder moment shapes areas = map (area_ended holder moment) areas ++ new_area holder moment shapes ∷ []
