-- A corner of the border and the middle behind it, along each side.
use Rattle.std.specs.Prelude.{ℕ, List, ◌+◌, [], ◌∷◌}
use Rattle.rd_plane.specs.Plane.{Vertex}
use Rattle.map_maker.specs.Made.{corner, east, north}

abbrev pub in_south : ℕ → List Vertex
in_south i = corner i 0 ∷ east i 0 ∷ []

abbrev pub in_east : ℕ → ℕ → List Vertex
in_east n j = corner n j ∷ north n j ∷ []

abbrev pub in_north : ℕ → ℕ → List Vertex
in_north n i = corner (i + 1) n ∷ east i n ∷ []

abbrev pub in_west : ℕ → List Vertex
in_west j = corner 0 (j + 1) ∷ north 0 j ∷ []
