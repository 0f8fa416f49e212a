-- The border edges near those that a change puts in.
use Rattle.std.specs.Prelude.{◌⊎◌, ℕ, List, [], ◌∷◌, map, Option, Some, None, slice_index_or}
use Rattle.std.specs.List.{Contains}
use Rattle.rd_plane.specs.Plane.{Vertex, Segment, reversed}
use Rattle.rd_plane.specs.Shapes.{all_edges}
use Rattle.level_rules.specs.declared.item.LevelItem.{LevelItem}
use Rattle.local_check.specs.Maps.{ground_of, staying}
use Rattle.local_check.specs.Placed.{present}

-- the edges of the object at the place, where it is a ground part that stays
abbrev pub own_at : List (List ℕ) → List (Option LevelItem) → ℕ → List Segment
own_at leaving slots place = all_edges (ground_of (staying leaving (present (slice_index_or slots place None ∷ []))))

-- edges of ground parts that stay are added, among them those at these places
pub record AddsNear (leaving : List (List ℕ)) (slots : List (Option LevelItem)) (places : List ℕ) (old new : List Segment) : Type 0 where
  pub kept : (e : Segment) → Contains old e → Contains new e
  pub here : (place : ℕ) (e : Segment) → Contains places place → Contains (own_at leaving slots place) e → Contains new e
  pub those : (e : Segment) → Contains new e → Contains old e ⊎ Contains (all_edges (ground_of (staying leaving (present slots)))) e

-- the area that stays, where no new one comes
abbrev pub area_kept : Option (List (List (List Vertex))) → List (List (List Vertex)) → List (List (List Vertex))
area_kept None area = area
area_kept (Some new) area = []

-- the edges of an area, each run the other way
abbrev pub turned : List (List (List Vertex)) → List Segment
turned shapes = map reversed (all_edges shapes)
