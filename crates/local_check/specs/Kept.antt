-- The boxes that are kept of objects, each under the place of its object.
use Rattle.std.specs.Prelude.{◌≡◌, ◌+◌, ◌<◌, ℕ, List, Option, Some, None, length, slice_index_or}
use Rattle.std.specs.FinMap as map
use Rattle.std.specs.List.{Contains}
use Rattle.std.specs.Ordering.{nat_cmp}
use Rattle.rd_plane.specs.Bounds.{Box, HaveCommonPoint, IsLeastBox}
use Rattle.rd_plane.specs.Plane.{Vertex}
use Rattle.part_shape.specs.Faults.{corners_of}
use Rattle.level_rules.specs.declared.item.LevelItem.{LevelItem}

-- the box of the object is kept under the place
pub record HasBox (boxes : map.FinMap nat_cmp Box) (place : ℕ) (p : LevelItem) : Type 0 where
  pub box : Box
  pub is : map.get boxes place ≡ Some box
  pub least : IsLeastBox (corners_of p.shape) box

-- of each object that stands its box is kept
abbrev pub AreBoxed : map.FinMap nat_cmp Box → List (Option LevelItem) → Type 0
AreBoxed boxes slots = (place : ℕ) (p : LevelItem) → slice_index_or slots place None ≡ Some p → HasBox boxes place p

-- of the objects the boxes are kept under successive places, from this one on
abbrev pub AreBoxedFrom : map.FinMap nat_cmp Box → ℕ → List LevelItem → Type 0
AreBoxedFrom boxes from parts = (k : ℕ) (d : LevelItem) → k < length parts → HasBox boxes (from + k) (slice_index_or parts k d)

-- each place whose box meets that of the rings is found
pub record FindsNear (boxes : map.FinMap nat_cmp Box) (near : List ℕ) (rings : List (List Vertex)) : Type 0 where
  pub box : Box
  pub least : IsLeastBox (corners_of rings) box
  pub found : (place : ℕ) (own : Box) → map.get boxes place ≡ Some own → HaveCommonPoint own box → Contains near place
