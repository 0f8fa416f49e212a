-- The level rule: two objects of the plane at one level other than 0 share no point off their borders.
use Rattle.std.specs.Prelude.{◌≡◌, ◌≢◌, ◌⊎◌, ◌<◌, ℕ, pos, List, length, slice_index_or, IsTrue, IsSome, Some}
use Rattle.std.specs.Bool.{if◌then◌else◌}
use Rattle.std.specs.Cmp.Lexicographic.{slice_cmp}
use Rattle.std.specs.FinMap as map
use Rattle.std.specs.List.{AllPairs, Contains}
use Rattle.std.specs.Ordering.{nat_cmp, is_lt, then_cmp}
use Rattle.std.specs.Ordering.{on as by}
use Rattle.std.specs.declared.cmp.Ordering.{Ordering}
use Rattle.rd_plane.specs.Bounds.{Box, IsLeastBox}
use Rattle.rd_plane.specs.Order.{IsLeast}
use Rattle.rd_plane.specs.Shapes.{shape_edges}
use Rattle.slab_wind.specs.Sharing.{Share}
use Rattle.imgeo_types.specs.Kinds.{is_plane}
use Rattle.part_shape.specs.Faults.{corners_of}
use Rattle.level_rules.specs.declared.item.LevelItem.{LevelItem}

-- the rule speaks of the object: it is at a level other than 0, and of the plane
abbrev pub IsLevelled : LevelItem → Type 0
IsLevelled x = (x.level ≢ pos 0) × IsTrue (is_plane x.kind)

-- the two are at one level other than 0, both of the plane, and share a point off their borders
pub record BreakLevels (x y : LevelItem) : Type 0 where
  pub level : x.level ≡ y.level
  pub off_ground : x.level ≢ pos 0
  pub first : IsTrue (is_plane x.kind)
  pub second : IsTrue (is_plane y.kind)
  pub share : Share (shape_edges x.shape) (shape_edges y.shape)

-- no two of the objects do
abbrev pub LevelsHold : List LevelItem → Type 0
LevelsHold objects = AllPairs (λ x y. BreakLevels x y → ⊥) objects

-- a pair of identifications, the smaller first
abbrev pub pair_of : List ℕ → List ℕ → List ℕ × List ℕ
pair_of a b = if is_lt (slice_cmp nat_cmp a b) then (a, b) else (b, a)

-- pairs in order: by the first, then by the second
abbrev pub pair_cmp : List ℕ × List ℕ → List ℕ × List ℕ → Ordering
pair_cmp = then_cmp (by (λ (p : List ℕ × List ℕ). p.0) (slice_cmp nat_cmp)) (by (λ (p : List ℕ × List ℕ). p.1) (slice_cmp nat_cmp))

-- two of the objects break the rule, and are this pair
pub record BreaksIn (objects : List LevelItem) (pair : List ℕ × List ℕ) : Type 0 where
  pub one : ℕ
  pub other : ℕ
  pub before : one < other
  pub inside : other < length objects
  pub breaks : (d : LevelItem) → BreakLevels (slice_index_or objects one d) (slice_index_or objects other d)
  pub is : (d : LevelItem) → pair ≡ pair_of (slice_index_or objects one d).ident (slice_index_or objects other d).ident

-- a new object and one that stays break the rule, and are this pair
pub record BreaksBetween (items mates : List LevelItem) (pair : List ℕ × List ℕ) : Type 0 where
  pub item : LevelItem
  pub mate : LevelItem
  pub new : Contains items item
  pub stays : Contains mates mate
  pub breaks : BreakLevels item mate
  pub is : pair ≡ pair_of item.ident mate.ident

-- a pair with a new object
abbrev pub BreaksWith : List LevelItem → List LevelItem → List ℕ × List ℕ → Type 0
BreaksWith items mates pair = BreaksIn items pair ⊎ BreaksBetween items mates pair

-- ---- mates by an index
-- each slot of the index is a place of a mate, and has the box of its shape
abbrev pub IsIndexOf : List LevelItem → map.FinMap nat_cmp Box → Type 0
IsIndexOf mates index = (slot : ℕ) (box : Box) → map.get index slot ≡ Some box
    → (slot < length mates) × ((d : LevelItem) → IsLeastBox (corners_of (slice_index_or mates slot d).shape) box)

-- of the first so many objects the index has just those that the rule speaks of, each with its box under its place
pub record HasBoxes (objects : List LevelItem) (index : map.FinMap nat_cmp Box) (to : ℕ) : Type 0 where
  pub boxes : (slot : ℕ) (box : Box) → map.get index slot ≡ Some box → (slot < to)
      × ((d : LevelItem) → IsLevelled (slice_index_or objects slot d) × IsLeastBox (corners_of (slice_index_or objects slot d).shape) box)
  pub whole : (slot : ℕ) → slot < to → ((d : LevelItem) → IsLevelled (slice_index_or objects slot d)) → IsSome (map.get index slot)

-- the mate stands in the index, and its identification is not one of those that leave
pub record Stays (mates : List LevelItem) (index : map.FinMap nat_cmp Box) (leaving : List (List ℕ)) (mate : LevelItem) : Type 0 where
  pub slot : ℕ
  pub box : Box
  pub is : map.get index slot ≡ Some box
  pub at : (d : LevelItem) → mate ≡ slice_index_or mates slot d
  pub kept : Contains leaving mate.ident → ⊥

-- a pair of a new object with another, or with a mate that stays
pub record BreaksNew (items mates : List LevelItem) (index : map.FinMap nat_cmp Box) (leaving : List (List ℕ))
    (pair : List ℕ × List ℕ) : Type 0 where
  pub case : BreaksIn items pair ⊎ ((item mate : LevelItem) × Contains items item × Stays mates index leaving mate × BreakLevels item mate
      × (pair ≡ pair_of item.ident mate.ident))

-- the pair is the least of them
abbrev pub IsLeastFault : List LevelItem → List LevelItem → map.FinMap nat_cmp Box → List (List ℕ) → List ℕ × List ℕ → Type 0
IsLeastFault items mates index leaving pair = IsLeast pair_cmp (BreaksNew items mates index leaving) pair
