-- Where the objects of a map stand: each at a place of its own, in order of coming.
use Rattle.std.specs.Prelude.{◌≡◌, ◌≤◌, ◌+◌, ℕ, cond, List, length, reverse, Option, Some, None, IsSome, IfSome, option_map, option_to_list, slice_index_or, vec_capacity, All}
use Rattle.std.specs.List.{flat_map}
use Rattle.std.specs.Str.{bytes_eq}
use Rattle.level_rules.specs.declared.item.LevelItem.{LevelItem}
use Rattle.local_check.specs.declared.change.Change.{Change}
use Rattle.local_check.specs.declared.map.Map.{Map}
use Rattle.local_check.specs.declared.map.Tried.{Tried}
use Rattle.local_check.specs.declared.places.Places.{Places}
use Rattle.local_check.specs.Kept.{AreBoxed, AreBoxedFrom}
use Rattle.local_check.specs.Maps.{HolderParts, MapView, changed}
use Rattle.local_check.specs.Numbered.{number_at, place_at}

-- the objects at the places, in their order
abbrev pub present : List (Option LevelItem) → List LevelItem
present slots = flat_map option_to_list slots

-- the object at a place, if there is one
abbrev pub at_place : List (Option LevelItem) → ℕ → Option LevelItem
at_place slots k = slice_index_or slots k None

-- nothing where the object has this identification, else what was there
abbrev pub cleared : List ℕ → Option LevelItem → Option LevelItem
cleared ident None = None
cleared ident (Some p) = cond (bytes_eq p.ident ident) None (Some p)

-- of each object that stands its place is kept, and those that stand are counted
pub record IsPlaced (s : Places) : Type 0 where
  pub at : (k : ℕ) (p : LevelItem) → at_place s.slots.items k ≡ Some p → place_at s.numbers p.ident ≡ Some k
  pub count : s.count ≡ length (present s.slots.items)

-- there is room for these objects, the last of which comes first, each has a number, and their boxes are kept
pub record HasRoomFor (s : Places) (coming : List LevelItem) : Type 0 where
  pub room : length s.slots.items + length coming ≤ vec_capacity s.slots
  pub known : All (λ p. IsSome (number_at s.numbers p.ident)) coming
  pub boxes : AreBoxedFrom s.boxes (length s.slots.items) (reverse coming)

-- what contracts see of a map
abbrev pub parts_of : Map → HolderParts
parts_of m = record { area = m.area; parts = present m.parts.slots.items }

-- the change that is tried
abbrev pub change_of : Tried → Change
change_of t = record { area = t.area; leaving = t.leaving; coming = reverse t.coming.items }

-- the map, and the one that the tried change makes of it
abbrev pub view_of : Map → Option Tried → MapView
view_of now tried = record { now = parts_of now; tried = option_map (λ t. changed (change_of t) (parts_of now)) tried }

-- places and boxes are kept, and there is room for what a tried change brings
pub record IsReadyFor (m : Map) (tried : Option Tried) : Type 0 where
  pub placed : IsPlaced m.parts
  pub boxed : AreBoxed m.parts.boxes m.parts.slots.items
  pub room : IfSome tried (λ t. HasRoomFor m.parts t.coming.items)
