-- A holder's map: its area and its current objects, and what a change makes of it.
use Rattle.std.specs.BTreeSet.{BTreeSet}
use Rattle.std.specs.Prelude.{◌≡◌, ◌≢◌, ◌↔◌, ◌+◌, ◌<◌, ◌^◌, ◌&&◌, ◌++◌, not, pos, Bool, ℕ, List, map, filter, length, Option, Some, None, unwrap_or}
use Rattle.std.specs.List.{AllPairs, All, Contains, list_any}
use Rattle.std.specs.Ordering.{int_eq}
use Rattle.std.specs.Str.{bytes_eq}
use Rattle.rd_plane.specs.Covering.{IsSoundArea}
use Rattle.rd_plane.specs.Plane.{Vertex}
use Rattle.imgeo_types.specs.Kinds.{is_dividing}
use Rattle.level_rules.specs.declared.item.LevelItem.{LevelItem}
use Rattle.local_check.specs.declared.fault.MapFault.{MapFault}
use Rattle.local_check.specs.declared.fault.MapFault.TheVariants as fault
use Rattle.local_check.specs.declared.change.Change.{Change}

-- the area, and the current objects
pub record HolderParts : Type 0 where
  pub area : List (List (List Vertex))
  pub parts : List LevelItem

-- the map, and the tried one where a change is tried
pub record MapView : Type 0 where
  pub now : HolderParts
  pub tried : Option HolderParts

-- a part of a dividing kind at ground level
abbrev pub is_ground : LevelItem → Bool
is_ground p = is_dividing p.kind && int_eq p.level (pos 0)

-- the shapes of the ground parts
abbrev pub ground_of : List LevelItem → List (List (List Vertex))
ground_of parts = map (λ (p : LevelItem). p.shape) (filter is_ground parts)

-- the part's identification is one of those that leave
abbrev pub leaves : List (List ℕ) → LevelItem → Bool
leaves leaving p = list_any (bytes_eq p.ident) leaving

-- the set has just these identifications
abbrev pub IsSetOf : List (List ℕ) → BTreeSet (List ℕ) → Type 0
IsSetOf idents set = (q : List ℕ) → Contains set.keys q ↔ Contains idents q

-- the parts that stay
abbrev pub staying : List (List ℕ) → List LevelItem → List LevelItem
staying leaving parts = filter (λ p. not (leaves leaving p)) parts

-- the parts that stay, and behind them those that come
abbrev pub parts_after : Change → List LevelItem → List LevelItem
parts_after change parts = staying change.leaving parts ++ change.coming

-- the map that a change makes
abbrev pub changed : Change → HolderParts → HolderParts
changed change m = record { area = unwrap_or change.area m.area; parts = parts_after change m.parts }

-- what is asked of a change: what leaves is current and different, what comes is different and new once that is gone, its
-- area is sound, and there are few parts
pub record IsRightChange (m : HolderParts) (change : Change) : Type 0 where
  pub leaving : All (λ ident. Contains (map (λ (p : LevelItem). p.ident) m.parts) ident) change.leaving
  pub different : AllPairs ◌≢◌ change.leaving
  pub new : AllPairs ◌≢◌ (map (λ (p : LevelItem). p.ident) (parts_after change m.parts))
  pub area : (shapes : List (List (List Vertex))) → change.area ≡ Some shapes → IsSoundArea shapes
  pub few : length m.parts + length change.coming < 2 ^ 32

-- the refusal that a fault tells; lack of memory tells none
abbrev pub refusal_of : MapFault → Option MapFault
refusal_of fault.NoMemory = None
refusal_of f = Some f
