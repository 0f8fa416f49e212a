-- The borders of a holder's map: those of its area, run the other way, and those of its ground parts, each with its number.
use Rattle.std.specs.Prelude.{◌≡◌, ◌≢◌, ◌+◌, ℕ, cond, Bool, List, [], ◌++◌, map, reverse, filter, length, Option, Some, None, IsSome, is_some, unwrap_or, All}
use Rattle.std.specs.List.{AllPairs, Contains, flat_map, count_by}
use Rattle.rd_plane.specs.Plane.{Vertex}
use Rattle.rd_plane.specs.Shapes.{IsSoundShape, all_edges}
use Rattle.half_edge.specs.declared.border.Border.{Border}
use Rattle.half_edge.specs.declared.border.Owner.{Owner}
use Rattle.half_edge.specs.declared.border.Owner.TheVariants.{Area, Part}
use Rattle.half_edge.specs.Ground.{Standing, AreStanding, stands, stood}
use Rattle.half_edge.specs.Sides.{Side, sides}
use Rattle.level_rules.specs.declared.item.LevelItem.{LevelItem}
use Rattle.local_check.specs.declared.change.Change.{Change}
use Rattle.local_check.specs.declared.numbers.Numbers.{Numbers}
use Rattle.local_check.specs.Maps.{HolderParts, MapView, ground_of, is_ground, leaves}
use Rattle.local_check.specs.Numbered.{IsNumbering, number_at, number_in}

-- a ring as a border of that owner
abbrev pub ring_border : Owner → List Vertex → Border
ring_border owner ring = record { owner = owner; ring = ring }

-- a ring of the area, run the other way
abbrev pub turned_border : List Vertex → Border
turned_border ring = ring_border Area (reverse ring)

-- the rings of a shape of the area, each run the other way
abbrev pub shape_borders : List (List Vertex) → List Border
shape_borders rings = map turned_border rings

-- the borders of the area
abbrev pub area_borders : List (List (List Vertex)) → List Border
area_borders shapes = flat_map shape_borders shapes

-- the rings of a ground part, with its number; an object that is no ground part has no border
abbrev pub part_borders : (List ℕ → ℕ) → LevelItem → List Border
part_borders number p = cond (is_ground p) (map (ring_border (Part (number p.ident))) p.shape) []

-- the borders of the ground parts
abbrev pub parts_borders : (List ℕ → ℕ) → List LevelItem → List Border
parts_borders number parts = flat_map (part_borders number) parts

-- the borders of the map: its area's, and its ground parts'
abbrev pub map_borders : (List ℕ → ℕ) → HolderParts → List Border
map_borders number m = area_borders m.area ++ parts_borders number m.parts

-- the borders that stand are, in any order, those of the map, and each ground part has a number of its own
pub record IsGroundOf (g : Standing) (m : HolderParts) : Type 0 where
  pub number : List ℕ → ℕ
  pub apart : AllPairs (λ p q. number p.ident ≢ number q.ident) (filter is_ground m.parts)
  pub borders : AreStanding g (map_borders number m)

-- ---- a change
-- the parts that leave
abbrev pub leaving_of : List (List ℕ) → List LevelItem → List LevelItem
leaving_of leaving parts = filter (leaves leaving) parts

-- the area that goes, where a new one comes
abbrev pub old_area : Option (List (List (List Vertex))) → List (List (List Vertex)) → List (List (List Vertex))
old_area None area = []
old_area (Some new) area = area

-- how many border edges the change takes out of the map
abbrev pub edges_out : Change → HolderParts → ℕ
edges_out change m = length (all_edges (old_area change.area m.area)) + length (all_edges (ground_of (leaving_of change.leaving m.parts)))

-- how many border edges it adds
abbrev pub edges_in : Change → ℕ
edges_in change = length (all_edges (unwrap_or change.area [])) + length (all_edges (ground_of change.coming))

-- the borders that go
abbrev pub borders_out : (List ℕ → ℕ) → Change → HolderParts → List Border
borders_out number change m = area_borders (old_area change.area m.area) ++ parts_borders number (leaving_of change.leaving m.parts)

-- the borders that come
abbrev pub borders_in : (List ℕ → ℕ) → Change → List Border
borders_in number change = area_borders (unwrap_or change.area []) ++ parts_borders number change.coming

-- its identification
abbrev pub ident_in : LevelItem → List ℕ
ident_in p = p.ident

-- no two of the objects have one identification
abbrev pub AreDifferent : List LevelItem → Type 0
AreDifferent parts = AllPairs ◌≢◌ (map ident_in parts)

-- the identification is that of one of the objects
abbrev pub Names : List LevelItem → List ℕ → Type 0
Names parts ident = Contains (map ident_in parts) ident

-- whatever is counted, there is as much of it in the sides of the one list as in those of the other
abbrev pub CountAs : List Border → List Border → Type 0
CountAs bs cs = (p : Side → Bool) → count_by p (sides bs) ≡ count_by p (sides cs)

-- the borders of the object with this identification come behind the old ones
pub record AddsLeaver (number : List ℕ → ℕ) (parts : List LevelItem) (ident : List ℕ) (old new : List Border) : Type 0 where
  pub part : LevelItem
  pub there : Contains parts part
  pub named : part.ident ≡ ident
  pub added : new ≡ old ++ part_borders number part

-- ---- what ties the half-edges to the map
-- the sides are those of the map's borders, in any order; its objects differ, have numbers, and are sound on the ground
pub record IsLinked (n : Numbers) (ss : List Side) (m : HolderParts) : Type 0 where
  pub known : All (λ p. IsSome (number_at n p.ident)) m.parts
  pub different : AreDifferent m.parts
  pub sound : All IsSoundShape (ground_of m.parts)
  pub borders : (p : Side → Bool) → count_by p ss ≡ count_by p (sides (map_borders (number_in n) m))

-- what stands is the map that is tried, or else the map; what stood is the map
pub record AreTied (n : Numbers) (g : Standing) (v : MapView) : Type 0 where
  pub numbering : IsNumbering n
  pub tried : g.tried ≡ is_some v.tried
  pub now : IsLinked n (stood g) v.now
  pub next : IsLinked n (stands g) (unwrap_or v.tried v.now)
