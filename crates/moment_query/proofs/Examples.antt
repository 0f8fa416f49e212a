-- Two cells at two moments: what the definitions say of them.
use Rattle.std.proofs.Common.{◌≡◌, [], ◌∷◌, ℕ, ℤ, pos, List, Option, Some, None, codes, refl}
use Rattle.rd_plane.specs.Plane.{Vertex, between, cross, in_box, lies_in, off, on, rises, same_int, side}
use Rattle.imgeo_types.specs.declared.item.Item.{Item}
use Rattle.imgeo_types.specs.declared.kind.Kind.TheVariants.{OnbegroeidTerreindeel}
use Rattle.message_text.specs.declared.message.Mutation.TheVariants as mutation
use Rattle.message_text.specs.declared.token.Token.TheVariants.{Add, Outer}
use Rattle.message_text.specs.Texts.{item_line}
use Rattle.version_history.specs.declared.version.Version.{Version}
use Rattle.version_history.specs.Moments.{placed, in_order}
use Rattle.area_book.specs.declared.version.AreaVersion.{AreaVersion}
use Rattle.map_rules.specs.State.{State}
use Rattle.moment_query.specs.Exports.{exported, once}
use Rattle.moment_query.specs.Points.{IsPointWord}
use Rattle.moment_query.specs.Rows.{AreaOf, ObjectOf, Says, Word}
use Rattle.moment_query.specs.Queries.{state_rows, history_rows}

vertex : ℕ → ℕ → Vertex
vertex x y = record { x = pos x; y = pos y }

ring : List Vertex
ring = vertex 0 0 ∷ vertex 10 0 ∷ vertex 10 10 ∷ []

item : Item
item = record {
  kind = OnbegroeidTerreindeel;
  level = pos 0;
  begin = pos 0;
  functie = None;
  voorkomen = Some (codes "erf");
  soort = None;
  pand = None;
  rings = ring ∷ [];
}

version : List ℕ → ℕ → Option ℤ → Version
version ident since until = record { holder = codes "G1"; ident = ident; item = item; since = pos since; until = until; end_day = None }

area : AreaVersion
area = record { holder = codes "G1"; shapes = (ring ∷ []) ∷ []; since = pos 1; until = None }

-- B was made before A; A was changed at 2
state : State
state = record {
  versions = version (codes "B") 1 None ∷ version (codes "A") 1 (Some (pos 2)) ∷ version (codes "A") 2 None ∷ [];
  areas = area ∷ [];
  last = [];
  accepted = 2;
}

-- at 1 the old version holds, by rising identification; at 2 the new one
at_1 : state_rows state (pos 1) ≡ AreaOf (codes "G1") (pos 1) None ∷ Says (Outer ring)
    ∷ ObjectOf (codes "G1") (pos 1) (Some (pos 2)) None ∷ Says (Add (codes "A") (item_line item)) ∷ Says (Outer ring)
    ∷ ObjectOf (codes "G1") (pos 1) None None ∷ Says (Add (codes "B") (item_line item)) ∷ Says (Outer ring) ∷ []
unfolding state area version item ring in_order placed
at_1 = refl

at_2 : state_rows state (pos 2) ≡ AreaOf (codes "G1") (pos 1) None ∷ Says (Outer ring)
    ∷ ObjectOf (codes "G1") (pos 2) None None ∷ Says (Add (codes "A") (item_line item)) ∷ Says (Outer ring)
    ∷ ObjectOf (codes "G1") (pos 1) None None ∷ Says (Add (codes "B") (item_line item)) ∷ Says (Outer ring) ∷ []
unfolding state area version item ring in_order placed
at_2 = refl

-- before it nothing does
at_0 : state_rows state (pos 0) ≡ []
unfolding state area version item ring in_order placed
at_0 = refl

history_of_a : history_rows state (codes "A") ≡ ObjectOf (codes "G1") (pos 1) (Some (pos 2)) None ∷ Says (Add (codes "A") (item_line item)) ∷ Says (Outer ring)
    ∷ ObjectOf (codes "G1") (pos 2) None None ∷ Says (Add (codes "A") (item_line item)) ∷ Says (Outer ring) ∷ []
unfolding state area version item ring
history_of_a = refl

history_of_none : history_rows state (codes "C") ≡ Word (codes "NONE") ∷ []
unfolding state area version item ring
history_of_none = refl

-- ---- points of a triangle that is an object since 1
one : State
one = record state { versions = version (codes "A") 1 None ∷ [] }

inside : IsPointWord one (pos 1) (vertex 8 3) (codes "A")
unfolding one state area version item ring vertex between cross in_box lies_in off on rises same_int side
inside = refl

-- not yet
before : IsPointWord one (pos 0) (vertex 8 3) (codes "NONE")
unfolding one state area version item ring vertex between cross in_box lies_in off on rises same_int side
before = refl

outside : IsPointWord one (pos 1) (vertex 3 8) (codes "NONE")
unfolding one state area version item ring vertex between cross in_box lies_in off on rises same_int side
outside = refl

edge : IsPointWord one (pos 1) (vertex 5 5) (codes "BORDER")
unfolding one state area version item ring vertex between cross in_box lies_in off on rises same_int side
edge = refl

-- ---- exports: G2 has an object and no area, G1 both, G3 an area without a shape
three : State
three = record state {
  versions = record (version (codes "C") 1 None) { holder = codes "G2" } ∷ version (codes "B") 1 None ∷ version (codes "A") 2 None ∷ [];
  areas = record area { holder = codes "G3"; shapes = [] } ∷ area ∷ [];
}

exported_at_1 : exported three (pos 1)
    ≡ record { holder = codes "G1"; moment = pos 1; area = Some ((ring ∷ []) ∷ []); mutations = mutation.Add (codes "B") item ∷ [] }
    ∷ record { holder = codes "G2"; moment = pos 1; area = Some []; mutations = mutation.Add (codes "C") item ∷ [] } ∷ []
unfolding three state area version item ring once in_order placed
exported_at_1 = refl

exported_at_2 : exported three (pos 2)
    ≡ record {
      holder = codes "G1";
      moment = pos 2;
      area = Some ((ring ∷ []) ∷ []);
      mutations = mutation.Add (codes "A") item ∷ mutation.Add (codes "B") item ∷ [];
    }
    ∷ record { holder = codes "G2"; moment = pos 2; area = Some []; mutations = mutation.Add (codes "C") item ∷ [] } ∷ []
unfolding three state area version item ring once in_order placed
exported_at_2 = refl

exported_at_0 : exported three (pos 0) ≡ []
unfolding three state area version item ring once in_order placed
exported_at_0 = refl
