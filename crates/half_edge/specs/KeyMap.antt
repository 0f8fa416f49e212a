-- The slots of edges, and the log of what changed since the last `keep`.
use Rattle.std.specs.Prelude.{◌≡◌, ◌⊎◌, ◌+◌, ◌&&◌, ◌||◌, ◌++◌, ℕ, Bool, true, false, not, cond, int_lt, List, [], ◌∷◌, Option, Some, None}
use Rattle.std.specs.Ordering.{int_eq}
use Rattle.std.specs.Map.{lookup}
use Rattle.rd_plane.specs.Plane.{Vertex, Segment, reversed}
use Rattle.edge_arena.specs.declared.arena.Slot.{Slot}
use Rattle.half_edge.specs.declared.key.Corner.{Corner}
use Rattle.half_edge.specs.declared.key.Key.{Key}
use Rattle.half_edge.specs.declared.ways.Ways.{Ways}
use Rattle.half_edge.specs.declared.ways.Ways.TheVariants.{Forth, Back, Both}
use Rattle.half_edge.specs.declared.keys.KeyChange.{KeyChange}
use Rattle.half_edge.specs.declared.keys.KeyChange.TheVariants.{Began, Given, Taken}

-- the edges with the slots of their sides, the log of their changes, and for how many more there is room
pub record KeyMap : Type 0 where
  pub entries : List (Key × Ways)
  pub log : List KeyChange
  pub room : ℕ

-- how many sides undoing the log puts in again
abbrev pub taken_count : List KeyChange → ℕ
taken_count [] = 0
taken_count (Began ∷ xs) = taken_count xs
taken_count (Given e ∷ xs) = taken_count xs
taken_count (Taken e s ∷ xs) = 1 + taken_count xs

-- whether the edge runs to the lesser of its corners
abbrev pub runs_back : Segment → Bool
runs_back e = (int_eq e.a.x e.b.x && int_lt e.b.y e.a.y) || int_lt e.b.x e.a.x

-- the corners of the edge, in its order
abbrev pub corners_of : Segment → Key
corners_of e = record { a = record { x = e.a.x; y = e.a.y }; b = record { x = e.b.x; y = e.b.y } }

-- the key of the edge, with the lesser of its corners first
abbrev pub key_of : Segment → Key
key_of e = cond (runs_back e) (corners_of (reversed e)) (corners_of e)

-- what `==` answers at the corners of keys
abbrev pub corner_eq : Corner → Corner → Bool
corner_eq c d = int_eq c.x d.x && int_eq c.y d.y

-- what `==` answers at keys
abbrev pub key_eq : Key → Key → Bool
key_eq k l = corner_eq k.a l.a && corner_eq k.b l.b

-- whether the vertices are the same
abbrev pub vertex_eq : Vertex → Vertex → Bool
vertex_eq u v = int_eq u.x v.x && int_eq u.y v.y

-- whether the edges are the same
abbrev pub segment_eq : Segment → Segment → Bool
segment_eq e f = vertex_eq e.a f.a && vertex_eq e.b f.b

-- the slot of the side that runs back, or of that along the key, where it stands
abbrev pub slot_among : Option Ways → Bool → Option Slot
slot_among None back = None
slot_among (Some (Forth s)) false = Some s
slot_among (Some (Forth s)) true = None
slot_among (Some (Back s)) false = None
slot_among (Some (Back s)) true = Some s
slot_among (Some (Both s t)) false = Some s
slot_among (Some (Both s t)) true = Some t

-- the slot of the edge in these entries
unfoldable pub slot_in : List (Key × Ways) → Segment → Option Slot
slot_in entries e = slot_among (lookup (key_eq (key_of e)) entries) (runs_back e)

-- the slot of the other side of the edge in these entries
unfoldable pub slot_beside : List (Key × Ways) → Segment → Option Slot
slot_beside entries e = slot_among (lookup (key_eq (key_of e)) entries) (not (runs_back e))

-- the edge got that slot, or lost its own, and every other edge has what it had, its reverse too
abbrev pub IsWritten : List (Key × Ways) → List (Key × Ways) → Segment → Option Slot → Type 0
IsWritten old new e slot = (f : Segment) → slot_in new f ≡ cond (segment_eq e f) slot (slot_in old f)

-- what the edge e had before the change, where it has o behind it
abbrev pub undo_key : KeyChange → Segment → Option Slot → Option Slot
undo_key Began e o = None
undo_key (Given k) e o = cond (segment_eq k e) None o
undo_key (Taken k s) e o = cond (segment_eq k e) (Some s) o

-- what it had before all changes of the log, of which the last is undone first
abbrev pub undo_keys : List KeyChange → Segment → Option Slot → Option Slot
undo_keys [] e o = o
undo_keys (x ∷ xs) e o = undo_key x e (undo_keys xs e o)

-- the change is logged behind the others, unless these take all back already
abbrev pub IsLogged : List KeyChange → KeyChange → List KeyChange → Type 0
IsLogged old x new = (new ≡ old ++ x ∷ []) ⊎ ((new ≡ old) × ((init : List KeyChange) × (old ≡ init ++ Began ∷ [])))

-- the change takes back that the edge gets a slot, which has none among these
abbrev pub IsGiving : List (Key × Ways) → Segment → KeyChange → Type 0
IsGiving entries k x = (x ≡ Given k) ⊎ ((x ≡ Began) × (entries ≡ []))
