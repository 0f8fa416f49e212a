-- Vertices that lie strictly inside an edge: their order, and the least of them.
use Rattle.std.specs.Prelude.{◌≡◌, ◌≢◌, ◌⊎◌, List, IsTrue, Bool}
use Rattle.std.specs.Bool.{if◌then◌else◌}
use Rattle.std.specs.List.{Contains}
use Rattle.std.specs.Ordering.{then_cmp}
use Rattle.std.specs.Ordering.{on as by}
use Rattle.std.specs.declared.cmp.Ordering.{Ordering}
use Rattle.rd_plane.specs.Covering.{IsNoded}
use Rattle.rd_plane.specs.Meeting.{IsEndOf}
use Rattle.rd_plane.specs.Order.{vertex_cmp, segment_cmp}
use Rattle.rd_plane.specs.Plane.{Vertex, Segment, Point, point_of, on, reversed}

-- by the vertex, then by the edge
abbrev pub node_cmp : Vertex × Segment → Vertex × Segment → Ordering
node_cmp = then_cmp (by (λ (x : Vertex × Segment). x.0) vertex_cmp) (by (λ (x : Vertex × Segment). x.1) segment_cmp)

-- v is on e and no end of it
abbrev pub IsStrictlyInside : Vertex → Segment → Type 0
IsStrictlyInside v e = IsTrue (on (point_of v) e) × (v ≢ e.a) × (v ≢ e.b)

-- an end of one of the edges lies strictly inside another
pub record IsUnnoded (edges : List Segment) (x : Vertex × Segment) : Type 0 where
  pub own : Segment
  pub of : Contains edges own
  pub end : IsEndOf own x.0
  pub edge : Contains edges x.1
  pub inside : IsStrictlyInside x.0 x.1

-- ---- the search
-- the edge, run the other way where that is so
abbrev pub turned_if : Bool → Segment → Segment
turned_if turned e = if turned then reversed e else e

-- an end of an edge of ends, which lies strictly inside one of the edges, run the other way where that is so
pub record IsEndInside (ends edges : List Segment) (turned : Bool) (x : Vertex × Segment) : Type 0 where
  pub own : Segment
  pub of : Contains ends own
  pub end : IsEndOf own x.0
  pub from : Segment
  pub one : Contains edges from
  pub edge : x.1 ≡ turned_if turned from
  pub inside : IsStrictlyInside x.0 x.1

-- v, where it lies strictly inside e
abbrev pub IsIn : Vertex → Segment → Vertex × Segment → Type 0
IsIn v e x = (x ≡ (v, e)) × IsStrictlyInside v e

-- an end of an edge of ends, which lies strictly inside e
pub record IsEndIn (ends : List Segment) (e : Segment) (x : Vertex × Segment) : Type 0 where
  pub own : Segment
  pub of : Contains ends own
  pub end : IsEndOf own x.0
  pub edge : x.1 ≡ e
  pub inside : IsStrictlyInside x.0 e

-- the added edges are among these, and the others of these are edges that share their vertices
pub record AreAllBut (edges added : List Segment) : Type 0 where
  pub old : List Segment
  pub noded : IsNoded old
  pub among : (e : Segment) → Contains added e → Contains edges e
  pub others : (e : Segment) → Contains edges e → Contains added e ⊎ Contains old e

-- some of the edges, among them each that has a point in common with an added one
pub record AreNear (edges near added : List Segment) : Type 0 where
  pub among : (e : Segment) → Contains near e → Contains edges e
  pub enough : (e f : Segment) (p : Point) → Contains edges e → Contains added f → IsTrue (on p e) → IsTrue (on p f) → Contains near e
