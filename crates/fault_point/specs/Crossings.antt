-- The search for the least two edges that cross.
use Rattle.std.specs.Prelude.{◌≡◌, List, IsTrue}
use Rattle.std.specs.List.{Contains}
use Rattle.std.specs.declared.cmp.Ordering.TheVariants.{Less}
use Rattle.rd_plane.specs.Bounds.{Box, LiesInBox}
use Rattle.rd_plane.specs.Meeting.{IsMeet}
use Rattle.rd_plane.specs.declared.meet.Meet.TheVariants.{Cross}
use Rattle.rd_plane.specs.Order.{segment_cmp}
use Rattle.rd_plane.specs.Plane.{Segment, Point, on}

-- e and f cross, and e is the smaller
abbrev pub AreCrossing : Segment → Segment → Type 0
AreCrossing e f = IsMeet e f Cross × (segment_cmp e f ≡ Less)

-- just these two, where they do so
abbrev pub IsPair : Segment → Segment → Segment × Segment → Type 0
IsPair e f x = (x ≡ (e, f)) × AreCrossing e f

-- e and one of the edges
pub record IsPairWith (e : Segment) (fs : List Segment) (x : Segment × Segment) : Type 0 where
  pub first : x.0 ≡ e
  pub second : Contains fs x.1
  pub crossing : AreCrossing x.0 x.1

-- an edge of the one list and an edge of the other
pub record IsPairOf (es fs : List Segment) (x : Segment × Segment) : Type 0 where
  pub first : Contains es x.0
  pub second : Contains fs x.1
  pub crossing : AreCrossing x.0 x.1

-- near is made of edges of the list, and has each that has a point of the box
pub record AreNearBox (box : Box) (es near : List Segment) : Type 0 where
  pub some : (e : Segment) → Contains near e → Contains es e
  pub all : (e : Segment) (p : Point) → Contains es e → IsTrue (on p e) → LiesInBox box p → Contains near e
