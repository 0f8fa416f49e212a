-- Boxes that hold edges.
use Rattle.std.specs.Prelude.{List}
use Rattle.std.specs.List.{All}
use Rattle.rd_plane.specs.Bounds.{Box, LiesInBox}
use Rattle.rd_plane.specs.Plane.{Segment, point_of}

-- both ends of the edge lie in the box
abbrev pub HoldsEdge : Box → Segment → Type 0
HoldsEdge box e = LiesInBox box (point_of e.a) × LiesInBox box (point_of e.b)

-- so of each of the edges
abbrev pub HoldsEdges : Box → List Segment → Type 0
HoldsEdges box edges = All (HoldsEdge box) edges
