use Rattle.std.proofs.Common.{◌<◌, ℕ, List, get_or}
use Rattle.rd_plane.specs.Plane.{Vertex}
use Rattle.local_check.specs.Kept.{FindsNear}
use Rattle.local_check.proofs.near.add_near_shapes.Given as goal

abbrev pub invariant-loop-shape : goal.invariant-loop-shape
invariant-loop-shape l = (k : ℕ) (d : List (List Vertex)) → k < l.shape-index → FindsNear l.boxes l.near.keys (get_or l.shapes k d)
