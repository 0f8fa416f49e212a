use Rattle.std.proofs.Common.{◌≡◌, take, false}
use Rattle.std.specs.List.{list_any}
use Rattle.rd_plane.specs.Plane.{point_of}
use Rattle.moment_query.specs.Points.{is_bordered}
use Rattle.moment_query.proofs.point.is_on_shapes.Given as goal

abbrev pub invariant-loop-shape : goal.invariant-loop-shape
invariant-loop-shape l = list_any (is_bordered (point_of l.point)) (take l.shape-index l.shapes) ≡ false
