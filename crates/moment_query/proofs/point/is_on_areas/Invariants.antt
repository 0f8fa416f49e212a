use Rattle.std.proofs.Common.{◌≡◌, take, false}
use Rattle.std.specs.List.{list_any}
use Rattle.rd_plane.specs.Plane.{point_of}
use Rattle.moment_query.specs.Points.{is_area_border}
use Rattle.moment_query.proofs.point.is_on_areas.Given as goal

abbrev pub invariant-loop-place : goal.invariant-loop-place
invariant-loop-place l = list_any (is_area_border l.moment (point_of l.point)) (take l.place l.areas.areas) ≡ false
