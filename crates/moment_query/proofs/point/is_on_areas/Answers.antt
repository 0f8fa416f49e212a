use Rattle.std.proofs.Common.{◌∙◌, sym, arith}
use Rattle.rd_plane.specs.Plane.{point_of}
use Rattle.moment_query.specs.Points.{is_area_border}
use Rattle.moment_query.proofs.Searching.{any_found, any_more, any_none}
use Rattle.moment_query.proofs.point.is_on_areas.Goals as goal

pub returns-then-is_on_area : goal.returns-then-is_on_area
returns-then-is_on_area c = any_found (is_area_border c.args.moment (point_of c.args.point)) c.args.areas.now.areas c.loop-place.place
    c.area_at.result.now (omega arith) c.area_at.ensures (sym c.is_on_area.ensures ∙ c.if-is_on_area.true)

pub loop-place-preserved : goal.loop-place-preserved
loop-place-preserved c = any_more (is_area_border c.args.moment (point_of c.args.point)) c.args.areas.now.areas c.loop-place.place
    c.area_at.result.now (omega arith) c.area_at.ensures (sym c.is_on_area.ensures ∙ c.if-is_on_area.false) c.loop-place.invariant

pub returns : goal.returns
returns c = any_none (is_area_border c.args.moment (point_of c.args.point)) c.args.areas.now.areas c.loop-place.place (omega arith)
    c.loop-place.invariant
