use Rattle.std.proofs.Common.{◌∙◌, sym, ap}
use Rattle.rd_plane.specs.Plane.{point_of}
use Rattle.moment_query.specs.Points.{is_bordered}
use Rattle.moment_query.proofs.Searching.{any_found, any_more, any_none}
use Rattle.moment_query.proofs.point.is_on_shapes.Goals as goal

pub returns-then-is_on_shape : goal.returns-then-is_on_shape
returns-then-is_on_shape c = any_found (is_bordered (point_of c.args.point)) c.args.shapes.now c.loop-shape.shape-index c.shape-item.result
    c.loop-shape-test.true c.shape-item.is
    (ap (is_bordered (point_of c.args.point)) (sym c.rings.ensures.value) ∙ sym c.is_on_shape.ensures ∙ c.if-is_on_shape.true)

pub loop-shape-preserved : goal.loop-shape-preserved
loop-shape-preserved c = any_more (is_bordered (point_of c.args.point)) c.args.shapes.now c.loop-shape.shape-index c.shape-item.result
    c.loop-shape-test.true c.shape-item.is
    (ap (is_bordered (point_of c.args.point)) (sym c.rings.ensures.value) ∙ sym c.is_on_shape.ensures ∙ c.if-is_on_shape.false)
    c.loop-shape.invariant

pub returns : goal.returns
returns c = any_none (is_bordered (point_of c.args.point)) c.args.shapes.now c.loop-shape.shape-index c.loop-shape-test.false
    c.loop-shape.invariant
