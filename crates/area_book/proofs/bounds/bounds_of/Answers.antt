use Rattle.std.proofs.Common.{sym}
use Rattle.area_book.proofs.Boxes.{box_more}
use Rattle.area_book.proofs.bounds.bounds_of.Goals as goal

pub loop-shape-preserved : goal.loop-shape-preserved
loop-shape-preserved c
    = box_more c.loop-shape.bounds c.joined.result c.bounds.result c.args.shapes.now c.loop-shape.shape-index c.shape-item.result
    c.loop-shape-test.true (sym c.shape-item.is) c.loop-shape.invariant c.bounds.ensures c.joined.ensures
