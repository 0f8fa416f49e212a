use Rattle.map_maker.proofs.Steps.{fallen, at_bottom, both_are}
use Rattle.map_maker.proofs.Sides.{in_north}
use Rattle.map_maker.proofs.border.push_along_north.Goals as goal

pub loop-i-preserved : goal.loop-i-preserved
loop-i-preserved c =
    fallen (in_north c.args.n) c.loop-i.i c.loop-i.ring c.push_both.new.ring _ c.loop-i-test.true c.loop-i.invariant
    (both_are c.loop-i.ring c.push_both.new.ring c.in_ok-push_both.ensures c.corner.ensures c.east.ensures)

pub returns : goal.returns
returns c = at_bottom (in_north c.args.n) c.loop-i.i c.loop-i.ring _ c.loop-i-test.false c.loop-i.invariant
