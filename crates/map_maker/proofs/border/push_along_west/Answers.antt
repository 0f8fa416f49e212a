use Rattle.map_maker.proofs.Steps.{fallen, at_bottom, both_are}
use Rattle.map_maker.proofs.Sides.{in_west}
use Rattle.map_maker.proofs.border.push_along_west.Goals as goal

pub loop-j-preserved : goal.loop-j-preserved
loop-j-preserved c =
    fallen in_west c.loop-j.j c.loop-j.ring c.push_both.new.ring _ c.loop-j-test.true c.loop-j.invariant
    (both_are c.loop-j.ring c.push_both.new.ring c.in_ok-push_both.ensures c.corner.ensures c.north.ensures)

pub returns : goal.returns
returns c = at_bottom in_west c.loop-j.j c.loop-j.ring _ c.loop-j-test.false c.loop-j.invariant
