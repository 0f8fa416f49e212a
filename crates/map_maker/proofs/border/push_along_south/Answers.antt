use Rattle.map_maker.proofs.Steps.{no_pieces, next_piece, both_are}
use Rattle.map_maker.proofs.Sides.{in_south}
use Rattle.map_maker.proofs.border.push_along_south.Goals as goal

pub loop-i-init : goal.loop-i-init
loop-i-init c = no_pieces in_south c.args.ring.now

pub loop-i-preserved : goal.loop-i-preserved
loop-i-preserved c =
    next_piece in_south c.loop-i.i c.args.ring.now c.loop-i.ring c.push_both.new.ring c.loop-i.invariant
    (both_are c.loop-i.ring c.push_both.new.ring c.in_ok-push_both.ensures c.corner.ensures c.east.ensures)
