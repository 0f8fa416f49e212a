use Rattle.map_maker.proofs.Steps.{no_pieces, next_piece, both_are}
use Rattle.map_maker.proofs.Sides.{in_east}
use Rattle.map_maker.proofs.border.push_along_east.Goals as goal

pub loop-j-init : goal.loop-j-init
loop-j-init c = no_pieces (in_east c.args.n) c.args.ring.now

pub loop-j-preserved : goal.loop-j-preserved
loop-j-preserved c =
    next_piece (in_east c.args.n) c.loop-j.j c.args.ring.now c.loop-j.ring c.push_both.new.ring c.loop-j.invariant
    (both_are c.loop-j.ring c.push_both.new.ring c.in_ok-push_both.ensures c.corner.ensures c.north.ensures)
