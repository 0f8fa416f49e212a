use Rattle.map_maker.specs.Made.{new_cell}
use Rattle.map_maker.proofs.Steps.{no_items, next_item, one_is}
use Rattle.map_maker.proofs.mutations.push_row.Goals as goal

pub loop-i-init : goal.loop-i-init
loop-i-init c = no_items (new_cell c.args.n c.args.j) c.args.mutations.now

pub loop-i-preserved : goal.loop-i-preserved
loop-i-preserved c =
    next_item (new_cell c.args.n c.args.j) c.loop-i.i c.args.mutations.now c.loop-i.mutations c.push.new.self c.loop-i.invariant
    (one_is c.loop-i.mutations c.push.new.self c.in_ok-push.ensures.ok c.in_ok-cell.ensures)
