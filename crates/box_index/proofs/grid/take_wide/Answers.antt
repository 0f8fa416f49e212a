use Rattle.box_index.proofs.Filed.{slot_not_at}
use Rattle.box_index.proofs.grid.take_wide.Goals as goal

pub returns : goal.returns
returns c = λ q n. c.remove.ensures.updates.2 q (slot_not_at c.args.slot q n)
