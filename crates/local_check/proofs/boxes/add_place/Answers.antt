use Rattle.box_index.proofs.Filed.{slot_kept, slots_so}
use Rattle.local_check.proofs.boxes.add_place.Goals as goal

pub returns-clause-here : goal.returns-clause-here
returns-clause-here c = (slots_so c.args.place _).0 c.in-Ok.ensures.updates.1

pub returns-clause-kept : goal.returns-clause-kept
returns-clause-kept c = slot_kept _ _ c.args.place c.in-Ok.ensures.updates.0
