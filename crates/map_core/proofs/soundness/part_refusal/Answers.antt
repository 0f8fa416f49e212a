use Rattle.std.proofs.Common.{refl}
use Rattle.map_core.proofs.soundness.part_refusal.Goals as goal

pub returns-in-Some-clause-rule : goal.returns-in-Some-clause-rule
returns-in-Some-clause-rule c = (c.in-Some.note, rw c.in-Some.is at (c.note.ensures.holds c.args.item.now.rings c.in-Err.ensures), refl)
