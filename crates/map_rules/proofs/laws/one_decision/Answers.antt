use Rattle.map_rules.proofs.OneDecision.{one_decision}
use Rattle.map_rules.proofs.laws.one_decision.Goals as goal

pub returns : goal.returns
returns c = one_decision c.one_note.ensures c.sound_shapes_have_no_note.ensures
