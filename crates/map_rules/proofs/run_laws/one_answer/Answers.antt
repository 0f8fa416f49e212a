use Rattle.map_rules.proofs.OneRun.{one_answer}
use Rattle.map_rules.proofs.run_laws.one_answer.Goals as goal

pub returns : goal.returns
returns c = one_answer c.one_decision.ensures
