use Rattle.map_rules.proofs.OneRun.{one_run}
use Rattle.map_rules.proofs.run_laws.one_run.Goals as goal

pub returns : goal.returns
returns c = one_run c.one_decision.ensures
