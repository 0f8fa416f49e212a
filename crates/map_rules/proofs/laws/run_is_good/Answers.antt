use Rattle.map_rules.proofs.Stepping.{run_good}
use Rattle.map_rules.proofs.laws.run_is_good.Goals as goal

pub returns : goal.returns
returns c = run_good
