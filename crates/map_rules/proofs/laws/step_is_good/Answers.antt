use Rattle.map_rules.proofs.Stepping.{step_good}
use Rattle.map_rules.proofs.laws.step_is_good.Goals as goal

pub returns : goal.returns
returns c = step_good
