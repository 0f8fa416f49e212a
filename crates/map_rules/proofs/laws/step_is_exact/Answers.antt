use Rattle.map_rules.proofs.Exactly.{exact}
use Rattle.map_rules.proofs.laws.step_is_exact.Goals as goal

pub returns : goal.returns
returns c = λ limits s m. exact limits s m (c.one_decision.ensures limits s m)
