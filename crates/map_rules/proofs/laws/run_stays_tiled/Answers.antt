use Rattle.map_rules.proofs.Exactly.{stays}
use Rattle.map_rules.proofs.laws.run_stays_tiled.Goals as goal

pub returns : goal.returns
returns c = stays c.step_is_exact.ensures
