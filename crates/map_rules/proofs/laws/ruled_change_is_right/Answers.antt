use Rattle.map_rules.proofs.Stepping.{change_right}
use Rattle.map_rules.proofs.laws.ruled_change_is_right.Goals as goal

pub returns : goal.returns
returns c = change_right
