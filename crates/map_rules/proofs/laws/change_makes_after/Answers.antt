use Rattle.map_rules.proofs.Changing.{map_then}
use Rattle.map_rules.proofs.laws.change_makes_after.Goals as goal

pub returns : goal.returns
returns c = map_then
