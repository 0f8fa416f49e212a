use Rattle.map_rules.proofs.Ends.{good_opening}
use Rattle.map_rules.proofs.laws.opening_is_good.Goals as goal

pub returns : goal.returns
returns c = good_opening
