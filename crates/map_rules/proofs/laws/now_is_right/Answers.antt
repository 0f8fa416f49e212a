use Rattle.map_rules.proofs.Ends.{right_now}
use Rattle.map_rules.proofs.laws.now_is_right.Goals as goal

pub returns : goal.returns
returns c = right_now
