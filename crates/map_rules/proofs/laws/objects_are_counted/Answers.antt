use Rattle.map_rules.proofs.Counting.{objects_then}
use Rattle.map_rules.proofs.laws.objects_are_counted.Goals as goal

pub returns : goal.returns
returns c = objects_then
