use Rattle.map_rules.proofs.Stepping.{others_stay, passes, taken}
use Rattle.map_rules.proofs.laws.others_stay.Goals as goal

pub returns : goal.returns
returns c = λ limits s m holder g d other. others_stay s m g (taken s m g (passes limits s m g d)) holder other
