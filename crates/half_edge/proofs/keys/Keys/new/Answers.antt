use Rattle.std.proofs.Common.{ap, ◌∙◌}
use Rattle.half_edge.specs.KeyMap.{slot_in}
use Rattle.half_edge.proofs.KeyLog.{nothing_in}
use Rattle.half_edge.proofs.keys.Keys.new.Goals as goal

pub returns-clause-none : goal.returns-clause-none
returns-clause-none c = λ e. ap (λ es. slot_in es e) c.new.ensures.empty ∙ nothing_in e
