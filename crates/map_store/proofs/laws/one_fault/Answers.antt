use Rattle.map_store.proofs.NoList.{no_gate, one_gate}
use Rattle.map_store.proofs.laws.one_fault.Goals as goal

pub returns-clause-mark : goal.returns-clause-mark
returns-clause-mark c = λ limits file gate no x. no_gate limits file gate no x

pub returns-clause-gates : goal.returns-clause-gates
returns-clause-gates c = λ limits file gate other x y. one_gate c.one_reading.ensures c.one_decision.ensures limits file gate other x y
