use Rattle.ring_judge.proofs.OneVerdict.{one_ring_verdict}
use Rattle.ring_judge.proofs.laws.one_ring_verdict.Goals as goal

pub returns : goal.returns
returns c = one_ring_verdict
