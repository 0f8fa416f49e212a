use Rattle.std.proofs.Common.{ap}
use Rattle.ring_judge.specs.Verdicts.{reply_line}
use Rattle.ring_judge.proofs.OneVerdict.{one_verdict}
use Rattle.ring_judge.proofs.laws.one_reply_line.Goals as goal

pub returns : goal.returns
returns c = λ limits line number verdict other h k. ap (reply_line number) (one_verdict limits line verdict other h k)
