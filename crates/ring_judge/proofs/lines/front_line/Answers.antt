use Rattle.std.proofs.Common.{arith}
use Rattle.message_text.proofs.Cutting.{uncut}
use Rattle.ring_judge.proofs.LineFronts.{front_is}
use Rattle.ring_judge.proofs.lines.front_line.Goals as goal

pub returns-in_default-clause-cut : goal.returns-in_default-clause-cut
returns-in_default-clause-cut c = uncut 10 c.args.bytes.now (λ k lt here. c.in_default.ensures k (omega arith) lt here)

pub returns-clause-cut : goal.returns-clause-cut
returns-clause-cut c =
    let found = c.in-Some.ensures in
    front_is c.args.bytes.now c.split_at.result.0.now c.split_at.result.1.now c.in-Some.place found.0.high
    (λ k lt here. found.0.before k (omega arith) lt here) found.1
    c.split_at.ensures.front c.split_at.ensures.back
