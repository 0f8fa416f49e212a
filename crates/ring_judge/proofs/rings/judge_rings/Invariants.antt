use Rattle.std.specs.Prelude.{length, string_bytes}
use Rattle.ring_judge.proofs.SoFar.{IsJudgedUpTo}
use Rattle.ring_judge.proofs.rings.judge_rings.Given as goal

abbrev pub invariant-loop-line : goal.invariant-loop-line
invariant-loop-line l = IsJudgedUpTo l.limits l.input (string_bytes l.replies) l.all_fine l.number l.rest

abbrev pub decreases-loop-line : goal.decreases-loop-line
decreases-loop-line l = length l.rest
