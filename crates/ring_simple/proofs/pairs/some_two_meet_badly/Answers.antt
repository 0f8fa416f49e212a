use Rattle.std.proofs.Common.{sym, arith}
use Rattle.std.proofs.lemmas.Bool.{true≢false}
use Rattle.ring_simple.proofs.Along.{inside_ring}
use Rattle.ring_simple.proofs.pairs.some_two_meet_badly.Goals as goal

pub returns : goal.returns
returns c = (
  λ t. absurd (true≢false (sym t)),
  λ s. absurd (c.loop-j.invariant s.later (omega (arith, inside_ring c.args.points.now s.place s.later s.meets, c.loop-j-test.false))
      (record { place = s.place; behind = s.behind; before = s.before; meets = s.meets })),
)
