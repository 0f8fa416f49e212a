use Rattle.std.proofs.Common.{sym}
use Rattle.std.proofs.lemmas.Bool.{true≢false}
use Rattle.ring_simple.proofs.Along.{beyond_box}
use Rattle.ring_simple.proofs.pairs.meets_badly_near.Goals as goal

pub returns-then-lies_beyond : goal.returns-then-lies_beyond
returns-then-lies_beyond c = (
  λ t. absurd (true≢false (sym t)),
  λ b. absurd (beyond_box c.args.points.now c.args.i c.args.j c.args.f c.args.own.now c.index-points-i.result c.index-points-i-2.result
      c.requires.own c.requires.edge c.index-points-i.is c.index-points-i-2.is (c.lies_beyond.ensures c.if-lies_beyond.true) b),
)
