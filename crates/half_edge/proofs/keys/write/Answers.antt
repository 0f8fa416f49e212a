use Rattle.std.proofs.Common.{Some, ◌∙◌}
use Rattle.half_edge.proofs.KeyWays.{written}
use Rattle.half_edge.proofs.keys.write.Goals as goal

pub returns-clause-now : goal.returns-clause-now
returns-clause-now c = written _ _ c.args.edge (Some c.args.slot) (Some c.of-ways.result) (rw c.of.ensures at c.in-Ok.ensures.updates).0
    (rw c.is_back.ensures at c.of-ways.ensures.here) ((rw c.is_back.ensures at c.of-ways.ensures.other) ∙ c.requires.other)
