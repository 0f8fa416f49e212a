use Rattle.std.proofs.Common.{◌*◌}
use Rattle.imgeo_types.proofs.ByWords.{AreAlike}
use Rattle.imgeo_types.proofs.ident.order.Given as goal

abbrev pub invariant-loop-k : goal.invariant-loop-k
invariant-loop-k l = AreAlike (8 * l.k) l.a l.b
