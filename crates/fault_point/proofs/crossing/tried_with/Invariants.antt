use Rattle.std.proofs.Common.{take}
use Rattle.rd_plane.specs.Improving.{Improves}
use Rattle.fault_point.specs.Crossings.{IsPairWith}
use Rattle.fault_point.specs.Faults.{pair_cmp}
use Rattle.fault_point.proofs.crossing.tried_with.Given as goal

abbrev pub invariant-loop-f : goal.invariant-loop-f
invariant-loop-f l = Improves pair_cmp (IsPairWith l.fn.e (take l.f-index l.edges)) l.fn.best l.least
