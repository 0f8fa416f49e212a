use Rattle.std.proofs.Common.{take}
use Rattle.rd_plane.specs.Improving.{Improves}
use Rattle.fault_point.specs.Crossings.{IsPairOf}
use Rattle.fault_point.specs.Faults.{pair_cmp}
use Rattle.fault_point.proofs.crossing.tried_stretch.Given as goal

abbrev pub invariant-loop-e : goal.invariant-loop-e
invariant-loop-e l = Improves pair_cmp (IsPairOf (take l.e-index l.edges) l.stretch) l.fn.best l.least
