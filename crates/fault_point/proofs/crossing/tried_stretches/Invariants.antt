use Rattle.std.proofs.Common.{◌-◌, length, take}
use Rattle.rd_plane.specs.Improving.{Improves}
use Rattle.fault_point.specs.Crossings.{IsPairOf}
use Rattle.fault_point.specs.Faults.{pair_cmp}
use Rattle.fault_point.proofs.crossing.tried_stretches.Given as goal

abbrev pub invariant-loop-from : goal.invariant-loop-from
invariant-loop-from l = Improves pair_cmp (IsPairOf l.edges (take l.from l.block)) l.fn.best l.least

abbrev pub decreases-loop-from : goal.decreases-loop-from
decreases-loop-from l = length l.block - l.from
