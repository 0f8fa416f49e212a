use Rattle.std.proofs.Common.{◌-◌, length, take}
use Rattle.chain_cancel.specs.Nodes.{IsEndInside, node_cmp}
use Rattle.rd_plane.specs.Improving.{Improves}
use Rattle.chain_cancel.proofs.node.tried_all.Given as goal

abbrev pub invariant-loop-from : goal.invariant-loop-from
invariant-loop-from l = Improves node_cmp (IsEndInside (take l.from l.ends) l.edges l.fn.turned) l.fn.best l.least

abbrev pub decreases-loop-from : goal.decreases-loop-from
decreases-loop-from l = length l.ends - l.from
