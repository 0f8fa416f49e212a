use Rattle.std.proofs.Common.{take}
use Rattle.chain_cancel.specs.Nodes.{IsEndInside, node_cmp}
use Rattle.rd_plane.specs.Improving.{Improves}
use Rattle.chain_cancel.proofs.node.tried_stretch.Given as goal

abbrev pub invariant-loop-e : goal.invariant-loop-e
invariant-loop-e l = Improves node_cmp (IsEndInside l.ends (take l.e-index l.edges) l.fn.turned) l.fn.best l.least
