use Rattle.std.proofs.Common.{take}
use Rattle.chain_cancel.specs.Nodes.{IsEndIn, node_cmp}
use Rattle.rd_plane.specs.Improving.{Improves}
use Rattle.chain_cancel.proofs.node.tried_ends.Given as goal

abbrev pub invariant-loop-own : goal.invariant-loop-own
invariant-loop-own l = Improves node_cmp (IsEndIn (take l.own-index l.ends) l.fn.e) l.fn.best l.least
