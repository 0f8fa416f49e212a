use Rattle.std.proofs.Common.{subst}
use Rattle.rd_plane.specs.Improving.{Improves}
use Rattle.fault_point.specs.Crossings.{IsPairOf}
use Rattle.fault_point.specs.Faults.{pair_cmp}
use Rattle.fault_point.proofs.Improving.{near_pairs}
use Rattle.fault_point.proofs.crossing.tried_block.Goals as goal

pub returns : goal.returns
returns c
    = near_pairs c.in-Some.bounds c.args.edges.now c.in_ok-near.near.items c.args.block.now c.args.best c.tried_stretches.result
    c.in-Some.ensures c.in_ok-near.ensures
    (subst (λ l. Improves pair_cmp (IsPairOf l c.args.block.now) c.args.best c.tried_stretches.result) c.as_slice.ensures.value
    c.tried_stretches.ensures)
