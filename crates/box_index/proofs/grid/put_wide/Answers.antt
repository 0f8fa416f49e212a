use Rattle.std.proofs.Common.{ap}
use Rattle.std.specs.BTreeMap.{is_at}
use Rattle.std.specs.Map.{lookup}
use Rattle.std.specs.Ordering.{nat_cmp}
use Rattle.box_index.proofs.Filed.{slot_not_at}
use Rattle.box_index.proofs.grid.put_wide.Goals as goal

pub returns-clause-others : goal.returns-clause-others
returns-clause-others c = λ q n. c.in-Ok.ensures.updates.2 q (slot_not_at c.args.slot q n)

pub returns-in_default-clause-others : goal.returns-in_default-clause-others
returns-in_default-clause-others c = λ q n. ap (lookup (is_at (nat_cmp q))) c.in_default.ensures.err
