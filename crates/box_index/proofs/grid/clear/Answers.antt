use Rattle.std.proofs.Common.{◌∙◌}
use Rattle.box_index.proofs.grid.clear.Goals as goal

pub loop-column-preserved : goal.loop-column-preserved
loop-column-preserved c = λ p n. c.clear_column.ensures p n ∙ c.loop-column.invariant p n
