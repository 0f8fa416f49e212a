use Rattle.std.proofs.lemmas.Result.{on_ok_weaker}
use Rattle.moment_query.proofs.RowLemmas.{both_rows, said}
use Rattle.moment_query.proofs.rows.push_area.Goals as goal

pub returns : goal.returns
returns c = on_ok_weaker _ (λ p. both_rows c.in_ok-push_area_head.ensures (said p))
    (rw (c.in_ok-shapes.ensures, c.as_slice.ensures) at c.push_shape_lines.ensures)
