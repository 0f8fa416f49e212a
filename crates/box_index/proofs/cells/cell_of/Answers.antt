use Rattle.std.proofs.Common.{arith, ap}
use Rattle.std.specs.Prelude.{◌/◌}
use Rattle.std.proofs.lemmas.Int.{to_z-of_z}
use mir.Syntax.{w64}
use mir.Val.{SFits}
use Rattle.box_index.specs.Cells.{cell_in}
use Rattle.box_index.proofs.Celled.{small}
use Rattle.box_index.proofs.cells.cell_of.Goals as goal

pub returns-clause-value : goal.returns-clause-value
unfolding cell_in
returns-clause-value c =
    let fits : SFits w64 c.args.mm = c.ranges.mm in
    let far = simp to_z-of_z at c.far_of.ensures in ap (λ n. n / 65536) far

pub returns-clause-small : goal.returns-clause-small
returns-clause-small c = small c.far_of.result (omega arith)
