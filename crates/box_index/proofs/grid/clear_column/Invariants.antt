use Rattle.box_index.specs.Filing.{KeepsOthers}
use Rattle.box_index.proofs.grid.clear_column.Given as goal

abbrev pub invariant-loop-row : goal.invariant-loop-row
invariant-loop-row l = KeepsOthers l.slot l.initial.filings l.filings
