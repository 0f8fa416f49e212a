use Rattle.box_index.specs.Filing.{KeepsOthers}
use Rattle.box_index.proofs.grid.clear.Given as goal

abbrev pub invariant-loop-column : goal.invariant-loop-column
invariant-loop-column l = KeepsOthers l.slot l.initial.filings l.filings
