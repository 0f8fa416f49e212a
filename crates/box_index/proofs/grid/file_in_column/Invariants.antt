use Rattle.std.proofs.Common.{◌≡◌, ◌≤◌, ◌<◌, ℕ}
use Rattle.std.specs.Prelude.{Some}
use Rattle.std.specs.BTreeMap.{get}
use Rattle.box_index.specs.Filing.{KeepsFiled, KeepsOthers, filed, place_cmp}
use Rattle.box_index.proofs.grid.file_in_column.Given as goal

abbrev pub invariant-loop-row : goal.invariant-loop-row
invariant-loop-row l = record {
  here : (r : ℕ) → l.cells.south ≤ r → r < l.row → get place_cmp l.filings (filed l.column r l.slot) ≡ Some l.bounds;
  kept : KeepsFiled l.bounds l.initial.filings l.filings;
  others : KeepsOthers l.slot l.initial.filings l.filings;
}
