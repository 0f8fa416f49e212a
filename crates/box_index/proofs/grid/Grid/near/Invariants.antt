use Rattle.std.proofs.Common.{◌≡◌, ◌≤◌, ◌<◌, ℕ}
use Rattle.std.specs.Prelude.{Some}
use Rattle.std.specs.BTreeMap.{get}
use Rattle.std.specs.List.{Contains}
use Rattle.std.specs.Ordering.{nat_cmp}
use Rattle.rd_plane.specs.Bounds.{Box, HaveCommonPoint}
use Rattle.box_index.specs.Filing.{filed, place_cmp}
use Rattle.box_index.proofs.grid.Grid.near.Given as goal

abbrev pub invariant-loop-column : goal.invariant-loop-column
invariant-loop-column l = record {
  wide : (slot : ℕ) (own : Box) → get nat_cmp l.self.wide slot ≡ Some own → HaveCommonPoint own l.bounds → Contains l.slots.keys slot;
  here : (column row slot : ℕ) (own : Box) → l.cells.west ≤ column → column < l.column → l.cells.south ≤ row → row < l.cells.north
      → get place_cmp l.self.cells (filed column row slot) ≡ Some own → HaveCommonPoint own l.bounds → Contains l.slots.keys slot;
}
