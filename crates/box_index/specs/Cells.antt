-- The cells of a grid: squares of 65,536 mm, in columns from west to east and rows from south to north.
use Rattle.std.specs.Prelude.{ℕ, ℤ, pos, negsuc, ◌+◌, ◌-◌, ◌/◌, ◌≤◌, ◌<◌}
use Rattle.rd_plane.specs.Bounds.{Box}
use Rattle.box_index.specs.declared.cells.Cells.{Cells}

-- how far a coordinate is from -100,000,000 mm, where the first cell begins
abbrev pub far_in : ℤ → ℕ
far_in (pos n) = 100_000_000 + n
far_in (negsuc n) = 99_999_999 - n

-- the column or row of a coordinate
unfoldable pub cell_in : ℤ → ℕ
cell_in mm = far_in mm / 65_536

-- the columns and rows that a box meets
abbrev pub cells_of : Box → Cells
cells_of box = record { west = cell_in box.low.x; east = cell_in box.high.x + 1; south = cell_in box.low.y; north = cell_in box.high.y + 1 }

-- the cell is one of these
pub record IsCellOf (cells : Cells) (column row : ℕ) : Type 0 where
  pub west : cells.west ≤ column
  pub east : column < cells.east
  pub south : cells.south ≤ row
  pub north : row < cells.north
