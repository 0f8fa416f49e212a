-- The bounds of the grid EPSG:28992 in this register.
use Rattle.std.specs.Prelude.{pos, negsuc, ◌≤ℤ◌}
use Rattle.rd_plane.specs.Plane.{Vertex}

-- x from -100,000,000 mm to 400,000,000 mm, y from 200,000,000 mm to 800,000,000 mm
pub record IsInGrid (v : Vertex) : Type 0 where
  pub west : negsuc 99_999_999 ≤ℤ v.x
  pub east : v.x ≤ℤ pos 400_000_000
  pub south : pos 200_000_000 ≤ℤ v.y
  pub north : v.y ≤ℤ pos 800_000_000
