use Rattle.std.proofs.Common.{◌≡◌, ◌++◌}
use Rattle.std.specs.Prelude.{reverse}
use Rattle.std.specs.List.{flat_map}
use Rattle.map_maker.specs.Made.{below}
use Rattle.map_maker.proofs.Sides.{in_west}
use Rattle.map_maker.proofs.border.push_along_west.Given as goal

abbrev pub invariant-loop-j : goal.invariant-loop-j
invariant-loop-j l = l.ring ++ flat_map in_west (reverse (below l.j)) ≡ l.initial.ring ++ flat_map in_west (reverse (below l.n))
