use Rattle.std.proofs.Common.{◌≡◌, ◌++◌}
use Rattle.std.specs.List.{flat_map}
use Rattle.map_maker.specs.Made.{below}
use Rattle.map_maker.proofs.Sides.{in_south}
use Rattle.map_maker.proofs.border.push_along_south.Given as goal

abbrev pub invariant-loop-i : goal.invariant-loop-i
invariant-loop-i l = l.ring ≡ l.initial.ring ++ flat_map in_south (below l.i)
