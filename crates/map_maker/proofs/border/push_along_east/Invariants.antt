use Rattle.std.proofs.Common.{◌≡◌, ◌++◌}
use Rattle.std.specs.List.{flat_map}
use Rattle.map_maker.specs.Made.{below}
use Rattle.map_maker.proofs.Sides.{in_east}
use Rattle.map_maker.proofs.border.push_along_east.Given as goal

abbrev pub invariant-loop-j : goal.invariant-loop-j
invariant-loop-j l = l.ring ≡ l.initial.ring ++ flat_map (in_east l.n) (below l.j)
