use Rattle.std.proofs.Common.{◌≡◌, ◌++◌}
use Rattle.std.specs.Prelude.{reverse}
use Rattle.std.specs.List.{flat_map}
use Rattle.map_maker.specs.Made.{below}
use Rattle.map_maker.proofs.Sides.{in_north}
use Rattle.map_maker.proofs.border.push_along_north.Given as goal

abbrev pub invariant-loop-i : goal.invariant-loop-i
invariant-loop-i l
    = l.ring ++ flat_map (in_north l.n) (reverse (below l.i)) ≡ l.initial.ring ++ flat_map (in_north l.n) (reverse (below l.n))
