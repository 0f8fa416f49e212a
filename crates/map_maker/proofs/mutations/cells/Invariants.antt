use Rattle.std.proofs.Common.{◌≡◌, map}
use Rattle.std.specs.List.{flat_map}
use Rattle.map_maker.specs.Made.{below, new_cell}
use Rattle.map_maker.proofs.mutations.cells.Given as goal

abbrev pub invariant-loop-j : goal.invariant-loop-j
invariant-loop-j l = l.mutations ≡ flat_map (λ j. map (new_cell l.n j) (below l.n)) (below l.j)
