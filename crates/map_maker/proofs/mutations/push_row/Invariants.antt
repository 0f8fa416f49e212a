use Rattle.std.proofs.Common.{◌≡◌, ◌++◌, map}
use Rattle.map_maker.specs.Made.{below, new_cell}
use Rattle.map_maker.proofs.mutations.push_row.Given as goal

abbrev pub invariant-loop-i : goal.invariant-loop-i
invariant-loop-i l = l.mutations ≡ l.initial.mutations ++ map (new_cell l.n l.j) (below l.i)
