use Rattle.std.proofs.Common.{◌≡◌, take}
use Rattle.moment_query.proofs.held.shapes_of.Given as goal

abbrev pub invariant-loop-shape : goal.invariant-loop-shape
invariant-loop-shape l = l.copy ≡ take l.shape-index l.shapes
