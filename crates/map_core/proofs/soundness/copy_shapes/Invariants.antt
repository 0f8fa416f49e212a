use Rattle.std.proofs.Common.{◌≡◌, take}
use Rattle.map_core.proofs.soundness.copy_shapes.Given as goal

abbrev pub invariant-loop-shape : goal.invariant-loop-shape
invariant-loop-shape l = l.list ≡ take l.shape-index l.shapes
