use Rattle.std.proofs.Common.{take}
use Rattle.area_book.specs.Standing.{IsBoxOf}
use Rattle.area_book.proofs.bounds.bounds_of.Given as goal

abbrev pub invariant-loop-shape : goal.invariant-loop-shape
invariant-loop-shape l = IsBoxOf l.bounds (take l.shape-index l.shapes)
