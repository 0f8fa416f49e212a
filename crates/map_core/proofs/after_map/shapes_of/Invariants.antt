use Rattle.std.proofs.Common.{◌≡◌, take}
use Rattle.map_core.proofs.after_map.shapes_of.Given as goal

abbrev pub invariant-loop-rings : goal.invariant-loop-rings
invariant-loop-rings l = l.list ≡ take l.rings-index l.shapes
