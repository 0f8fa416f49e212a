use Rattle.std.proofs.Common.{◌≡◌, ◌++◌, take}
use Rattle.local_check.specs.Maps.{ground_of, staying}
use Rattle.local_check.specs.Placed.{present}
use Rattle.local_check.proofs.whole.ground_after.Given as goal

abbrev pub invariant-loop-part : goal.invariant-loop-part
invariant-loop-part l
    = l.shapes ≡ ground_of (staying l.change.leaving (present l.map.parts.slots.items)) ++ ground_of (take l.part-index l.change.coming)
