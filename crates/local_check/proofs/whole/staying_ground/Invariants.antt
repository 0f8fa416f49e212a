use Rattle.std.proofs.Common.{◌≡◌, take}
use Rattle.local_check.specs.Maps.{ground_of, staying}
use Rattle.local_check.specs.Placed.{present}
use Rattle.local_check.proofs.whole.staying_ground.Given as goal

abbrev pub invariant-loop-slot : goal.invariant-loop-slot
invariant-loop-slot l = l.shapes ≡ ground_of (staying l.leaving (present (take l.slot-index l.slots)))
