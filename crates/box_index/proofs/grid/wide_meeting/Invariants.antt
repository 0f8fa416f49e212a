use Rattle.std.proofs.Common.{ℕ}
use Rattle.box_index.proofs.Filed.{AreSought}
use Rattle.box_index.proofs.grid.wide_meeting.Given as goal

abbrev pub invariant-loop-slot : goal.invariant-loop-slot
invariant-loop-slot l = AreSought (λ (k : ℕ). k) l.bounds l.initial.slot-iterator l.slot-iterator l.slots.keys
