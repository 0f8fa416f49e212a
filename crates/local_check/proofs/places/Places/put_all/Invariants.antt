use Rattle.std.proofs.Common.{◌≡◌, ◌++◌, ℕ, List}
use Rattle.std.specs.Prelude.{reverse}
use Rattle.local_check.specs.Kept.{AreBoxed}
use Rattle.local_check.specs.Numbered.{number_at}
use Rattle.local_check.specs.Placed.{HasRoomFor, IsPlaced, present}
use Rattle.local_check.proofs.places.Places.put_all.Given as goal

abbrev pub invariant-loop-part : goal.invariant-loop-part
invariant-loop-part l = record {
  present : present l.self.slots.items ++ reverse l.coming.items ≡ present l.initial.self.slots.items ++ reverse l.initial.coming.items;
  placed : IsPlaced l.self;
  boxed : AreBoxed l.self.boxes l.self.slots.items;
  room : HasRoomFor l.self l.coming.items;
  same : (q : List ℕ) → number_at l.self.numbers q ≡ number_at l.initial.self.numbers q;
  next : l.self.numbers.next ≡ l.initial.self.numbers.next;
}

abbrev pub decreases-loop-part : goal.decreases-loop-part
decreases-loop-part l = goal.left-loop-part l
