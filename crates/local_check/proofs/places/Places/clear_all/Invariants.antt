use Rattle.std.proofs.Common.{◌≡◌, ◌≤◌, ℕ, length, take}
use Rattle.std.specs.Prelude.{vec_len, vec_capacity}
use Rattle.std.specs.FinMap as map
use Rattle.local_check.specs.Kept.{AreBoxed}
use Rattle.local_check.specs.Maps.{staying}
use Rattle.local_check.specs.Placed.{IsPlaced, present}
use Rattle.local_check.proofs.places.Places.clear_all.Given as goal

abbrev pub invariant-loop-ident : goal.invariant-loop-ident
invariant-loop-ident l = record {
  present : present l.self.slots.items ≡ staying (take l.ident-index l.leaving) (present l.initial.self.slots.items);
  placed : IsPlaced l.self;
  numbers : l.self.numbers ≡ l.initial.self.numbers;
  len : vec_len l.self.slots ≡ vec_len l.initial.self.slots;
  capacity : vec_capacity l.self.slots ≡ vec_capacity l.initial.self.slots;
  boxed : AreBoxed l.initial.self.boxes l.initial.self.slots.items → AreBoxed l.self.boxes l.self.slots.items;
  later : (q : ℕ) → length l.initial.self.slots.items ≤ q → map.get l.self.boxes q ≡ map.get l.initial.self.boxes q;
}
