use Rattle.std.proofs.Common.{ℕ, arith, length, subst, sym}
use Rattle.std.specs.Prelude.{IsSome, reverse}
use Rattle.std.specs.List.{All}
use Rattle.local_check.specs.declared.numbers.Numbers.{Numbers}
use Rattle.local_check.specs.Kept.{AreBoxedFrom}
use Rattle.local_check.specs.Numbered.{number_at}
use Rattle.local_check.proofs.Keeping.{later_boxed}
use Rattle.local_check.proofs.places.Places.change.Goals as goal

pub put_all-requires-clause-room : goal.put_all-requires-clause-room
put_all-requires-clause-room c = record {
  room = omega (
    arith,
    c.requires.room.room,
    c.clear_all.ensures.len,
    c.clear_all.ensures.capacity,
    c.clear_all.new.self.slots.ok.0,
    c.args.self.now.slots.ok.0,
  );
  known = subst (λ (n : Numbers). All (λ p. IsSome (number_at n p.ident)) c.args.coming.items) (sym c.clear_all.ensures.numbers)
      c.requires.room.known;
  boxes = subst (λ (n : ℕ). AreBoxedFrom c.clear_all.new.self.boxes n (reverse c.args.coming.items))
      (omega (arith, c.clear_all.ensures.len, c.clear_all.new.self.slots.ok.0, c.args.self.now.slots.ok.0))
      (later_boxed c.args.self.now.boxes c.clear_all.new.self.boxes (length c.args.self.now.slots.items)
      (reverse c.args.coming.items) c.clear_all.ensures.later
      c.requires.room.boxes);
}
