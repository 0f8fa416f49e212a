use Rattle.std.proofs.Common.{inr, refl}
use Rattle.std.proofs.lemmas.Bool.{both_ways}
use Rattle.area_book.proofs.Meeting.{boxes_apart}
use Rattle.area_book.proofs.others.lesser.Goals as goal

pub returns-then-not-boxes_meet : goal.returns-then-not-boxes_meet
returns-then-not-boxes_meet c = inr (
  refl,
  boxes_apart c.args.bounds.now c.args.one.now c.args.own c.args.found c.args.shapes.now c.args.area.now c.requires.boxed c.requires.is
      (λ m. both_ways c.boxes_meet.result c.if-not-boxes_meet.true (c.boxes_meet.ensures.1 m)),
)
