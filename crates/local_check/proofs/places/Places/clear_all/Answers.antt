use Rattle.std.proofs.Common.{◌∙◌, arith, refl, sym}
use Rattle.local_check.specs.Placed.{present}
use Rattle.local_check.proofs.Placing.{cleared_more, staying_none, still_placed}
use Rattle.local_check.proofs.places.Places.clear_all.Goals as goal

pub loop-ident-init : goal.loop-ident-init
loop-ident-init c = record {
  present = sym (staying_none (present c.args.self.now.slots.items));
  placed = c.requires;
  numbers = refl;
  len = refl;
  capacity = refl;
  boxed = λ b. b;
  later = λ q l. refl;
}

pub loop-ident-preserved : goal.loop-ident-preserved
loop-ident-preserved c = record {
  present = cleared_more c.loop-ident.self c.clear.new.self c.args.leaving.now c.loop-ident.ident-index c.ident-item.result
      (present c.args.self.now.slots.items) c.loop-ident-test.true (sym c.ident-item.is) c.clear.ensures.slots
      c.loop-ident.invariant.present;
  placed
      = still_placed c.loop-ident.self c.clear.new.self c.ident-item.result c.clear.ensures.slots c.clear.ensures.count
      c.clear.ensures.numbers c.loop-ident.invariant.placed;
  numbers = c.clear.ensures.numbers ∙ c.loop-ident.invariant.numbers;
  len = c.clear.ensures.len ∙ c.loop-ident.invariant.len;
  capacity = c.clear.ensures.capacity ∙ c.loop-ident.invariant.capacity;
  boxed = λ b. c.clear.ensures.boxed (c.loop-ident.invariant.boxed b);
  later = λ q l. c.clear.ensures.later q (omega (
    arith,
    l,
    c.loop-ident.invariant.len,
    c.loop-ident.self.slots.ok.0,
    c.args.self.now.slots.ok.0,
  )) ∙ c.loop-ident.invariant.later q l;
}
