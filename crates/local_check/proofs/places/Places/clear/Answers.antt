use Rattle.std.proofs.Common.{◌∙◌, ap, arith, sym}
use Rattle.local_check.specs.Numbered.{place_at}
use Rattle.local_check.proofs.Numbering.{some_same}
use Rattle.local_check.proofs.Keeping.{cleared_boxed}
use Rattle.local_check.proofs.Placing.{at_within, cleared_is, none_cleared, one_less}
use Rattle.local_check.proofs.places.Places.clear.Goals as goal

pub returns-in-Some-clause-slots : goal.returns-in-Some-clause-slots
returns-in-Some-clause-slots c =
    let s = c.args.self.now in
    let here = c.in-Some.ensures.some in
    cleared_is c.args.ident s.slots.items c.in-Some.place here.0 here.1 here.2
    (λ j q g f. some_same j c.in-Some.place
    (sym (c.requires.at j q g) ∙ (ap (place_at s.numbers) (f ∙ sym here.2) ∙ c.requires.at c.in-Some.place here.0 here.1)))

pub overflow_sub-self : goal.overflow_sub-self
overflow_sub-self c =
    let here = c.in-Some.ensures.some in
    omega (arith, c.requires.count, one_less c.args.self.now.slots.items c.in-Some.place here.0 here.1)

pub returns-in_default-clause-slots : goal.returns-in_default-clause-slots
returns-in_default-clause-slots c
    = sym (none_cleared c.args.ident c.args.self.now.slots.items (λ j p g f. c.in_default.ensures.none j p g f))

pub returns-in-Some-clause-count : goal.returns-in-Some-clause-count
returns-in-Some-clause-count c =
    let here = c.in-Some.ensures.some in
    omega (arith, c.requires.count, one_less c.args.self.now.slots.items c.in-Some.place here.0 here.1)

pub returns-in-Some-clause-boxed : goal.returns-in-Some-clause-boxed
returns-in-Some-clause-boxed c
    = cleared_boxed c.args.self.now.boxes c.drop_box.new.boxes c.args.self.now.slots.items c.in-Some.place c.drop_box.ensures

pub returns-in-Some-clause-later : goal.returns-in-Some-clause-later
returns-in-Some-clause-later c =
    let here = c.in-Some.ensures.some in
    λ q l. c.drop_box.ensures q (λ e. omega (arith, e, l, at_within c.args.self.now.slots.items c.in-Some.place here.0 here.1))
