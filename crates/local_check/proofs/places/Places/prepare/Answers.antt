use Rattle.std.proofs.Common.{List, arith, subst, sym}
use Rattle.std.specs.Prelude.{Option}
use Rattle.level_rules.specs.declared.item.LevelItem.{LevelItem}
use Rattle.local_check.specs.Kept.{AreBoxed}
use Rattle.local_check.proofs.Keeping.{before_boxed}
use Rattle.local_check.proofs.places.Places.prepare.Goals as goal

pub returns-clause-boxed : goal.returns-clause-boxed
returns-clause-boxed c = λ b. before_boxed c.args.self.now.boxes c.put_boxes.new.boxes c.reserve.new.self.items
    (λ q l. c.put_boxes.ensures.before q (omega (arith, l, c.len.ensures, c.reserve.new.self.ok.0)))
    (subst (λ (xs : List (Option LevelItem)). AreBoxed c.args.self.now.boxes xs) (sym c.reserve.ensures.items) b)

pub returns-in_err-put_boxes-clause-boxed : goal.returns-in_err-put_boxes-clause-boxed
returns-in_err-put_boxes-clause-boxed c = λ b. before_boxed c.args.self.now.boxes c.put_boxes.new.boxes c.reserve.new.self.items
    (λ q l. c.put_boxes.ensures.before q (omega (arith, l, c.len.ensures, c.reserve.new.self.ok.0)))
    (subst (λ (xs : List (Option LevelItem)). AreBoxed c.args.self.now.boxes xs) (sym c.reserve.ensures.items) b)
