use Rattle.std.proofs.Common.{◌≢◌, sym, subst}
use Rattle.std.specs.Prelude.{IfNone}
use Rattle.std.specs.List.{Contains}
use Rattle.level_rules.specs.declared.item.LevelItem.{LevelItem}
use Rattle.local_check.specs.Placed.{present}
use Rattle.local_check.proofs.Placing.{contains_at, found_at}
use Rattle.local_check.proofs.places.Places.find.Goals as goal

pub returns-in_err-place-clause-none : goal.returns-in_err-place-clause-none
returns-in_err-place-clause-none c =
    let slots = c.args.self.now.slots.items in
    subst (λ r. IfNone r ((p : LevelItem) → Contains (present slots) p → p.ident ≢ c.args.ident)) (sym c.from_residual.ensures)
    (λ p d e. let k = contains_at slots p d in c.in_err-place.ensures.none k.0 p k.1 e)

pub returns-clause-some : goal.returns-clause-some
returns-clause-some c =
    let here = c.in_ok-place.ensures.some in
    found_at c.args.self.now.slots.items c.in_ok-place.place here.0 c.args.ident c.as_ref.result c.index.result.now c.as_ref.ensures.value
    c.index.ensures here.1 here.2
