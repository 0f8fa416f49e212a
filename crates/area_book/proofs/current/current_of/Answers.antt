use Rattle.std.proofs.Common.{ap, get_or, sym, ◌∙◌}
use Rattle.area_book.specs.declared.current.Current.{Current}
use Rattle.area_book.proofs.Currents.{found_at, found_none}
use Rattle.area_book.proofs.current.current_of.Goals as goal

pub returns-in_err-at : goal.returns-in_err-at
returns-in_err-at c = rw c.from_residual.ensures (found_none c.args.holder c.args.current.now c.args.areas.now c.requires
    (sym c.place_of.ensures ∙ c.in_err-at.was))

pub returns : goal.returns
returns c = let a = c.area_at.result.now in
    found_at c.args.holder c.args.current.now c.args.areas.now c.in_ok-at.at c.index-current-at.result a c.requires
    (sym c.place_of.ensures ∙ c.in_ok-at.was) c.index-current-at.is
    (c.area_at.ensures a ∙ ap (λ (x : Current). get_or c.args.areas.now x.place a) (sym c.index-current-at.is))
