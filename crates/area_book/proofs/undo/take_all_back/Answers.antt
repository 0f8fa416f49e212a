use Rattle.std.proofs.Common.{sym, ap, ◌∙◌}
use Rattle.area_book.specs.Standing.{Standing, stood}
use Rattle.area_book.proofs.Standings.{stood_more}
use Rattle.area_book.proofs.undo.take_all_back.Goals as goal

pub loop-replaced-preserved : goal.loop-replaced-preserved
loop-replaced-preserved c =
    let s : Standing = record { areas = c.loop-replaced.areas.items; current = c.loop-replaced.current.items } in
    ap (stood c.pop.new.self.items) c.take_back.ensures ∙ sym (stood_more c.pop.new.self.items c.in-Some.replaced s)
    ∙ sym (ap (λ rs. stood rs s) c.in-Some.ensures.items) ∙ c.loop-replaced.invariant
