use Rattle.std.proofs.Common.{ap, subst, sym, ◌∙◌}
use Rattle.std.specs.Prelude.{◌<ℤ◌, ◌≤ℤ◌, IfSome, find}
use Rattle.area_book.specs.Areas.{BookView, areas_with, is_area_of, newest_area}
use Rattle.area_book.specs.Rule.{KeepsAreas}
use Rattle.area_book.specs.Standing.{IsSetBy, Standing}
use Rattle.area_book.proofs.Standings.{as_set, set_areas, set_fits, set_stood}
use Rattle.area_book.proofs.book.AreaBook.set_area.Goals as goal

-- the area is set in the book as it stood before the room was reserved
is_set : (c : goal.After-replace_area) → IsSetBy c.args.holder c.args.moment c.args.shapes.now
    (record { areas = c.self.inside.areas.items; current = c.self.inside.current.items })
    (record { areas = c.replace_area.new.areas.items; current = c.replace_area.new.current.items }) c.self.inside.undo.items
    c.replace_area.new.undo.items
is_set c
    = as_set c.args.holder c.args.moment c.in-Ok.own c.args.shapes.now c.self.inside.areas.items c.reserve.new.self.items
    c.self.inside.current.items
    c.reserve-2.new.self.items
    (record { areas = c.replace_area.new.areas.items; current = c.replace_area.new.current.items }) c.self.inside.undo.items
    c.reserve-3.new.self.items
    c.replace_area.new.undo.items
    c.in_ok-reserve.ensures.items c.in_ok-reserve-2.ensures.items c.in_ok-reserve-3.ensures.items c.in-Ok.ensures.ok.0
    c.replace_area.ensures

pub invariant_of-self-2 : goal.invariant_of-self-2
invariant_of-self-2 c = let v = ap (λ (k : BookView). k.areas) c.self.view_is in
    set_fits c.args.holder c.args.moment c.args.shapes.now c.self.inside.areas.items c.replace_area.new.areas.items
    c.self.inside.current.items
    c.replace_area.new.current.items c.self.inside.undo.items c.replace_area.new.undo.items c.self.invariant
    (subst (λ xs. KeepsAreas xs c.args.holder c.args.shapes.now) c.deref.ensures.value c.in-Ok.ensures.ok.1)
    (subst (λ xs. IfSome (find (is_area_of c.args.holder) xs) (λ a. a.since <ℤ c.args.moment)) (sym v) c.requires.later)
    (subst (λ xs. IfSome (newest_area xs) (λ t. t ≤ℤ c.args.moment)) (sym v) c.requires.newest)
    (is_set c)

pub returns-clause-ok : goal.returns-clause-ok
returns-clause-ok c = let v = ap (λ (k : BookView). k.areas) c.self.view_is in (
  subst (λ xs. KeepsAreas xs c.args.holder c.args.shapes.now) (c.deref.ensures.value ∙ v) c.in-Ok.ensures.ok.1,
  set_areas c.args.holder c.args.moment c.args.shapes.now
      (record { areas = c.self.inside.areas.items; current = c.self.inside.current.items })
      (record { areas = c.replace_area.new.areas.items; current = c.replace_area.new.current.items })
      c.self.inside.undo.items c.replace_area.new.undo.items c.self.invariant.now.current (is_set c)
      ∙ ap (areas_with c.args.holder c.args.moment c.args.shapes.now) v,
)

pub returns-clause-kept : goal.returns-clause-kept
returns-clause-kept c = ap (λ (t : Standing). t.areas)
    (set_stood c.args.holder c.args.moment c.args.shapes.now (record { areas = c.self.inside.areas.items; current = c.self.inside.current.items })
    (record { areas = c.replace_area.new.areas.items; current = c.replace_area.new.current.items })
    c.self.inside.undo.items c.replace_area.new.undo.items c.self.invariant.now.current (is_set c)) ∙ ap (λ (k : BookView).
    k.kept) c.self.view_is
