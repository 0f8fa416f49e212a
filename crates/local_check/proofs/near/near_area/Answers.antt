use Rattle.std.proofs.Common.{List, [], arith, ap, subst, sym, ◌∙◌}
use Rattle.std.specs.Prelude.{Option, unwrap_or}
use Rattle.std.specs.List.{Contains}
use Rattle.rd_plane.specs.Plane.{Vertex}
use Rattle.local_check.proofs.near.near_area.Goals as goal

abbrev Shapes : Type 0
Shapes = List (List (List Vertex))

pub returns : goal.returns
returns c = λ r d. c.in_ok-add_near_shapes.ensures r
    (subst (λ (xs : Shapes). Contains xs r) (ap (λ (o : Option Shapes). unwrap_or o []) c.in-Some.is ∙ sym c.as_slice.ensures) d)

pub returns-in_default : goal.returns-in_default
returns-in_default c = λ r d.
    absurd (omega (arith, (subst (λ (xs : Shapes). Contains xs r) (ap (λ (o : Option Shapes). unwrap_or o []) c.in_default.is) d).1))
