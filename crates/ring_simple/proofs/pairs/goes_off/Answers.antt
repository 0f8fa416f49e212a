use Rattle.std.proofs.Common.{ap, ◌∙◌, sym}
use Rattle.std.specs.Prelude.{not}
use Rattle.std.proofs.lemmas.Bool.{true≢false}
use Rattle.ring_simple.proofs.Turning.{apart_in_x, apart_in_y, apart_by_turn, between_x, between_y}
use Rattle.ring_simple.proofs.pairs.goes_off.Goals as goal

pub returns-then-is_between : goal.returns-then-is_between
returns-then-is_between c = λ _ p oe of. apart_in_x p c.args.e c.args.f c.requires
    (rw (← c.e.view_is, ← c.e-inside.view_is, ← c.f.view_is, ← c.f-inside.view_is)
    (between_x _ _ _ c.e-inside.invariant.0 c.e-inside.invariant.1 c.f-inside.invariant (c.is_between.ensures c.if-is_between.true))) oe of

pub returns-then-is_between-2 : goal.returns-then-is_between-2
returns-then-is_between-2 c = λ _ p oe of. apart_in_y p c.args.e c.args.f c.requires
    (rw (← c.e.view_is, ← c.e-inside.view_is, ← c.f.view_is, ← c.f-inside.view_is)
    (between_y _ _ _ c.e-inside.invariant.0 c.e-inside.invariant.1 c.f-inside.invariant (c.is_between-2.ensures c.if-is_between-2.true))) oe of

pub returns : goal.returns
returns c = λ t p oe of. apart_by_turn p c.args.e c.args.f (rw (← c.f.view_is) c.f.invariant) c.requires
    (λ z. true≢false (sym t ∙ ap not (c.is_in_line.ensures.1 (rw (← c.f.view_is) at z)))) oe of
