use Rattle.std.proofs.Common.{◌≡◌, List, [], ◌∷◌, arith, inl, inr, rules, subst, sym, ◌∙◌}
use Rattle.std.specs.Prelude.{Some}
use Rattle.std.specs.List.{Contains}
use Rattle.std.proofs.lemmas.List.Elements.{Contains-append_cases}
use Rattle.rd_plane.proofs.Members.{contains_cases}
use Rattle.level_rules.specs.declared.item.LevelItem.{LevelItem}
use Rattle.local_check.specs.Placed.{at_place, present}
use Rattle.local_check.proofs.Placing.{at_contains}
use Rattle.local_check.proofs.places.push_copy.Goals as goal

pub returns-clause-those : goal.returns-clause-those
returns-clause-those c =
    let here : at_place c.args.slots.now c.args.place ≡ Some c.in-Some-Some.part = search rules in
    λ p d. elim (Contains-append_cases c.args.list.now (c.in_ok-copy.field-0 ∷ []) p
    (subst (λ (xs : List LevelItem). Contains xs p) c.in_ok-push.ensures.ok d)) [
      | inl k ↦ inl k
      | inr k ↦ elim (contains_cases c.in_ok-copy.field-0 p [] k) [
        | inl e ↦ inr (subst (Contains (present c.args.slots.now)) (sym c.in_ok-copy.ensures ∙ e)
            (at_contains c.args.slots.now c.args.place c.in-Some-Some.part here))
        | inr n ↦ absurd (omega (arith, n.1))
      ]
    ]
