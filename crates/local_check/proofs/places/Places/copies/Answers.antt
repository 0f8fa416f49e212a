use Rattle.std.proofs.Common.{◌≡◌, ℕ, List, arith, ap, inl, inr, length, subst, sym}
use Rattle.std.specs.Prelude.{Option, Some}
use Rattle.std.specs.List.{Contains}
use Rattle.std.specs.Map.Iter.{deref}
use Rattle.std.proofs.lemmas.Map.Iter.{rest_more, rest_all}
use Rattle.rd_plane.proofs.Members.{contains_cases}
use Rattle.level_rules.specs.declared.item.LevelItem.{LevelItem}
use Rattle.local_check.specs.Placed.{at_place, present}
use Rattle.local_check.proofs.places.Places.copies.Goals as goal

pub loop-place-init : goal.loop-place-init
loop-place-init c = record {
  those = λ p d. absurd (omega (arith, d.1, ap (λ (xs : List LevelItem). length xs) c.new-list.ensures));
  all = λ k p d e. inr d;
}

pub loop-place-preserved : goal.loop-place-preserved
loop-place-preserved c =
    let slots = c.args.self.now.slots.items in record {
      those = λ p d. elim (c.in_ok-push_copy.ensures.those p d) [
        | inl k ↦ c.loop-place.invariant.those p k
        | inr k ↦ subst
            (λ (xs : List (Option LevelItem)). Contains (present xs) p) c.deref.ensures.value k
      ];
      all = λ k p d e. elim (c.loop-place.invariant.all k p d e) [
        | inl f ↦ inl (c.in_ok-push_copy.ensures.kept p f)
        | inr r ↦ elim (contains_cases c.in-Some.place.now k c.next.new.self
            (subst (λ (ks : List ℕ). Contains ks k) (rest_more deref _ _ _ _ c.in-Some.is c.next.ensures.steps) r)) [
              | inl q ↦ inl (c.in_ok-push_copy.ensures.here p
                  (subst (λ (xs : List (Option LevelItem)). at_place xs c.in-Some.place.now ≡ Some p) (sym c.deref.ensures.value)
                  (subst (λ (n : ℕ). at_place slots n ≡ Some p) (sym q) e)))
              | inr t ↦ inr t
            ]
      ];
    }

pub returns-clause-those : goal.returns-clause-those
returns-clause-those c = c.loop-place.invariant.those

pub returns-clause-all : goal.returns-clause-all
returns-clause-all c = λ k p d e. elim
    (c.loop-place.invariant.all k p
    (subst (λ (ks : List ℕ). Contains ks k) (sym c.into_iter-place-iterator.ensures.into_iter_gives.0) d) e) [
      | inl f ↦ f
      | inr r ↦ absurd (omega (arith, r.1, ap (λ (ks : List ℕ). length ks) (rest_all deref _ _ _ c.in-None.is c.next.ensures.steps)))
    ]
