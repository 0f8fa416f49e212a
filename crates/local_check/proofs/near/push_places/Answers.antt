use Rattle.std.proofs.Common.{ℕ, List, arith, ap, inl, inr, length, subst, sym}
use Rattle.std.specs.List.{Contains}
use Rattle.std.specs.Map.Iter.{deref}
use Rattle.std.proofs.lemmas.List.Elements.{Contains-append_cases}
use Rattle.std.proofs.lemmas.Map.Iter.{rest_more, rest_all}
use Rattle.rd_plane.specs.Plane.{Segment}
use Rattle.rd_plane.proofs.Members.{contains_cases}
use Rattle.chain_cancel.proofs.LeastNode.{contains_left, contains_right}
use Rattle.local_check.specs.Nearby.{own_at}
use Rattle.local_check.proofs.Nearby.{place_edge}
use Rattle.local_check.proofs.near.push_places.Goals as goal

pub loop-place-init : goal.loop-place-init
loop-place-init c = record { kept = λ e k. k; here = λ k e d o. inr d; those = λ e k. inl k }

pub loop-place-preserved : goal.loop-place-preserved
loop-place-preserved c =
    let leaving = c.args.leaving.now in
    let slots = c.args.slots.now in
    let own = own_at leaving slots c.in-Some.place.now in
    let step = c.in_ok-push_place.ensures leaving c.in_ok-gone.ensures in
    let more = λ (e : Segment) (k : Contains c.loop-place.edges e). subst (λ (es : List Segment). Contains es e) (sym step)
    (contains_left c.loop-place.edges own e k) in record {
      kept = λ e k. more e (c.loop-place.invariant.kept e k);
      here = λ k e d o. elim (c.loop-place.invariant.here k e d o) [
        | inl f ↦ inl (more e f)
        | inr r ↦ elim (contains_cases c.in-Some.place.now k c.next.new.self
            (subst (λ (ks : List ℕ). Contains ks k) (rest_more deref _ _ _ _ c.in-Some.is c.next.ensures.steps) r)) [
              | inl q ↦ inl (subst (λ (es : List Segment). Contains es e) (sym step)
                  (contains_right c.loop-place.edges own e (subst (λ (n : ℕ). Contains (own_at leaving slots n) e) (sym q) o)))
              | inr t ↦ inr t
            ]
      ];
      those = λ e k. elim (Contains-append_cases c.loop-place.edges own e (subst (λ (es : List Segment). Contains es e) step k)) [
        | inl f ↦ c.loop-place.invariant.those e f
        | inr o ↦ inr (place_edge leaving slots c.in-Some.place.now e o)
      ];
    }

pub returns : goal.returns
returns c = record {
  kept = c.loop-place.invariant.kept;
  here = λ k e d o. elim (c.loop-place.invariant.here k e
      (subst (λ (ks : List ℕ). Contains ks k) (sym c.into_iter-place-iterator.ensures.into_iter_gives.0) d) o) [
        | inl f ↦ f
        | inr r ↦ absurd (omega (arith, r.1, ap (λ (ks : List ℕ). length ks) (rest_all deref _ _ _ c.in-None.is c.next.ensures.steps)))
      ];
  those = c.loop-place.invariant.those;
}
