-- The least of what was found so far and of more.
use Rattle.std.proofs.Common.{◌≡◌, refl, sym, ap, ◌∙◌, inl, inr, subst}
use Rattle.std.specs.Prelude.{◌≢◌, ◌⊎◌, Option, Some, None, MatchOption}
use Rattle.std.specs.Cmp.{IsTotalOrder}
use Rattle.std.specs.Ordering.{ordering_reverse}
use Rattle.std.specs.declared.cmp.Ordering.{Ordering}
use Rattle.std.specs.declared.cmp.Ordering.TheVariants.{Less, Equal, Greater}
use Rattle.std.proofs.lemmas.Cmp.{alike_right, tied_itself}
use Rattle.rd_plane.specs.Improving.{Improves}
use Rattle.rd_plane.specs.Order.{IsLeast}

-- ---- orderings
pub reverse_greater : (o : Ordering) → o ≡ Greater → ordering_reverse o ≡ Less
reverse_greater Less h = cc
reverse_greater Equal h = cc
reverse_greater Greater h = refl

pub by_ordering : {P : Type 0} (o : Ordering) → (o ≡ Less → P) → (o ≡ Equal → P) → (o ≡ Greater → P) → P
by_ordering Less f g h = f refl
by_ordering Equal f g h = g refl
by_ordering Greater f g h = h refl

-- where y is not below x, and z not below y, z is not below x
not_above : {A : Type 0} {order : A → A → Ordering} → IsTotalOrder order → (x y z : A) → order y x ≢ Less → order z y ≢ Less
    → order z x ≢ Less
not_above {A} {order} total x y z h k l = by_ordering (order x y)
    (λ o. k (total.trans z x y l o))
    (λ o. k (sym (alike_right total x y z o) ∙ l))
    (λ o. h (total.antisymm y x ∙ reverse_greater (order x y) o))

not_itself : {A : Type 0} {order : A → A → Ordering} → IsTotalOrder order → (x : A) → order x x ≢ Less
not_itself total x l = differ (sym (tied_itself total x) ∙ l)
  where
    differ : Equal ≡ Less → ⊥
    differ e = cc

same_some : {A : Type 0} (x y : A) → Some x ≡ Some y → x ≡ y
same_some x y h = cc

-- ---- searches one after another
abbrev pub Either : {A : Type 0} → (A → Type 0) → (A → Type 0) → A → Type 0
Either T U x = T x ⊎ U x

-- the least of two searches in a row
pub both : {A : Type 0} {order : A → A → Ordering} {T U : A → Type 0} → IsTotalOrder order → (a b c : Option A) → Improves order T a b
    → Improves order U b c → Improves order (Either T U) a c
both total a b c f g = record {
  came = elim g.came [
    | inr k ↦ inr (k.0, inr k.1, k.2)
    | inl q ↦ elim f.came [ inl p ↦ inl (q ∙ p) | inr k ↦ inr (k.0, inl k.1, q ∙ k.2) ]
  ];
  under = λ x t. elim t [
    | inr u ↦ g.under x u
    | inl s ↦ let r = f.under x s in let k = g.kept r.0 r.1 in (k.0, k.1, not_above total k.0 r.0 x k.2 r.2)
  ];
  kept = λ x q. let r = f.kept x q in let k = g.kept r.0 r.1 in (k.0, k.1, not_above total k.0 r.0 x k.2 r.2);
}

-- the search said in other words
pub same : {A : Type 0} {order : A → A → Ordering} {T U : A → Type 0} (a b : Option A) → ((x : A) → T x → U x) → ((x : A) → U x → T x)
    → Improves order T a b → Improves order U a b
same a b f g i = record {
  came = elim i.came [ inl p ↦ inl p | inr k ↦ inr (k.0, f k.0 k.1, k.2) ];
  under = λ x u. i.under x (g x u);
  kept = i.kept;
}

-- a search that finds nothing
pub none : {A : Type 0} {order : A → A → Ordering} {T : A → Type 0} → IsTotalOrder order → (a : Option A) → ((x : A) → T x → ⊥)
    → Improves order T a a
none total a n = record { came = inl refl; under = λ x t. absurd (n x t); kept = λ b q. (b, q, not_itself total b) }

-- ---- one thing, of which alone T holds
pub first : {A : Type 0} {order : A → A → Ordering} {T : A → Type 0} → IsTotalOrder order → (p : A) → T p → ((x : A) → T x → x ≡ p)
    → Improves order T None (Some p)
first {A} {order} total p t o = record {
  came = inr (p, t, refl);
  under = λ x s. (p, refl, subst (λ y. order y p ≢ Less) (sym (o x s)) (not_itself total p));
  kept = λ b q. cc;
}

-- the lesser of what was found and of that thing
pub lesser : {A : Type 0} {order : A → A → Ordering} {T : A → Type 0} → IsTotalOrder order → (a : Option A) (found r p : A) → a ≡ Some found
    → T p → ((x : A) → T x → x ≡ p)
    → ((r ≡ found) × (order found p ≡ Less)) ⊎ ((r ≡ p) × (order found p ≢ Less)) → Improves order T a (Some r)
lesser {A} {order} {T} total a found r p q t o c = elim c [
  | inl k ↦ record {
    came = inl (ap Some k.0 ∙ sym q);
    under = λ x s. (
      r,
      refl,
      subst (λ y. order x y ≢ Less) (sym k.0)
          (subst (λ y. order y found ≢ Less) (sym (o x s)) (λ l. not_itself total found (total.trans found p found k.1 l))),
    );
    kept = λ b e. (
      r,
      refl,
      subst (λ y. order b y ≢ Less) (sym k.0)
          (subst (λ y. order y found ≢ Less) (same_some found b (sym q ∙ e)) (not_itself total found)),
    );
  }
  | inr k ↦ record {
    came = inr (p, t, ap Some k.0);
    under = λ x s. (r, refl, subst (λ y. order x y ≢ Less) (sym k.0) (subst (λ y. order y p ≢ Less) (sym (o x s)) (not_itself total p)));
    kept = λ b e. (r, refl, subst (λ y. order b y ≢ Less) (sym k.0) (subst (λ y. order y p ≢ Less) (same_some found b (sym q ∙ e)) k.1));
  }
]

-- ---- the whole search
pub least_of : {A : Type 0} {order : A → A → Ordering} {T : A → Type 0} (new : Option A) → Improves order T None new
    → MatchOption new ((x : A) → T x → ⊥) (IsLeast order T)
least_of None i = λ x t. let k = i.under x t in no k.0 k.1
  where
    no : {A : Type 0} (r : A) → None ≡ Some r → ⊥
    no r e = cc
least_of {A} {order} {T} (Some r) i = record {
  has = elim i.came [ inl q ↦ absurd (no q) | inr k ↦ subst T (sym (same_some r k.0 k.2)) k.1 ];
  least = λ x t. let k = i.under x t in subst (λ y. order x y ≢ Less) (sym (same_some r k.0 k.1)) k.2;
}
  where
    no : Some r ≡ None → ⊥
    no e = cc
