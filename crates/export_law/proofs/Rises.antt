-- Lists in rising order: none comes before one that stands before it, and each once.
use Rattle.std.proofs.Common.{◌≡◌, ℕ, refl, sym, ap, ◌∙◌, arith, inl, inr, List, [], ◌∷◌, subst}
use Rattle.std.specs.Prelude.{true, false, Bool, ◌≢◌, cond}
use Rattle.std.specs.Cmp.{IsStrictWeakOrder}
use Rattle.std.specs.Cmp.Lexicographic.{slice_cmp}
use Rattle.std.specs.declared.cmp.Ordering.{Ordering}
use Rattle.std.specs.declared.cmp.Ordering.TheVariants.{Less, Equal, Greater}
use Rattle.std.specs.List.{All, AllPairs, Contains}
use Rattle.std.specs.Ordering.{is_eq, is_lt, nat_cmp, ordering_reverse}
use Rattle.std.specs.Str.{bytes_eq}
use Rattle.std.proofs.lemmas.Bool.{cases_Bool, both_ways}
use Rattle.std.proofs.lemmas.Cmp.{lists_total, nat_cmp_total}
use Rattle.std.proofs.lemmas.List.Elements.{All-cons, All-contains, All-nil, All-weaker}
use Rattle.std.proofs.lemmas.List.Kept.{AllPairs-cons}
use Rattle.std.proofs.lemmas.List.Sorted.{All-permutation}
use Rattle.std.proofs.lemmas.List.Sorted.{ranks_by}
use Rattle.std.proofs.lemmas.Map.Text.{is_eq-slice_cmp}
use Rattle.std.proofs.lemmas.Slice.Eq.{bytes_eq-Decides}
use Rattle.rd_plane.proofs.Members.{contains_head, contains_tail, contains_cases}
use Rattle.map_rules.proofs.Lists.{all_from, pairs_head, pairs_tail}
use Rattle.version_history.specs.Moments.{has_lower, in_order, placed, rising}
use Rattle.moment_query.specs.Exports.{once}
use Rattle.export_law.proofs.Reordered.{in_order_pairs, placed_same}

module _ {X : Type 0} (lt : X → X → Bool) (o : IsStrictWeakOrder lt) where
  -- none comes before one that stands before it
  abbrev pub Climbs : List X → Type 0
  Climbs l = AllPairs (λ x y. lt y x ≡ false) l

  placed_climbs : (a : X) (l : List X) → Climbs l → Climbs (placed lt a l)
  unfolding placed
  placed_climbs a [] p = AllPairs-cons (λ x y. lt y x ≡ false) a [] (All-nil (λ y. lt y a ≡ false)) p
  placed_climbs a (b ∷ r) p = by (placed_climbs a r (pairs_tail (λ x y. lt y x ≡ false) b r p)) (lt b a) refl
    where
      after_b : All (λ y. lt y b ≡ false) r
      after_b = pairs_head (λ x y. lt y x ≡ false) b r p

      by : Climbs (placed lt a r) → (t : Bool) → lt b a ≡ t → Climbs (cond t (b ∷ placed lt a r) (a ∷ b ∷ r))
      by behind true h = AllPairs-cons (λ x y. lt y x ≡ false) b (placed lt a r) placed_after_b behind
        where
          placed_after_b : All (λ y. lt y b ≡ false) (placed lt a r)
          placed_after_b = All-permutation (λ y. lt y b ≡ false) (a ∷ r) (placed lt a r) (placed_same lt a r)
              (All-cons (λ y. lt y b ≡ false) a r (o.one_way b a h) after_b)
      by behind false h = AllPairs-cons (λ x y. lt y x ≡ false) a (b ∷ r)
          (All-cons (λ y. lt y a ≡ false) b r h
          (All-weaker (λ y. lt y b ≡ false) (λ y. lt y a ≡ false) (λ y k. o.chain y b a k h) r after_b)) p

  pub in_order_climbs : (l : List X) → Climbs (in_order lt l)
  unfolding in_order
  in_order_climbs [] = λ i j d l m. absurd (omega (arith, m))
  in_order_climbs (a ∷ l) = placed_climbs a (in_order lt l) (in_order_climbs l)

-- ---- bytes
abbrev below : List ℕ → List ℕ → Bool
below a b = is_lt (slice_cmp nat_cmp a b)

by_answer : (r : Ordering) → is_lt r ≡ false → is_lt (ordering_reverse r) ≡ false → is_eq r ≡ true
by_answer Less h k = absurd (both_ways false refl (sym h))
by_answer Equal h k = refl
by_answer Greater h k = absurd (both_ways false refl (sym k))

-- of two that differ one is below the other
pub differ_below : (a b : List ℕ) → a ≢ b → below b a ≡ false → below a b ≡ true
differ_below a b d h = elim (cases_Bool (below a b)) [
  | inl t ↦ t
  | inr t ↦ absurd (d ((bytes_eq-Decides a b).0 (sym (is_eq-slice_cmp a b)
      ∙ by_answer (slice_cmp nat_cmp a b) t (ap is_lt (sym ((lists_total nat_cmp_total).antisymm b a)) ∙ h))))
]

module _ {X : Type 0} (key : X → List ℕ) where
  order : IsStrictWeakOrder (has_lower key)
  order = ranks_by (lists_total nat_cmp_total) key

  abbrev pub Rises : List X → Type 0
  Rises l = AllPairs (λ x y. has_lower key x y ≡ true) l

  abbrev Differ : X → X → Type 0
  Differ x y = key x ≢ key y

  -- what differs rises in order
  pub rising_rises : (l : List X) → AllPairs Differ l → Rises (rising key l)
  rising_rises l p i j d a b =
      let apart = in_order_pairs (has_lower key) Differ (λ x y n e. n (sym e)) l p i j d a b in
      differ_below _ _ apart (in_order_climbs (has_lower key) order l i j d a b)

  pub rising_climbs : (l : List X) → AllPairs (λ x y. has_lower key y x ≡ false) (rising key l)
  rising_climbs l = in_order_climbs (has_lower key) order l

  never : (x : X) → has_lower key x x ≡ true → ⊥
  never x h = both_ways (has_lower key x x) (order.one_way x x h) h

  -- lists that rise and have the same members are one
  pub one_rising : (xs ys : List X) → Rises xs → Rises ys → ((x : X) → Contains xs x → Contains ys x)
      → ((y : X) → Contains ys y → Contains xs y) → xs ≡ ys
  one_rising [] [] p q to back = refl
  one_rising [] (y ∷ ys) p q to back = absurd (omega (arith, (back y (contains_head y ys)).1))
  one_rising (x ∷ xs) [] p q to back = absurd (omega (arith, (to x (contains_head x xs)).1))
  one_rising (x ∷ xs) (y ∷ ys) p q to back = ap (λ (z : X). z ∷ xs) head
      ∙ ap (λ (l : List X). y ∷ l) (one_rising xs ys (tails x xs p) (tails y ys q) to_rest back_rest)
    where
      tails : (z : X) (l : List X) → Rises (z ∷ l) → Rises l
      tails z l r = pairs_tail (λ a b. has_lower key a b ≡ true) z l r

      above : (z w : X) (l : List X) → Rises (z ∷ l) → Contains l w → has_lower key z w ≡ true
      above z w l r c = All-contains (λ b. has_lower key z b ≡ true) l w (pairs_head (λ a b. has_lower key a b ≡ true) z l r) c

      head : x ≡ y
      head = elim (contains_cases y x ys (to x (contains_head x xs))) [
        | inl e ↦ sym e
        | inr c ↦ elim (contains_cases x y xs (back y (contains_head y ys))) [
          | inl e ↦ e
          | inr d ↦ absurd (both_ways (has_lower key x y) (order.one_way y x (above y x ys q c)) (above x y xs p d))
        ]
      ]

      to_rest : (z : X) → Contains xs z → Contains ys z
      to_rest z c = elim (contains_cases y z ys (to z (contains_tail x z xs c))) [
        | inl e ↦ absurd (never z (subst (λ w. has_lower key w z ≡ true) (head ∙ e) (above x z xs p c)))
        | inr d ↦ d
      ]

      back_rest : (z : X) → Contains ys z → Contains xs z
      back_rest z c = elim (contains_cases x z xs (back z (contains_tail y z ys c))) [
        | inl e ↦ absurd (never z (subst (λ w. has_lower key w z ≡ true) (sym head ∙ e) (above y z ys q c)))
        | inr d ↦ d
      ]

-- ---- each once
pub from_once : (l : List (List ℕ)) (x : List ℕ) → Contains (once l) x → Contains l x
unfolding once
from_once [] x c = c
from_once (a ∷ []) x c = c
from_once (a ∷ b ∷ rest) x c = by (bytes_eq a b) (from_once (b ∷ rest) x) c
  where
    by : (t : Bool) → (Contains (once (b ∷ rest)) x → Contains (b ∷ rest) x)
        → Contains (cond t (once (b ∷ rest)) (a ∷ once (b ∷ rest))) x → Contains (a ∷ b ∷ rest) x
    by true again d = contains_tail a x (b ∷ rest) (again d)
    by false again d = elim (contains_cases a x (once (b ∷ rest)) d) [
      | inl e ↦ subst (Contains (a ∷ b ∷ rest)) e (contains_head a (b ∷ rest))
      | inr k ↦ contains_tail a x (b ∷ rest) (again k)
    ]

pub into_once : (l : List (List ℕ)) (x : List ℕ) → Contains l x → Contains (once l) x
unfolding once
into_once [] x c = c
into_once (a ∷ []) x c = c
into_once (a ∷ b ∷ rest) x c = by (bytes_eq a b) refl (into_once (b ∷ rest) x)
  where
    by : (t : Bool) → bytes_eq a b ≡ t → (Contains (b ∷ rest) x → Contains (once (b ∷ rest)) x)
        → Contains (cond t (once (b ∷ rest)) (a ∷ once (b ∷ rest))) x
    by true h again = elim (contains_cases a x (b ∷ rest) c) [
      | inl e ↦ again (subst (Contains (b ∷ rest)) (sym ((bytes_eq-Decides a b).0 h) ∙ e) (contains_head b rest))
      | inr d ↦ again d
    ]
    by false h again = elim (contains_cases a x (b ∷ rest) c) [
      | inl e ↦ subst (Contains (a ∷ once (b ∷ rest))) e (contains_head a (once (b ∷ rest)))
      | inr d ↦ contains_tail a x (once (b ∷ rest)) (again d)
    ]

-- what climbs, each once, differs
abbrev Climb : List ℕ → List ℕ → Type 0
Climb x y = below y x ≡ false

pub once_differ : (l : List (List ℕ)) → AllPairs Climb l → AllPairs (λ x y. x ≢ y) (once l)
unfolding once
once_differ [] p = λ i j d l m. absurd (omega (arith, m))
once_differ (a ∷ []) p = λ i j d l m. absurd (omega (arith, l, m))
once_differ (a ∷ b ∷ rest) p = by (bytes_eq a b) refl (once_differ (b ∷ rest) later)
  where
    later : AllPairs Climb (b ∷ rest)
    later = pairs_tail Climb a (b ∷ rest) p

    b_not_below : below b a ≡ false
    b_not_below = All-contains (Climb a) (b ∷ rest) b (pairs_head Climb a (b ∷ rest) p) (contains_head b rest)

    not_below_b : (x : List ℕ) → Contains (b ∷ rest) x → below x b ≡ false
    not_below_b x c = elim (contains_cases b x rest c) [
      | inl e ↦ subst (Climb b) e (elim (cases_Bool (below b b)) [ inl t ↦ absurd (never (λ (y : List ℕ). y) b t) | inr t ↦ t ])
      | inr d ↦ All-contains (Climb b) rest x (pairs_head Climb b rest later) d
    ]

    by : (t : Bool) → bytes_eq a b ≡ t → AllPairs (λ x y. x ≢ y) (once (b ∷ rest))
        → AllPairs (λ x y. x ≢ y) (cond t (once (b ∷ rest)) (a ∷ once (b ∷ rest)))
    by true h q = q
    by false h q = AllPairs-cons (λ x y. x ≢ y) a (once (b ∷ rest)) (all_from (λ y. a ≢ y) (once (b ∷ rest)) (λ x c e.
        let apart : a ≢ b = λ k. both_ways (bytes_eq a b) h ((bytes_eq-Decides a b).1 k) in
        both_ways (below a b) (subst (Climb b) (sym e) (not_below_b x (from_once (b ∷ rest) x c))) (differ_below a b apart b_not_below))) q

-- what holds of each two holds of them each once
once_pairs : (R : List ℕ → List ℕ → Type 0) (l : List (List ℕ)) → AllPairs R l → AllPairs R (once l)
unfolding once
once_pairs R [] p = p
once_pairs R (a ∷ []) p = p
once_pairs R (a ∷ b ∷ rest) p = by (bytes_eq a b) (once_pairs R (b ∷ rest) (pairs_tail R a (b ∷ rest) p))
  where
    first : (x : List ℕ) → Contains (once (b ∷ rest)) x → R a x
    first x c = All-contains (R a) (b ∷ rest) x (pairs_head R a (b ∷ rest) p) (from_once (b ∷ rest) x c)

    by : (t : Bool) → AllPairs R (once (b ∷ rest)) → AllPairs R (cond t (once (b ∷ rest)) (a ∷ once (b ∷ rest)))
    by true q = q
    by false q = AllPairs-cons R a (once (b ∷ rest)) (all_from (R a) (once (b ∷ rest)) first) q

-- what climbs, each once, rises
pub once_rises : (l : List (List ℕ)) → AllPairs Climb l → Rises (λ (x : List ℕ). x) (once l)
once_rises l p i j d a b = differ_below _ _ (once_differ l p i j d a b) (once_pairs Climb l p i j d a b)
