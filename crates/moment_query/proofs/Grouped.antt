-- What stands by rising key: the items with one key stand together, and are found by halving.
use Rattle.std.proofs.Common.{◌≡◌, ◌<◌, ◌≤◌, ◌+◌, ◌-◌, ℕ, zero, suc, Bool, true, false, cond, not, List, [], ◌∷◌, length, take, drop, get_or, filter, refl, sym, ap, ◌∙◌, arith, inl, inr, Ordering, Less, Equal, Greater, Some}
use Rattle.std.specs.Borrow.{Bor}
use Rattle.std.specs.Cmp.{IsStrictWeakOrder}
use Rattle.std.specs.Cmp.Lexicographic.{lists_agrees, slice_cmp, slice_partial_cmp}
use Rattle.std.specs.List.Sorted.{IsPartitionedBy, IsPartitionPoint, IsSortedBy}
use Rattle.std.specs.Ordering.{is_le, is_lt, nat_cmp, ordering_reverse}
use Rattle.std.specs.Str.{bytes_eq}
use Rattle.std.proofs.lemmas.Bool.{both_ways, cases_lt, false_from_ne_true, not-true, true_from_ne_false}
use Rattle.std.proofs.lemmas.Cmp.{nat_list_cmp_total, tied_itself}
use Rattle.std.proofs.lemmas.List.{get_or-drop, length-drop}
use Rattle.std.proofs.lemmas.List.Sorted.{ranks_by, sorted_far}
use Rattle.std.proofs.lemmas.Slice.Eq.{bytes_eq-Decides}
use Rattle.version_history.specs.Moments.{contents, has_lower, in_order, placed}

-- `<` and `<=` of keys go by the same order as a sort
pub keys_agree : (k h : List ℕ) → slice_partial_cmp (λ (x y : ℕ). Some (nat_cmp x y)) k h ≡ Some (slice_cmp nat_cmp k h)
keys_agree = lists_agrees (λ x y. refl)

-- whether one key comes before another
abbrev pub lower : List ℕ → List ℕ → Bool
lower k h = is_lt (slice_cmp nat_cmp k h)

-- whether it does, or is the same
abbrev pub upto : List ℕ → List ℕ → Bool
upto k h = is_le (slice_cmp nat_cmp k h)

lowers : IsStrictWeakOrder lower
lowers = ranks_by nat_list_cmp_total (λ (k : List ℕ). k)

reversed_le : (o : Ordering) → is_le (ordering_reverse o) ≡ not (is_lt o)
reversed_le Less = refl
reversed_le Equal = refl
reversed_le Greater = refl

upto_is : (k h : List ℕ) → upto k h ≡ not (lower h k)
upto_is k h = ap is_le (nat_list_cmp_total.antisymm k h) ∙ reversed_le (slice_cmp nat_cmp h k)

lower_upto : (o : Ordering) → is_lt o ≡ true → is_le o ≡ true
lower_upto Less e = refl
lower_upto Equal e = refl
lower_upto Greater e = e

-- ---- what a test keeps of a stretch of a list
module _ {X : Type 0} (q : X → Bool) where
  kept_none : (xs : List X) → ((k : ℕ) (d : X) → k < length xs → q (get_or xs k d) ≡ false) → filter q xs ≡ []
  kept_none [] none = refl
  kept_none (x ∷ xs) none = ap (λ (t : Bool). cond t (x ∷ filter q xs) (filter q xs)) (none 0 x (omega arith))
      ∙ kept_none xs (λ k d l. none (suc k) d (omega (arith, l)))

  kept_behind : (n : ℕ) (xs : List X) → ((k : ℕ) (d : X) → k < n → k < length xs → q (get_or xs k d) ≡ false)
      → filter q (drop n xs) ≡ filter q xs
  kept_behind zero xs none = refl
  kept_behind (suc n) [] none = refl
  kept_behind (suc n) (x ∷ xs) none =
      kept_behind n xs (λ k d a b. none (suc k) d (omega (arith, a)) (omega (arith, b)))
      ∙ sym (ap (λ (t : Bool). cond t (x ∷ filter q xs) (filter q xs)) (none 0 x (omega arith) (omega arith)))

  kept_before : (n : ℕ) (xs : List X) → ((k : ℕ) (d : X) → n ≤ k → k < length xs → q (get_or xs k d) ≡ false)
      → filter q (take n xs) ≡ filter q xs
  kept_before zero xs none = sym (kept_none xs (λ k d l. none k d (omega arith) l))
  kept_before (suc n) [] none = refl
  kept_before (suc n) (x ∷ xs) none = ap (λ (l : List X). cond (q x) (x ∷ l) l)
      (kept_before n xs (λ k d a b. none (suc k) d (omega (arith, a)) (omega (arith, b))))

  -- all that the test keeps stands between two places
  kept_between : (from to : ℕ) (xs : List X) → ((k : ℕ) (d : X) → k < from → k < length xs → q (get_or xs k d) ≡ false)
      → ((k : ℕ) (d : X) → to ≤ k → k < length xs → q (get_or xs k d) ≡ false) → filter q (take (to - from) (drop from xs)) ≡ filter q xs
  kept_between from to xs before behind =
      kept_before (to - from) (drop from xs) (λ k d a b. ap q (get_or-drop from xs k d)
      ∙ behind (from + k) d (omega (arith, a)) (omega (arith, b, length-drop from xs)))
      ∙ kept_behind from xs before

-- a test of what is referred to
pub kept_contents : {A : Type 0} (q : A → Bool) (xs : List (Bor A)) → filter q (contents xs) ≡ contents (filter (λ (b : Bor A). q b.now) xs)
kept_contents q [] = refl
kept_contents {A} q (x ∷ xs) = by_test (kept_contents q xs) (q x.now)
  where
    by_test : filter q (contents xs) ≡ contents (filter (λ (b : Bor A). q b.now) xs) → (t : Bool)
        → cond t (x.now ∷ filter q (contents xs)) (filter q (contents xs))
        ≡ contents (cond t (x ∷ filter (λ (b : Bor A). q b.now) xs) (filter (λ (b : Bor A). q b.now) xs))
    by_test behind true = ap (λ (l : List A). x.now ∷ l) behind
    by_test behind false = behind

-- ---- what has one key
module _ {X : Type 0} (key : X → List ℕ) (h : List ℕ) where
  -- the item has the key
  abbrev own : X → Bool
  own x = bytes_eq (key x) h

  lower_other : (x : X) → lower (key x) h ≡ true → own x ≡ false
  lower_other x e = false_from_ne_true (own x) (λ is. both_ways (lower (key x) h)
      (ap (λ (k : List ℕ). lower k h) ((bytes_eq-Decides (key x) h).0 is) ∙ ap is_lt (tied_itself nat_list_cmp_total h)) e)

  greater_other : (x : X) → upto (key x) h ≡ false → own x ≡ false
  greater_other x e = false_from_ne_true (own x) (λ is. both_ways (upto (key x) h) e
      (ap (λ (k : List ℕ). upto k h) ((bytes_eq-Decides (key x) h).0 is) ∙ ap is_le (tied_itself nat_list_cmp_total h)))

  exchanged : (p q : Bool) (a b : X) (l : List X) → (p ≡ true → q ≡ true → ⊥)
      → cond q (b ∷ cond p (a ∷ l) l) (cond p (a ∷ l) l) ≡ cond p (a ∷ cond q (b ∷ l) l) (cond q (b ∷ l) l)
  exchanged true true a b l never = absurd (never refl refl)
  exchanged true false a b l never = refl
  exchanged false true a b l never = refl
  exchanged false false a b l never = refl

  never_both : (a b : X) → has_lower key b a ≡ true → own a ≡ true → own b ≡ true → ⊥
  never_both a b e p q
      = both_ways (own b) (lower_other b (ap (λ (k : List ℕ). lower (key b) k) (sym ((bytes_eq-Decides (key a) h).0 p)) ∙ e)) q

  kept_placed : (a : X) (l : List X) → filter own (placed (has_lower key) a l) ≡ filter own (a ∷ l)
  unfolding placed
  kept_placed a [] = refl
  kept_placed a (b ∷ r) = by_test (kept_placed a r) (has_lower key b a) refl
    where
      by_test : filter own (placed (has_lower key) a r) ≡ filter own (a ∷ r) → (t : Bool) → has_lower key b a ≡ t
          → filter own (cond t (b ∷ placed (has_lower key) a r) (a ∷ b ∷ r)) ≡ filter own (a ∷ b ∷ r)
      by_test behind false e = refl
      by_test behind true e
          = ap (λ (l : List X). cond (own b) (b ∷ l) l) behind ∙ exchanged (own a) (own b) a b (filter own r) (never_both a b e)

  -- a sort leaves them as they stood
  pub kept_in_order : (l : List X) → filter own (in_order (has_lower key) l) ≡ filter own l
  unfolding in_order
  kept_in_order [] = refl
  kept_in_order (a ∷ l) = kept_placed a (in_order (has_lower key) l) ∙ ap (λ (r : List X). cond (own a) (a ∷ r) r) (kept_in_order l)

  module _ (xs : List X) (up : IsSortedBy (has_lower key) xs) where
    never_back : (i j : ℕ) (d : X) → i ≤ j → j < length xs → lower (key (get_or xs j d)) (key (get_or xs i d)) ≡ false
    never_back = sorted_far (has_lower key) (ranks_by nat_list_cmp_total key) xs up

    -- lower keys stand in front
    pub lower_first : IsPartitionedBy (λ (x : X). lower (key x) h) xs
    lower_first i j d a b e = true_from_ne_false (lower (key (get_or xs i d)) h)
        (λ f. both_ways (lower (key (get_or xs j d)) h)
        (lowers.chain (key (get_or xs j d)) (key (get_or xs i d)) h (never_back i j d a b) f) e)

    -- and so do keys that are no greater
    pub upto_first : IsPartitionedBy (λ (x : X). upto (key x) h) xs
    upto_first i j d a b e =
        let not_over : lower h (key (get_or xs j d)) ≡ false
        = not-true (lower h (key (get_or xs j d))) (sym (upto_is (key (get_or xs j d)) h) ∙ e) in
        upto_is (key (get_or xs i d))
        h ∙ ap not (lowers.chain h (key (get_or xs j d)) (key (get_or xs i d)) not_over (never_back i j d a b))

  module _ (xs : List X) (from to : ℕ)
      (lower_to : IsPartitionPoint (λ (x : X). lower (key x) h ≡ true) (λ (x : X). lower (key x) h ≡ false) xs from)
      (upto_to : IsPartitionPoint (λ (x : X). upto (key x) h ≡ true) (λ (x : X). upto (key x) h ≡ false) xs to) where
    pub kept_stretch : filter own (take (to - from) (drop from xs)) ≡ filter own xs
    kept_stretch = kept_between own from to xs
        (λ k d a b. lower_other (get_or xs k d) (lower_to.0 k d (omega arith) a))
        (λ k d a b. greater_other (get_or xs k d) (upto_to.1 k d a b))

    clash : (d : X) → to < from → to < length xs → ⊥
    clash d a b = both_ways (upto (key (get_or xs to d)) h) (upto_to.1 to d (omega arith) b)
        (lower_upto (slice_cmp nat_cmp (key (get_or xs to d)) h) (lower_to.0 to d (omega arith) a))

  pub in_turn : (xs : List X) (from to : ℕ)
      → IsPartitionPoint (λ (x : X). lower (key x) h ≡ true) (λ (x : X). lower (key x) h ≡ false) xs from
      → IsPartitionPoint (λ (x : X). upto (key x) h ≡ true) (λ (x : X). upto (key x) h ≡ false) xs to → from ≤ length xs → from ≤ to
  in_turn [] from to p q within = omega (arith, within)
  in_turn (x ∷ xs) from to p q within = elim (cases_lt to from) [
    | inl a ↦ absurd (clash (x ∷ xs) from to p q x a (omega (arith, a, within)))
    | inr a ↦ a
  ]
