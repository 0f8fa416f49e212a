-- A stable sort gives the list in order, and no other.
use Rattle.std.proofs.Common.{◌≡◌, ◌<◌, ◌≤◌, suc, ℕ, Bool, true, false, true≢false, cond, not, ◌&&◌, List, [], ◌∷◌, length, get_or, map, filter, refl, sym, ap, ◌∙◌, arith}
use Rattle.std.specs.Cmp.{IsStrictWeakOrder}
use Rattle.std.specs.Prelude.{⊤}
use Rattle.std.specs.List.Sorted.{IsSortedBy, IsStableBy, ties}
use Rattle.std.proofs.lemmas.List.Sorted.{sorted_far}
use Rattle.version_history.specs.Moments.{placed, in_order}

-- no item of the list comes before a
abbrev NoneBefore : {X : Type 0} (lt : X → X → Bool) → X → List X → Type 0
NoneBefore lt a [] = ⊤
NoneBefore lt a (b ∷ bs) = (lt b a ≡ false) × NoneBefore lt a bs

-- no item comes before one that stands before it
abbrev Up : {X : Type 0} (lt : X → X → Bool) → List X → Type 0
Up lt [] = ⊤
Up lt (a ∷ rest) = NoneBefore lt a rest × Up lt rest

module _ {X : Type 0} (lt : X → X → Bool) (o : IsStrictWeakOrder lt) where
  irrefl_by : (x : X) (t : Bool) → lt x x ≡ t → t ≡ false
  irrefl_by x true e = sym e ∙ o.one_way x x e
  irrefl_by x false e = refl

  irrefl : (x : X) → lt x x ≡ false
  irrefl x = irrefl_by x (lt x x) refl

  none_at : (a : X) (xs : List X) → ((k : ℕ) (d : X) → k < length xs → lt (get_or xs k d) a ≡ false) → NoneBefore lt a xs
  none_at a [] h = tt
  none_at a (x ∷ xs) h = (h 0 x (omega arith), none_at a xs (λ k d l. h (suc k) d (omega (arith, l))))

  up_by : (xs : List X) → ((i j : ℕ) (d : X) → i ≤ j → j < length xs → lt (get_or xs j d) (get_or xs i d) ≡ false) → Up lt xs
  up_by [] h = tt
  up_by (x ∷ xs) h = (
    none_at x xs (λ k d l. h 0 (suc k) d (omega arith) (omega (arith, l))),
    up_by xs (λ i j d p q. h (suc i) (suc j) d (omega (arith, p)) (omega (arith, q))),
  )

  up : (xs : List X) → IsSortedBy lt xs → Up lt xs
  up xs h = up_by xs (sorted_far lt o xs h)

  -- all of these come behind y, which comes before the first
  lower_by : (y z u : X) (t : Bool) → lt y z ≡ true → lt u z ≡ false → lt y u ≡ t → t ≡ true
  lower_by y z u true h k e = refl
  lower_by y z u false h k e = sym (o.chain y u z e k) ∙ h

  lower : (y z u : X) → lt y z ≡ true → lt u z ≡ false → lt y u ≡ true
  lower y z u h k = lower_by y z u (lt y u) h k refl

  no_tie : (y u : X) → lt y u ≡ true → ties lt y u ≡ false
  no_tie y u e = ap (λ (t : Bool). not t && not (lt u y)) e

  none_tie : (y z : X) (zs : List X) → lt y z ≡ true → NoneBefore lt z zs → filter (ties lt y) zs ≡ []
  none_tie y z [] h n = refl
  none_tie y z (u ∷ zs) h n = ap (λ (t : Bool). cond t (u ∷ filter (ties lt y) zs) (filter (ties lt y) zs))
      (no_tie y u (lower y z u h n.0)) ∙ none_tie y z zs h n.1

  none_tie_all : (y z : X) (zs : List X) → lt y z ≡ true → NoneBefore lt z zs → filter (ties lt y) (z ∷ zs) ≡ []
  none_tie_all y z zs h n
      = ap (λ (t : Bool). cond t (z ∷ filter (ties lt y) zs) (filter (ties lt y) zs)) (no_tie y z h) ∙ none_tie y z zs h n

  own_tie : (y : X) → ties lt y y ≡ true
  own_tie y = ap (λ (t : Bool). not t && not t) (irrefl y)

  first_ties : (y : X) (ys : List X) → filter (ties lt y) (y ∷ ys) ≡ y ∷ filter (ties lt y) ys
  first_ties y ys = ap (λ (t : Bool). cond t (y ∷ filter (ties lt y) ys) (filter (ties lt y) ys)) (own_tie y)

  some_none : (y : X) (ys : List X) → [] ≡ y ∷ ys → ⊥
  some_none y ys e = cc

  heads : (y z : X) (ys zs : List X) → y ∷ ys ≡ z ∷ zs → y ≡ z
  heads y z ys zs e = cc

  tails : (t : Bool) (y : X) (ys zs : List X) → cond t (y ∷ ys) ys ≡ cond t (y ∷ zs) zs → ys ≡ zs
  tails true y ys zs e = cc
  tails false y ys zs e = e

  tied : (y z : X) → lt y z ≡ false → lt z y ≡ false → ties lt y z ≡ true
  tied y z a b = ap (λ (t : Bool). not t && not (lt z y)) a ∙ ap not b

  -- lists in order in which the same items tie are one list
  same_by : (ys zs : List X) → Up lt ys → Up lt zs → ((x : X) → filter (ties lt x) ys ≡ filter (ties lt x) zs) → ys ≡ zs
  same_by [] [] a b e = refl
  same_by [] (z ∷ zs) a b e = absurd (some_none z _ (e z ∙ first_ties z zs))
  same_by (y ∷ ys) [] a b e = absurd (some_none y _ (sym (e y) ∙ first_ties y ys))
  same_by (y ∷ ys) (z ∷ zs) a b e = by_order (same_by ys zs a.1 b.1) (lt y z) (lt z y) refl refl
    where
      by_order : (((x : X) → filter (ties lt x) ys ≡ filter (ties lt x) zs) → ys ≡ zs) → (s t : Bool) → lt y z ≡ s → lt z y ≡ t
          → y ∷ ys ≡ z ∷ zs
      by_order again true t p q = absurd (some_none y _ (sym (none_tie_all y z zs p b.0) ∙ (sym (e y) ∙ first_ties y ys)))
      by_order again false true p q = absurd (some_none z _ (sym (none_tie_all z y ys q a.0) ∙ (e z ∙ first_ties z zs)))
      by_order again false false p q =
          let tie : filter (ties lt y) (z ∷ zs) ≡ z ∷ filter (ties lt y) zs
          = ap (λ (t : Bool). cond t (z ∷ filter (ties lt y) zs) (filter (ties lt y) zs)) (tied y z p q) in
          let head : y ≡ z = heads y z _ _ (sym (first_ties y ys) ∙ (e y ∙ tie)) in
          let rest = again (λ x. tails (ties lt x y) y _ _ (e x ∙ ap (λ (w : X). filter (ties lt x) (w ∷ zs)) (sym head))) in
          ap (λ (w : X). w ∷ ys) head ∙ ap (λ (l : List X). z ∷ l) rest

  -- an item that is placed stands among its ties as in front of the list
  exchanged : (p q : Bool) (a b : X) (l : List X) → (p ≡ true → q ≡ true → ⊥)
      → cond q (b ∷ cond p (a ∷ l) l) (cond p (a ∷ l) l) ≡ cond p (a ∷ cond q (b ∷ l) l) (cond q (b ∷ l) l)
  exchanged true true a b l h = absurd (h refl refl)
  exchanged true false a b l h = refl
  exchanged false true a b l h = refl
  exchanged false false a b l h = refl

  both : (s t : Bool) → not s && not t ≡ true → (s ≡ false) × (t ≡ false)
  both true t e = cc
  both false true e = cc
  both false false e = (refl, refl)

  apart : (x a b : X) → lt b a ≡ true → ties lt x a ≡ true → ties lt x b ≡ true → ⊥
  apart x a b h p q = true≢false (sym h ∙ o.chain b x a (both (lt x b) (lt b x) q).1 (both (lt x a) (lt a x) p).0)

  placed_ties : (x a : X) (l : List X) → filter (ties lt x) (placed lt a l) ≡ filter (ties lt x) (a ∷ l)
  unfolding placed
  placed_ties x a [] = refl
  placed_ties x a (b ∷ r) = by_test (placed_ties x a r) (lt b a) refl
    where
      by_test : filter (ties lt x) (placed lt a r) ≡ filter (ties lt x) (a ∷ r) → (t : Bool) → lt b a ≡ t
          → filter (ties lt x) (cond t (b ∷ placed lt a r) (a ∷ b ∷ r)) ≡ filter (ties lt x) (a ∷ b ∷ r)
      by_test behind false h = refl
      by_test behind true h =
          ap (λ (l : List X). cond (ties lt x b) (b ∷ l) l) behind
          ∙ exchanged (ties lt x a) (ties lt x b) a b (filter (ties lt x) r) (apart x a b h)

  stable : (x : X) (l : List X) → filter (ties lt x) (in_order lt l) ≡ filter (ties lt x) l
  unfolding in_order
  stable x [] = refl
  stable x (a ∷ l) = placed_ties x a (in_order lt l) ∙ ap (λ (r : List X). cond (ties lt x a) (a ∷ r) r) (stable x l)

  -- a list in order stays so
  none_placed : (c a : X) (l : List X) → lt a c ≡ false → NoneBefore lt c l → NoneBefore lt c (placed lt a l)
  unfolding placed
  none_placed c a [] h n = (h, tt)
  none_placed c a (b ∷ r) h n = by_test (none_placed c a r h n.1) (lt b a)
    where
      by_test : NoneBefore lt c (placed lt a r) → (t : Bool) → NoneBefore lt c (cond t (b ∷ placed lt a r) (a ∷ b ∷ r))
      by_test behind true = (n.0, behind)
      by_test behind false = (h, n)

  none_below : (a b : X) (r : List X) → lt b a ≡ false → NoneBefore lt b r → NoneBefore lt a r
  none_below a b [] h n = tt
  none_below a b (u ∷ r) h n = (o.chain u b a n.0 h, none_below a b r h n.1)

  up_placed : (a : X) (l : List X) → Up lt l → Up lt (placed lt a l)
  unfolding placed
  up_placed a [] u = (tt, tt)
  up_placed a (b ∷ r) u = by_test (up_placed a r u.1) (lt b a) refl
    where
      by_test : Up lt (placed lt a r) → (t : Bool) → lt b a ≡ t → Up lt (cond t (b ∷ placed lt a r) (a ∷ b ∷ r))
      by_test behind true h = (none_placed b a r (o.one_way b a h) u.0, behind)
      by_test behind false h = ((h, none_below a b r h u.0), u)

  up_in_order : (l : List X) → Up lt (in_order lt l)
  unfolding in_order
  up_in_order [] = tt
  up_in_order (a ∷ l) = up_placed a (in_order lt l) (up_in_order l)

  -- what a stable sort gives
  pub sorts : (xs ys : List X) → IsSortedBy lt ys → IsStableBy lt xs ys → ys ≡ in_order lt xs
  sorts xs ys s h = same_by ys (in_order lt xs) (up ys s) (up_in_order xs) (λ x. h x ∙ sym (stable x xs))

-- an order by what f gives
placed_map : {X Y : Type 0} (f : X → Y) (lt : Y → Y → Bool) (a : X) (l : List X)
    → map f (placed (λ x y. lt (f x) (f y)) a l) ≡ placed lt (f a) (map f l)
unfolding placed
placed_map f lt a [] = refl
placed_map {X} f lt a (b ∷ r) = by_test (placed_map f lt a r) (lt (f b) (f a))
  where
    by_test : map f (placed (λ x y. lt (f x) (f y)) a r) ≡ placed lt (f a) (map f r) → (t : Bool) → map f
        (cond t (b ∷ placed (λ x y. lt (f x) (f y)) a r) (a ∷ b ∷ r)) ≡ cond t (f b ∷ placed lt (f a) (map f r)) (f a ∷ f b ∷ map f r)
    by_test behind true = ap (λ l. f b ∷ l) behind
    by_test behind false = refl

pub in_order_map : {X Y : Type 0} (f : X → Y) (lt : Y → Y → Bool) (l : List X)
    → map f (in_order (λ x y. lt (f x) (f y)) l) ≡ in_order lt (map f l)
unfolding in_order
in_order_map f lt [] = refl
in_order_map f lt (a ∷ l) = placed_map f lt a (in_order (λ x y. lt (f x) (f y)) l) ∙ ap (placed lt (f a)) (in_order_map f lt l)
