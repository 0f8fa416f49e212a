-- Members of lists that are mapped, filtered and searched, and how many differ.
use Rattle.std.proofs.Common.{◌≡◌, refl, sym, ap, ◌∙◌, arith, ◌≤◌, inl, inr, List, [], ◌∷◌, length, map, subst}
use Rattle.std.specs.Prelude.{true, false, Bool, ◌≢◌, ◌&&◌, cond, filter, find, Some, None}
use Rattle.std.specs.List.{All, AllPairs, Contains, remove}
use Rattle.std.specs.List.Sorted.{IsPermutation}
use Rattle.std.proofs.lemmas.Bool.{cases_Bool, both_ways}
use Rattle.std.proofs.lemmas.List.Elements.{All-contains}
use Rattle.std.proofs.lemmas.List.Kept.{AllPairs-cons}
use Rattle.std.proofs.lemmas.List.Sorted.{Contains-permutation, IsPermutation-remove, length_permutation}
use Rattle.rd_plane.proofs.Members.{contains_head, contains_tail, contains_cases}
use Rattle.map_rules.proofs.Lists.{all_from, pairs_head, pairs_tail}

-- ---- mapped and filtered
pub in_map : {X Y : Type 0} (F : X → Y) (xs : List X) (x : X) → Contains xs x → Contains (map F xs) (F x)
in_map F [] x c = absurd (omega (arith, c.1))
in_map F (y ∷ xs) x c = elim (contains_cases y x xs c) [
  | inl q ↦ subst (λ z. Contains (F y ∷ map F xs) (F z)) q (contains_head (F y) (map F xs))
  | inr d ↦ contains_tail (F y) (F x) (map F xs) (in_map F xs x d)
]

pub out_map : {X Y : Type 0} (F : X → Y) (xs : List X) (y : Y) → Contains (map F xs) y → (x : X) × Contains xs x × (F x ≡ y)
out_map F [] y c = absurd (omega (arith, c.1))
out_map F (x ∷ xs) y c = elim (contains_cases (F x) y (map F xs) c) [
  | inl q ↦ (x, contains_head x xs, q)
  | inr d ↦ let k = out_map F xs y d in (k.0, contains_tail x k.0 xs k.1, k.2)
]

-- x is there, where y is kept in front of what is kept of the rest, or not
abbrev Kept : {X : Type 0} (p : X → Bool) (y : X) (xs : List X) (x : X) → Bool → Type 0
Kept p y xs x b = Contains (cond b (y ∷ filter p xs) (filter p xs)) x

pub in_filter : {X : Type 0} (p : X → Bool) (xs : List X) (x : X) → Contains xs x → p x ≡ true → Contains (filter p xs) x
in_filter p [] x c h = absurd (omega (arith, c.1))
in_filter p (y ∷ xs) x c h = elim (contains_cases y x xs c) [
  | inl e ↦ subst (Kept p y xs x) (sym (ap p e ∙ h)) (subst (Contains (y ∷ filter p xs)) e (contains_head y (filter p xs)))
  | inr d ↦ elim (cases_Bool (p y)) [
    | inl t ↦ subst (Kept p y xs x) (sym t) (contains_tail y x (filter p xs) (in_filter p xs x d h))
    | inr t ↦ subst (Kept p y xs x) (sym t) (in_filter p xs x d h)
  ]
]

pub out_filter : {X : Type 0} (p : X → Bool) (xs : List X) (x : X) → Contains (filter p xs) x → Contains xs x × (p x ≡ true)
out_filter p [] x c = absurd (omega (arith, c.1))
out_filter p (y ∷ xs) x c = elim (cases_Bool (p y)) [
  | inl t ↦ elim (contains_cases y x (filter p xs) (subst (Kept p y xs x) t c)) [
    | inl e ↦ (subst (Contains (y ∷ xs)) e (contains_head y xs), subst (λ z. p z ≡ true) e t)
    | inr d ↦ let k = out_filter p xs x d in (contains_tail y x xs k.0, k.1)
  ]
  | inr t ↦ let k = out_filter p xs x (subst (Kept p y xs x) t c) in (contains_tail y x xs k.0, k.1)
]

-- what holds of what is read of each two
pub pairs_read : {X Y : Type 0} (R : Y → Y → Type 0) (F : X → Y) (xs : List X) → AllPairs (λ x y. R (F x) (F y)) xs → AllPairs R (map F xs)
pairs_read R F [] p = λ i j d l n. absurd (omega (arith, n))
pairs_read {Y = Y} R F (x ∷ xs) p = AllPairs-cons R (F x) (map F xs) (all_from (R (F x)) (map F xs) first)
    (pairs_read R F xs (pairs_tail (λ a b. R (F a) (F b)) x xs p))
  where
    first : (y : Y) → Contains (map F xs) y → R (F x) y
    first y c =
        let k = out_map F xs y c in
        subst (R (F x)) k.2 (All-contains (λ z. R (F x) (F z)) xs k.0 (pairs_head (λ a b. R (F a) (F b)) x xs p) k.1)

-- what holds of each two of which something else holds
pub pairs_with : {X : Type 0} (R S : X → X → Type 0) (P : X → Type 0) (xs : List X) → AllPairs R xs → All P xs
    → ((x y : X) → R x y → P x → P y → S x y) → AllPairs S xs
pairs_with R S P xs p a f i j d l n = f _ _ (p i j d l n) (a i d (omega (arith, l, n))) (a j d n)

-- what passes both tests
pub filter_twice : {X : Type 0} (p q : X → Bool) (xs : List X) → filter p (filter q xs) ≡ filter (λ x. p x && q x) xs
filter_twice p q [] = refl
filter_twice {X} p q (x ∷ xs) = by (q x) (p x) (filter_twice p q xs) refl
  where
    by : (b c : Bool) → filter p (filter q xs) ≡ filter (λ y. p y && q y) xs → p x ≡ c
        → filter p (cond b (x ∷ filter q xs) (filter q xs)) ≡ cond (c && b) (x ∷ filter (λ y. p y && q y) xs) (filter (λ y. p y && q y) xs)
    by true true e h = ap (λ (t : Bool). cond t (x ∷ filter p (filter q xs)) (filter p (filter q xs))) h ∙ ap (λ (l : List X). x ∷ l) e
    by true false e h = ap (λ (t : Bool). cond t (x ∷ filter p (filter q xs)) (filter p (filter q xs))) h ∙ e
    by false true e h = e
    by false false e h = e

-- ---- searches
pub data Search {X : Type 0} (p : X → Bool) (xs : List X) : Type 0 where
  missed : find p xs ≡ None → ((x : X) → Contains xs x → p x ≡ false) → Search p xs
  hit : (x : X) → find p xs ≡ Some x → Contains xs x → p x ≡ true → Search p xs

pub search_of : {X : Type 0} (p : X → Bool) (xs : List X) → Search p xs
search_of p [] = missed refl (λ x c. absurd (omega (arith, c.1)))
search_of {X} p (y ∷ xs) = elim (cases_Bool (p y)) [
  | inl t ↦ hit y (ap (λ (b : Bool). cond b (Some y) (find p xs)) t) (contains_head y xs) t
  | inr t ↦ elim (search_of p xs) [
    | missed e n ↦ missed (ap (λ (b : Bool). cond b (Some y) (find p xs)) t ∙ e)
        (λ x c. elim (contains_cases y x xs c) [ inl q ↦ sym (ap p q) ∙ t | inr d ↦ n x d ])
    | hit x e c h ↦ hit x (ap (λ (b : Bool). cond b (Some y) (find p xs)) t ∙ e) (contains_tail y x xs c) h
  ]
]

-- where the same pass both tests, and no two do, one search finds what the other does
pub one_found : {X : Type 0} (p q : X → Bool) (xs ys : List X) → ((x : X) → Contains xs x → p x ≡ true → Contains ys x × (q x ≡ true))
    → ((y : X) → Contains ys y → q y ≡ true → Contains xs y × (p y ≡ true))
    → ((x y : X) → Contains xs x → Contains xs y → p x ≡ true → p y ≡ true → x ≡ y) → find p xs ≡ find q ys
one_found p q xs ys to back one = by (search_of p xs) (search_of q ys)
  where
    by : Search p xs → Search q ys → find p xs ≡ find q ys
    by (missed e n) (missed f m) = e ∙ sym f
    by (missed e n) (hit y f d k) = let b = back y d k in absurd (both_ways (p y) (n y b.0) b.1)
    by (hit x e c h) (missed f m) = let b = to x c h in absurd (both_ways (q x) (m x b.0) b.1)
    by (hit x e c h) (hit y f d k) = let b = back y d k in e ∙ ap Some (one x y c b.0 h b.1) ∙ sym f

-- ---- numbers
-- members that differ are no more than those of a list that has them all
pub no_more : {X : Type 0} (xs ys : List X) → AllPairs (λ x y. x ≢ y) xs → ((x : X) → Contains xs x → Contains ys x) → length xs ≤ length ys
no_more [] ys p h = omega arith
no_more {X} (x ∷ xs) ys p h
    = omega (arith, length_permutation ys (x ∷ left) moved, no_more xs left (pairs_tail (λ x y. x ≢ y) x xs p) others)
  where
    here : Contains ys x
    here = h x (contains_head x xs)

    left : List X
    left = remove ys here.0

    moved : IsPermutation ys (x ∷ left)
    moved = IsPermutation-remove ys here.0 x here.1 (sym here.2)

    others : (z : X) → Contains xs z → Contains left z
    others z d = elim (contains_cases x z left (Contains-permutation ys (x ∷ left) z moved (h z (contains_tail x z xs d)))) [
      | inl q ↦ absurd (All-contains (λ y. x ≢ y) xs z (pairs_head (λ x y. x ≢ y) x xs p) d q)
      | inr r ↦ r
    ]
