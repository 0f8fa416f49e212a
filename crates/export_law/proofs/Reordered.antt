-- Lists in order have the same members as before.
use Rattle.std.proofs.Common.{◌≡◌, refl, ap, List, [], ◌∷◌, ◌++◌, append_assoc, subst}
use Rattle.std.specs.Prelude.{true, false, Bool, cond, filter}
use Rattle.std.specs.List.{All, AllPairs, Contains, flat_map}
use Rattle.std.specs.List.Sorted.{IsPermutation}
use Rattle.std.proofs.lemmas.List.Elements.{All-cons, All-head, All-tail}
use Rattle.std.proofs.lemmas.List.Kept.{AllPairs-cons}
use Rattle.std.proofs.lemmas.List.Sorted.{All-permutation, Contains-permutation, IsPermutation-append_comm, IsPermutation-append_left}
use Rattle.std.proofs.lemmas.List.Sorted.{IsPermutation-append_right, IsPermutation-refl, IsPermutation-sym, IsPermutation-trans}
use Rattle.map_rules.proofs.Lists.{pairs_head, pairs_tail}
use Rattle.version_history.specs.Moments.{in_order, placed}

-- ---- the same members
crossed : {A : Type 0} (xs ys zs : List A) → IsPermutation (xs ++ (ys ++ zs)) (ys ++ (xs ++ zs))
crossed xs ys zs = subst (λ l. IsPermutation l (ys ++ (xs ++ zs))) (append_assoc xs ys zs)
    (subst (IsPermutation ((xs ++ ys) ++ zs)) (append_assoc ys xs zs)
    (IsPermutation-append_left zs (xs ++ ys) (ys ++ xs) (IsPermutation-append_comm xs ys)))

module _ {X : Type 0} (lt : X → X → Bool) where
  placed_flat : {A : Type 0} (f : X → List A) (a : X) (l : List X) → IsPermutation (flat_map f (a ∷ l)) (flat_map f (placed lt a l))
  unfolding placed
  placed_flat f a [] = IsPermutation-refl (flat_map f (a ∷ []))
  placed_flat {A} f a (b ∷ r) = by (placed_flat f a r) (lt b a)
    where
      by : IsPermutation (flat_map f (a ∷ r)) (flat_map f (placed lt a r)) → (t : Bool)
          → IsPermutation (flat_map f (a ∷ b ∷ r)) (flat_map f (cond t (b ∷ placed lt a r) (a ∷ b ∷ r)))
      by behind false = IsPermutation-refl (flat_map f (a ∷ b ∷ r))
      by behind true = IsPermutation-trans (flat_map f (a ∷ b ∷ r)) (f b ++ flat_map f (a ∷ r)) (flat_map f (b ∷ placed lt a r))
          (crossed (f a) (f b) (flat_map f r)) (IsPermutation-append_right (f b) (flat_map f (a ∷ r)) (flat_map f (placed lt a r)) behind)

  -- in order, the items give together what they gave before
  pub in_order_flat : {A : Type 0} (f : X → List A) (l : List X) → IsPermutation (flat_map f l) (flat_map f (in_order lt l))
  unfolding in_order
  in_order_flat f [] = IsPermutation-refl []
  in_order_flat f (a ∷ l)
      = IsPermutation-trans (flat_map f (a ∷ l)) (flat_map f (a ∷ in_order lt l)) (flat_map f (placed lt a (in_order lt l)))
      (IsPermutation-append_right (f a) (flat_map f l) (flat_map f (in_order lt l)) (in_order_flat f l)) (placed_flat f a (in_order lt l))

  -- the item where it passes, else nothing
  abbrev passing : (X → Bool) → X → List X
  passing p x = cond (p x) (x ∷ []) []

  filter_flat : (p : X → Bool) (l : List X) → flat_map (passing p) l ≡ filter p l
  filter_flat p [] = refl
  filter_flat p (x ∷ l) = by (p x) (filter_flat p l)
    where
      by : (t : Bool) → flat_map (passing p) l ≡ filter p l
          → cond t (x ∷ []) [] ++ flat_map (passing p) l ≡ cond t (x ∷ filter p l) (filter p l)
      by true e = ap (λ (k : List X). x ∷ k) e
      by false e = e

  -- those of them that pass a test are those that passed it before
  pub in_order_filter : (p : X → Bool) (l : List X) → IsPermutation (filter p l) (filter p (in_order lt l))
  in_order_filter p l = subst (λ k. IsPermutation k (filter p (in_order lt l))) (filter_flat p l)
      (subst (IsPermutation (flat_map (passing p) l)) (filter_flat p (in_order lt l)) (in_order_flat (passing p) l))

  single_flat : (l : List X) → flat_map (λ x. x ∷ []) l ≡ l
  single_flat [] = refl
  single_flat (x ∷ l) = ap (λ (k : List X). x ∷ k) (single_flat l)

  pub in_order_same : (l : List X) → IsPermutation l (in_order lt l)
  in_order_same l = subst (λ k. IsPermutation k (in_order lt l)) (single_flat l)
      (subst (IsPermutation (flat_map (λ x. x ∷ []) l)) (single_flat (in_order lt l)) (in_order_flat (λ x. x ∷ []) l))

  pub into_order : (l : List X) (x : X) → Contains l x → Contains (in_order lt l) x
  into_order l x c = Contains-permutation l (in_order lt l) x (in_order_same l) c

  pub from_order : (l : List X) (x : X) → Contains (in_order lt l) x → Contains l x
  from_order l x c = Contains-permutation (in_order lt l) l x (IsPermutation-sym l (in_order lt l) (in_order_same l)) c

  -- ---- pairs
  pub placed_same : (a : X) (l : List X) → IsPermutation (a ∷ l) (placed lt a l)
  placed_same a l = subst (λ k. IsPermutation k (placed lt a l)) (single_flat (a ∷ l))
      (subst (IsPermutation (flat_map (λ x. x ∷ []) (a ∷ l))) (single_flat (placed lt a l)) (placed_flat (λ x. x ∷ []) a l))

  -- what holds of each two, whichever is first, holds of them in order
  placed_pairs : (R : X → X → Type 0) → ((x y : X) → R x y → R y x) → (a : X) (l : List X) → All (R a) l → AllPairs R l
      → AllPairs R (placed lt a l)
  unfolding placed
  placed_pairs R turned a [] h p = AllPairs-cons R a [] h p
  placed_pairs R turned a (b ∷ r) h p = by (placed_pairs R turned a r (All-tail (R a) b r h) (pairs_tail R b r p)) (lt b a)
    where
      of_b : All (R b) (placed lt a r)
      of_b = All-permutation (R b) (a ∷ r) (placed lt a r) (placed_same a r)
          (All-cons (R b) a r (turned a b (All-head (R a) b r h)) (pairs_head R b r p))

      by : AllPairs R (placed lt a r) → (t : Bool) → AllPairs R (cond t (b ∷ placed lt a r) (a ∷ b ∷ r))
      by behind true = AllPairs-cons R b (placed lt a r) of_b behind
      by behind false = AllPairs-cons R a (b ∷ r) h p

  pub in_order_pairs : (R : X → X → Type 0) → ((x y : X) → R x y → R y x) → (l : List X) → AllPairs R l → AllPairs R (in_order lt l)
  unfolding in_order
  in_order_pairs R turned [] p = p
  in_order_pairs R turned (a ∷ l) p = placed_pairs R turned a (in_order lt l)
      (All-permutation (R a) l (in_order lt l) (in_order_same l) (pairs_head R a l p)) (in_order_pairs R turned l (pairs_tail R a l p))
