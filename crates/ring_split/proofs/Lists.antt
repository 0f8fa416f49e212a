-- Walks over lists.
use Rattle.std.proofs.Common.{◌≡◌, ℕ, ◌+◌, ◌<◌, ◌≤◌, sym, ap, ◌∙◌, arith, suc, List, [], ◌∷◌, ◌++◌, length, inl, inr, subst}
use Rattle.std.specs.Prelude.{slice_index_or}
use Rattle.std.specs.List.{Contains}
use Rattle.std.proofs.Math.ListN.{take}
use Rattle.std.proofs.Math.Seq.{take-suc}
use Rattle.std.proofs.lemmas.List.{take_all}
use Rattle.std.proofs.lemmas.List.Elements.{Contains-push, Contains-push_cases, Contains-append_left}
use Rattle.rd_plane.proofs.RingPlaces.{by_lt}

-- what holds of the elements before a place and of the one there holds of those before the next
pub more_of : {X : Type 0} (P : X → Type 0) (xs : List X) (i : ℕ) (d : X) → i < length xs → ((y : X) → Contains (take i xs) y → P y)
    → P (slice_index_or xs i d) → (y : X) → Contains (take (i + 1) xs) y → P y
more_of {X} P xs i d k h p y c = elim (Contains-push_cases (take i xs) (slice_index_or xs i d) y (subst (λ l. Contains l y) longer c)) [
  | inl t ↦ h y t
  | inr t ↦ subst P t p
]
  where
    longer : take (i + 1) xs ≡ take i xs ++ slice_index_or xs i d ∷ []
    longer = let n : i + 1 ≡ suc i = omega arith in ap (λ m. take m xs) n ∙ take-suc xs i d k

-- what holds of the elements before the end holds of all
pub all_of : {X : Type 0} (P : X → Type 0) (xs : List X) (i : ℕ) → length xs ≤ i → ((y : X) → Contains (take i xs) y → P y) → (y : X)
    → Contains xs y → P y
all_of P xs i k h y c = h y (subst (λ l. Contains l y) (sym (take_all i xs k)) c)

-- the list has just the numbers below n
abbrev pub AreBelow : ℕ → List ℕ → Type 0
AreBelow n xs = ((k : ℕ) → Contains xs k → k < n) × ((k : ℕ) → k < n → Contains xs k)

pub one_more : (n : ℕ) (xs : List ℕ) → AreBelow n xs → AreBelow (n + 1) (xs ++ n ∷ [])
one_more n xs h = (
  λ k c. elim (Contains-push_cases xs n k c) [
    | inl t ↦ omega (arith, h.0 k t)
    | inr t ↦ omega (arith, t)
  ],
  λ k l. by_lt k n (λ t. Contains-append_left xs (n ∷ []) k (h.1 k t))
      (λ t. subst (Contains (xs ++ n ∷ [])) (omega (arith, t, l)) (Contains-push xs n)),
)
