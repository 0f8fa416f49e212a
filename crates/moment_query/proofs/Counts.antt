-- Tests of what a filter or a map leaves.
use Rattle.std.proofs.Common.{◌≡◌, ◌+◌, ◌&&◌, ◌||◌, ℕ, Bool, true, false, cond, List, [], ◌∷◌, map, filter, refl, sym, ap, ◌∙◌, arith, count_by}
use Rattle.std.specs.List.{list_any}
use Rattle.std.proofs.lemmas.Bool.{or_from, or_parts}
use Rattle.local_check.proofs.Counting.{count_cons}

pub count_filter : {X : Type 0} (f q : X → Bool) (xs : List X) → count_by f (filter q xs) ≡ count_by (λ x. q x && f x) xs
count_filter f q [] = refl
count_filter {X} f q (x ∷ xs) =
    by_test (q x) ∙ (ap (λ (n : ℕ). cond (q x && f x) 1 0 + n) (count_filter f q xs) ∙ sym (count_cons (λ (y : X). q y && f y) x xs))
  where
    by_test : (t : Bool) → count_by f (cond t (x ∷ filter q xs) (filter q xs)) ≡ cond (t && f x) 1 0 + count_by f (filter q xs)
    by_test true = count_cons f x (filter q xs)
    by_test false = omega arith

pub count_agree : {X : Type 0} (p q : X → Bool) → ((x : X) → p x ≡ q x) → (xs : List X) → count_by p xs ≡ count_by q xs
count_agree p q same [] = refl
count_agree p q same (x ∷ xs) =
    count_cons p x xs
    ∙ (ap (λ (t : Bool). cond t 1 0 + count_by p xs)
    (same x) ∙ (ap (λ (n : ℕ). cond (q x) 1 0 + n) (count_agree p q same xs) ∙ sym (count_cons q x xs)))

pub any_map : {X Y : Type 0} (f : X → Y) (p : Y → Bool) (xs : List X) → list_any p (map f xs) ≡ list_any (λ x. p (f x)) xs
any_map f p [] = refl
any_map f p (x ∷ xs) = ap (λ (t : Bool). p (f x) || t) (any_map f p xs)

pub any_filter : {X : Type 0} (f q : X → Bool) (xs : List X) → list_any f (filter q xs) ≡ list_any (λ x. q x && f x) xs
any_filter f q [] = refl
any_filter {X} f q (x ∷ xs) = by_test (q x) ∙ ap (λ (t : Bool). (q x && f x) || t) (any_filter f q xs)
  where
    by_test : (t : Bool) → list_any f (cond t (x ∷ filter q xs) (filter q xs)) ≡ ((t && f x) || list_any f (filter q xs))
    by_test true = refl
    by_test false = refl

-- where no item passes a test, none passes one that is stricter
pub none_stricter : {X : Type 0} (p q : X → Bool) → ((x : X) → p x ≡ false → q x ≡ false) → (xs : List X) → list_any p xs ≡ false
    → list_any q xs ≡ false
none_stricter p q stricter [] none = refl
none_stricter p q stricter (x ∷ xs) none =
    let both = or_parts (p x) (list_any p xs) none in
    or_from (q x) (list_any q xs) (stricter x both.0) (none_stricter p q stricter xs both.1)
