-- What the front of a list has, and a stretch of it from one place up to another.
use Rattle.std.proofs.Common.{◌≡◌, ℕ, sym, ap, ◌∙◌, arith, ◌+◌, ◌-◌, ◌<◌, ◌≤◌, inl, inr, List, length, take, drop, get_or}
use Rattle.std.specs.Prelude.{◌⊎◌}
use Rattle.std.specs.List.{Contains}
use Rattle.std.proofs.lemmas.Bool.{cases_lt}
use Rattle.std.proofs.lemmas.List.{get_or_default, get_or-take, get_or-drop, length-take, length-drop}

-- ---- the front
pub take_has : {X : Type 0} (xs : List X) (i : ℕ) (x : X) → Contains (take i xs) x → Contains xs x
take_has xs i x c = (c.0, omega (arith, c.1, length-take i xs), sym (get_or-take i xs c.0 x (omega (arith, c.1, length-take i xs))) ∙ c.2)

pub take_before : {X : Type 0} (xs : List X) (i : ℕ) (x : X) → Contains (take i xs) x → Contains (take (i + 1) xs) x
take_before xs i x c = (
  c.0,
  omega (arith, c.1, length-take i xs, length-take (i + 1) xs),
  get_or-take (i + 1) xs c.0 x
      (omega (arith, c.1, length-take i xs)) ∙ sym (get_or-take i xs c.0 x (omega (arith, c.1, length-take i xs))) ∙ c.2,
)

pub take_new : {X : Type 0} (xs : List X) (i : ℕ) (x : X) → i < length xs → get_or xs i x ≡ x → Contains (take (i + 1) xs) x
take_new xs i x h q = (i, omega (arith, length-take (i + 1) xs, h), get_or-take (i + 1) xs i x (omega arith) ∙ q)

-- the front with one more has what the front has, and that one
pub take_cases : {X : Type 0} (xs : List X) (i : ℕ) (own x : X) → i < length xs → get_or xs i own ≡ own → Contains (take (i + 1) xs) x
    → Contains (take i xs) x ⊎ (x ≡ own)
take_cases xs i own x h q c = elim (cases_lt c.0 i) [
  | inl l ↦ inl
      (c.0, omega (arith, l, h, length-take i xs), get_or-take i xs c.0 x l ∙ sym (get_or-take (i + 1) xs c.0 x (omega (arith, l))) ∙ c.2)
  | inr l ↦ let s : c.0 ≡ i = omega (arith, l, c.1, length-take (i + 1) xs) in
      inr (sym c.2 ∙ get_or-take (i + 1) xs c.0 x (omega (arith, s)) ∙ ap (λ k. get_or xs k x) s ∙ get_or_default xs i x own h ∙ q)
]

pub take_whole : {X : Type 0} (xs : List X) (i : ℕ) (x : X) → length xs ≤ i → Contains xs x → Contains (take i xs) x
take_whole xs i x h c = (c.0, omega (arith, c.1, h, length-take i xs), get_or-take i xs c.0 x (omega (arith, c.1, h)) ∙ c.2)

-- ---- a stretch
pub length-stretch : {X : Type 0} (xs : List X) (from to : ℕ) → to ≤ length xs → length (take (to - from) (drop from xs)) ≡ to - from
length-stretch xs from to h = omega (arith, length-take (to - from) (drop from xs), length-drop from xs, h)

-- the place of an item of the stretch in the whole list
pub in_stretch : {X : Type 0} (xs : List X) (from to k : ℕ) (d : X) → from ≤ k → k < to
    → get_or (take (to - from) (drop from xs)) (k - from) d ≡ get_or xs k d
in_stretch xs from to k d l m = get_or-take (to - from) (drop from xs) (k - from) d (omega (arith, l, m)) ∙ get_or-drop from xs (k - from)
    d ∙ ap (λ n. get_or xs n d) (omega (arith, l))

pub stretch_has : {X : Type 0} (xs : List X) (from to : ℕ) (x : X) → from ≤ to → to ≤ length xs
    → Contains (take (to - from) (drop from xs)) x → Contains (take to xs) x
stretch_has xs from to x w h c = (
  from + c.0,
  omega (arith, c.1, length-stretch xs from to h, length-take to xs, h),
  get_or-take to xs (from + c.0) x (omega (arith, c.1, length-stretch xs from to h))
      ∙ sym (in_stretch xs from to (from + c.0) x (omega arith) (omega (arith, c.1, length-stretch xs from to h)))
      ∙ ap (λ n. get_or (take (to - from) (drop from xs)) n x) (omega arith) ∙ c.2,
)

pub front_has : {X : Type 0} (xs : List X) (from to : ℕ) (x : X) → from ≤ to → Contains (take from xs) x → Contains (take to xs) x
front_has xs from to x w c = (
  c.0,
  omega (arith, c.1, w, length-take from xs, length-take to xs),
  get_or-take to xs c.0 x
      (omega (arith, c.1, w, length-take from xs)) ∙ sym (get_or-take from xs c.0 x (omega (arith, c.1, length-take from xs))) ∙ c.2,
)

-- what stands before the end of a stretch stands before it or in it
pub stretch_cases : {X : Type 0} (xs : List X) (from to : ℕ) (x : X) → from ≤ to → to ≤ length xs → Contains (take to xs) x
    → Contains (take from xs) x ⊎ Contains (take (to - from) (drop from xs)) x
stretch_cases xs from to x w h c = elim (cases_lt c.0 from) [
  | inl l ↦ inl (
    c.0,
    omega (arith, l, h, w, length-take from xs),
    get_or-take from xs c.0 x l ∙ sym (get_or-take to xs c.0 x (omega (arith, l, w))) ∙ c.2,
  )
  | inr l ↦ let m : c.0 < to = omega (arith, c.1, length-take to xs) in
      inr (
        c.0 - from,
        omega (arith, l, m, length-stretch xs from to h),
        in_stretch xs from to c.0 x l m ∙ sym (get_or-take to xs c.0 x m) ∙ c.2,
      )
]
