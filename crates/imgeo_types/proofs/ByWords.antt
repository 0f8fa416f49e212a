-- Bytes are ordered as the numbers are that they spell, and a list of them as its parts are, one after the other.
use Rattle.std.proofs.Common.{◌≡◌, ◌∙◌, ◌<◌, ◌≤◌, ◌+◌, ◌*◌, ℕ, zero, suc, List, [], ◌∷◌, refl, sym, ap, arith, Ordering, Less, Equal, Greater, nat_cmp, Bool, not, ◌==◌, true, false, true≢false, length, get_or, take, drop, subst, get_or-drop, length-drop, length-take-le, take-take, take_all}
use Rattle.std.specs.Cmp.Lexicographic.{slice_cmp}
use Rattle.std.specs.Int.{from_be_bytes, w64}
use Rattle.std.specs.Ordering.{ordering_then, is_ne}
use Rattle.imgeo_types.specs.Eights.{eight_cmp}
use Rattle.std.proofs.lemmas.List.{drop-take}
use Rattle.std.proofs.lemmas.Bool.Decides.{nat_tests}

-- the number that the bytes spell behind n
abbrev spelled : ℕ → List ℕ → ℕ
spelled n [] = n
spelled n (b ∷ bs) = spelled (n * 256 + b) bs

then_equal : (a : Ordering) → a ≡ ordering_then a Equal
then_equal Less = refl
then_equal Equal = refl
then_equal Greater = refl

then_then : (a b c : Ordering) → ordering_then (ordering_then a b) c ≡ ordering_then a (ordering_then b c)
then_then Less b c = refl
then_then Equal b c = refl
then_then Greater b c = refl

-- the greater digit decides, and the lesser one where that is the same
digits : (n m x y : ℕ) → x < 256 → y < 256 → nat_cmp (n * 256 + x) (m * 256 + y) ≡ ordering_then (nat_cmp n m) (nat_cmp x y)
digits n m x y p q = grind (arith, nat_tests)

-- these are bytes
abbrev AreBytes : List ℕ → Type 0
AreBytes xs = (k : ℕ) → get_or xs k 0 < 256

-- as many bytes compare as the numbers do that they spell
by_spelling : (n m : ℕ) (xs ys : List ℕ) → length xs ≡ length ys → AreBytes xs → AreBytes ys
    → nat_cmp (spelled n xs) (spelled m ys) ≡ ordering_then (nat_cmp n m) (slice_cmp nat_cmp xs ys)
by_spelling n m [] [] l p q = then_equal (nat_cmp n m)
by_spelling n m [] (y ∷ ys) l p q = absurd (omega arith)
by_spelling n m (x ∷ xs) [] l p q = absurd (omega arith)
by_spelling n m (x ∷ xs) (y ∷ ys) l p q =
    by_spelling (n * 256 + x) (m * 256 + y) xs ys (omega arith) (λ k. p (suc k)) (λ k. q (suc k))
    ∙ ap (λ r. ordering_then r (slice_cmp nat_cmp xs ys)) (digits n m x y (p 0) (q 0))
    ∙ then_then (nat_cmp n m) (nat_cmp x y) (slice_cmp nat_cmp xs ys)

spells : (xs : List ℕ) → length xs ≡ 8 → from_be_bytes w64 xs ≡ spelled 0 xs
spells [] l = absurd (omega arith)
spells (a ∷ []) l = absurd (omega arith)
spells (a ∷ b ∷ []) l = absurd (omega arith)
spells (a ∷ b ∷ c ∷ []) l = absurd (omega arith)
spells (a ∷ b ∷ c ∷ d ∷ []) l = absurd (omega arith)
spells (a ∷ b ∷ c ∷ d ∷ e ∷ []) l = absurd (omega arith)
spells (a ∷ b ∷ c ∷ d ∷ e ∷ f ∷ []) l = absurd (omega arith)
spells (a ∷ b ∷ c ∷ d ∷ e ∷ f ∷ g ∷ []) l = absurd (omega arith)
spells (a ∷ b ∷ c ∷ d ∷ e ∷ f ∷ g ∷ h ∷ []) l = omega arith
spells (a ∷ b ∷ c ∷ d ∷ e ∷ f ∷ g ∷ h ∷ x ∷ xs) l = absurd (omega arith)

front_bytes : (n : ℕ) (xs : List ℕ) → AreBytes xs → AreBytes (take n xs)
front_bytes zero xs p k = omega arith
front_bytes (suc n) [] p k = omega arith
front_bytes (suc n) (x ∷ xs) p zero = p 0
front_bytes (suc n) (x ∷ xs) p (suc k) = front_bytes n xs (λ k. p (suc k)) k

eight_bytes : (i : ℕ) (xs : List ℕ) → AreBytes xs → AreBytes (take 8 (drop i xs))
eight_bytes i xs p = front_bytes 8 (drop i xs) (λ k. subst (λ b. b < 256) (sym (get_or-drop i xs k 0)) (p (i + k)))

eight_long : (i : ℕ) (xs : List ℕ) → i + 8 ≤ length xs → length (take 8 (drop i xs)) ≡ 8
eight_long i xs le = length-take-le 8 (drop i xs) (omega (arith, length-drop i xs))

-- eight bytes compare as their words do
pub by_words : (i : ℕ) (xs ys : List ℕ) → i + 8 ≤ length xs → i + 8 ≤ length ys → AreBytes xs → AreBytes ys
    → nat_cmp (from_be_bytes w64 (take 8 (drop i xs))) (from_be_bytes w64 (take 8 (drop i ys))) ≡ eight_cmp i xs ys
by_words i xs ys le le' p q =
    let l = eight_long i xs le in
    let m = eight_long i ys le' in
    (λ j. nat_cmp (spells _ l j) (spells _ m j)) ∙ by_spelling 0 0 _ _ (l ∙ sym m) (eight_bytes i xs p) (eight_bytes i ys q)

-- the first n decide, and those behind them where these are alike
in_parts : (n : ℕ) (xs ys : List ℕ) → slice_cmp nat_cmp xs ys ≡ ordering_then (slice_cmp nat_cmp (take n xs) (take n ys))
    (slice_cmp nat_cmp (drop n xs) (drop n ys))
in_parts zero xs ys = refl
in_parts (suc n) [] [] = refl
in_parts (suc n) [] (y ∷ ys) = refl
in_parts (suc n) (x ∷ xs) [] = refl
in_parts (suc n) (x ∷ xs) (y ∷ ys) = ap (ordering_then (nat_cmp x y)) (in_parts n xs ys) ∙ sym (then_then (nat_cmp x y) _ _)

first_equal : (a b : Ordering) → is_ne (ordering_then a b) ≡ false → a ≡ Equal
first_equal Less b h = absurd (true≢false h)
first_equal Equal b h = refl
first_equal Greater b h = absurd (true≢false h)

pub first_decides : (a b : Ordering) → is_ne a ≡ true → a ≡ ordering_then a b
first_decides Less b h = refl
first_decides Equal b h = absurd (true≢false (sym h))
first_decides Greater b h = refl

-- two numbers that are not the same are not level
pub unlike : (x y : ℕ) → not (x == y) ≡ is_ne (nat_cmp x y)
unlike x y = grind (arith, nat_tests)

-- the first i are alike
abbrev pub AreAlike : ℕ → List ℕ → List ℕ → Type 0
AreAlike i xs ys = slice_cmp nat_cmp (take i xs) (take i ys) ≡ Equal

-- and so are fewer
fewer : (j i : ℕ) (xs ys : List ℕ) → j ≤ i → AreAlike i xs ys → AreAlike j xs ys
fewer j i xs ys le h =
    sym (λ k. slice_cmp nat_cmp (take-take j i xs le k) (take-take j i ys le k))
    ∙ first_equal _ (slice_cmp nat_cmp (drop j (take i xs)) (drop j (take i ys))) (ap is_ne (sym (in_parts j (take i xs) (take i ys)) ∙ h))

-- those behind them decide
behind : (i : ℕ) (xs ys : List ℕ) → AreAlike i xs ys → slice_cmp nat_cmp xs ys ≡ slice_cmp nat_cmp (drop i xs) (drop i ys)
behind i xs ys h = in_parts i xs ys ∙ ap (λ a. ordering_then a (slice_cmp nat_cmp (drop i xs) (drop i ys))) h

-- what is not told apart is level
pub level : (a : Ordering) → is_ne a ≡ false → a ≡ Equal
level a h = first_equal a Equal (ap is_ne (sym (then_equal a)) ∙ h)

-- where the next eight do not differ, these are alike too
pub more_alike : (i : ℕ) (xs ys : List ℕ) (differ : Bool) → AreAlike i xs ys → differ ≡ is_ne (eight_cmp i xs ys) → differ ≡ false → AreAlike (i + 8) xs ys
more_alike i xs ys differ h e f =
    let le : i ≤ i + 8 = omega arith in
    in_parts i (take (i + 8) xs) (take (i + 8) ys)
    ∙ (λ k. ordering_then (slice_cmp nat_cmp (take-take i (i + 8) xs le k) (take-take i (i + 8) ys le k))
    (slice_cmp nat_cmp (drop-take i 8 xs k) (drop-take i 8 ys k)))
    ∙ ap (λ a. ordering_then a (eight_cmp i xs ys)) h
    ∙ level (eight_cmp i xs ys) (sym e ∙ f)

-- where they differ, they decide
pub decides : (i : ℕ) (xs ys : List ℕ) (differ : Bool) → AreAlike i xs ys → differ ≡ is_ne (eight_cmp i xs ys) → differ ≡ true →
    eight_cmp i xs ys ≡ slice_cmp nat_cmp xs ys
decides i xs ys differ h e f =
    first_decides (eight_cmp i xs ys) (slice_cmp nat_cmp (drop 8 (drop i xs)) (drop 8 (drop i ys))) (sym e ∙ f)
    ∙ sym (in_parts 8 (drop i xs) (drop i ys))
    ∙ sym (behind i xs ys h)

-- the last eight decide, where those before them are alike
pub last_eight : (i j : ℕ) (xs ys : List ℕ) → j ≤ i → AreAlike i xs ys → length xs ≡ j + 8 → length ys ≡ j + 8 → eight_cmp j xs ys ≡ slice_cmp nat_cmp xs ys
last_eight i j xs ys le h l m =
    (λ k. slice_cmp nat_cmp (take_all 8 (drop j xs) (omega (arith, length-drop j xs)) k) (take_all 8 (drop j ys) (omega (arith, length-drop j ys)) k))
    ∙ sym (behind j xs ys (fewer j i xs ys le h))
