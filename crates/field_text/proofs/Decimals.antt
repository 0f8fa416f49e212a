-- Numbers in decimal: how long they are, and that they have no leading zero.
use Rattle.std.proofs.Common.{◌≡◌, ◌≤◌, ◌<◌, ◌+◌, ◌/◌, ◌%◌, ◌^◌, ◌∙◌, ℕ, zero, suc, List, [], ◌∷◌, ◌++◌, length, ap, sym, refl, inl, inr, arith, length-append}
use native.Mathlib.Numerals.{unary_clauses}
use Rattle.std.specs.Fmt.{decimal}
use Rattle.std.proofs.Math.Nat.{pow-succ'}
use Rattle.std.proofs.lemmas.Fmt.{decimal_step, decimal_by_steps, length-decimal-le}
use Rattle.field_text.specs.Forms.{padded}
use Rattle.field_text.specs.Coordinates.{IsWidth}

-- a further digit makes the text longer by one
pub length-decimal_step : (n : ℕ) → 10 ≤ n → n < 2 ^ 64 → length (decimal n) ≡ length (decimal (n / 10)) + 1
length-decimal_step n more small = ap length (decimal_step n more small) ∙ length-append (decimal (n / 10)) ((48 + n % 10) ∷ [])

-- a number of 64 bits has at most 20 digits
pub length-decimal_long : (n : ℕ) → n < 2 ^ 64 → length (decimal n) ≤ 20
length-decimal_long n small = length-decimal-le 20 n (omega arith) (omega arith) small

-- the digits are those of the number, with no leading zero
pub record IsPadded (n : ℕ) (digits : List ℕ) : Type 0 where
  pub width : IsWidth n (length digits)
  pub text : digits ≡ padded (length digits) n

-- a further digit counts ten times as much
first_digit : (n width : ℕ) → 10 ≤ n → IsWidth (n / 10) width → 10 ^ width ≤ n
first_digit n width h (a, b, inl e) = rw e (omega (arith, h))
first_digit n zero h (a, b, inr e) = omega arith
first_digit n (suc w) h (a, b, inr e) = let power = pow-succ' 10 w in let least : 10 ^ w ≤ n / 10 = simp unary_clauses at e in omega
    (arith, power, least)

one_digit : (n : ℕ) → n < 10 → IsPadded n ((48 + n) ∷ [])
one_digit n h =
    let rest : n % 10 ≡ n = omega (arith, h) in
    record { width = (omega arith, omega (arith, h), inl refl); text = ap (λ (d : ℕ). (48 + d) ∷ []) (sym rest) }

one_wider : (digits : List ℕ) (d : ℕ) → length (digits ++ d ∷ []) ≡ suc (length digits)
one_wider digits d = let e = length-append digits (d ∷ []) in omega (arith, e)

more_digits : (n : ℕ) (digits : List ℕ) → 10 ≤ n → IsPadded (n / 10) digits → IsPadded n (digits ++ (48 + n % 10) ∷ [])
more_digits n digits h p =
    let width = length digits in
    let len : length (digits ++ (48 + n % 10) ∷ []) ≡ suc width = one_wider digits (48 + n % 10) in
    let power = pow-succ' 10 width in
    let least : 10 ^ width ≤ n = first_digit n width h p.width in
    record {
      width = rw len (omega arith, omega (arith, power, p.width.1), inr (simp unary_clauses least));
      text = rw len (ap (λ (ds : List ℕ). ds ++ (48 + n % 10) ∷ []) p.text);
    }

-- a number of 64 bits in decimal is its digits with no leading zero
pub decimal_is_padded : (n : ℕ) → n < 2 ^ 64 → IsPadded n (decimal n)
decimal_is_padded = decimal_by_steps IsPadded one_digit more_digits
