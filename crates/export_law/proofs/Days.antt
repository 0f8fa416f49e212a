-- Days of moments do not fall.
use Rattle.std.proofs.Common.{◌≡◌, ℕ, ◌<◌, ◌≤◌, arith}
use Rattle.std.specs.Prelude.{ℤ, pos, negsuc, ◌<ℤ◌, ◌≤ℤ◌, ◌/◌, int_lt, nat_le, nat_lt, true, false}
use Rattle.std.specs.Int.{int_div_euclid}
use Rattle.rd_plane.proofs.Polynomials.{linear}

pub lt_true : (t u : ℤ) → t <ℤ u → int_lt t u ≡ true
lt_true t u h = grind (arith, linear)

quotients : (a b : ℕ) → a ≤ b → a / 86_400_000 ≤ b / 86_400_000
quotients a b h = omega arith

pub days_rise : (s t : ℤ) → s ≤ℤ t → int_div_euclid s (pos 86_400_000) ≤ℤ int_div_euclid t (pos 86_400_000)
days_rise (pos a) (pos b) h = let k = quotients a b (omega (arith, linear, h)) in omega (arith, linear, k)
days_rise (pos a) (negsuc b) h = absurd (omega (arith, linear, h))
days_rise (negsuc a) (pos b) h = omega (arith, linear)
days_rise (negsuc a) (negsuc b) h = let k = quotients b a (omega (arith, linear, h)) in omega (arith, linear, k)

pub no_later : (a b c : ℤ) → a ≤ℤ b → b ≤ℤ c → a ≤ℤ c
no_later a b c p q = omega (arith, linear, p, q)

-- ---- numbers
pub not_less : (a b : ℕ) → a ≤ b → nat_lt b a ≡ false
not_less a b l = grind arith

pub not_upto : (a b : ℕ) → a < b → nat_le b a ≡ false
not_upto a b l = grind arith
