-- Tests of moments.
use Rattle.std.proofs.Common.{◌≡◌, ap, ◌∙◌, arith}
use Rattle.std.specs.Prelude.{ℤ, ◌<ℤ◌, ◌≤ℤ◌, int_lt, int_le, true, false, Bool, ◌&&◌, Option, Some, None, IfSome, is_none}
use Rattle.std.proofs.lemmas.Bool.{both_ways}
use Rattle.std.proofs.lemmas.Int.{by_lt_z}
use Rattle.std.proofs.Math.Bool.{and-false, and-true}
use Rattle.rd_plane.proofs.Polynomials.{linear}
use Rattle.map_rules.specs.State.{holds_at}

pub le_true : (s t : ℤ) → s ≤ℤ t → int_le s t ≡ true
le_true s t h = grind (arith, linear)

pub le_false : (s t : ℤ) → t <ℤ s → int_le s t ≡ false
le_false s t h = grind (arith, linear)

pub lt_true : (t u : ℤ) → t <ℤ u → int_lt t u ≡ true
lt_true t u h = grind (arith, linear)

pub lt_false : (t u : ℤ) → u ≤ℤ t → int_lt t u ≡ false
lt_false t u h = grind (arith, linear)

-- before it ends, it holds as if it did not
pub holds_before : (t since until : ℤ) → t <ℤ until → holds_at t since (Some until) ≡ holds_at t since None
holds_before t since until h = ap (λ (b : Bool). int_le since t && b) (lt_true t until h) ∙ and-true (int_le since t)

-- what has begun, and has not ended later, holds where it has not ended
pub holds_now : (t since : ℤ) (until : Option ℤ) → since ≤ℤ t → IfSome until (λ u. u ≤ℤ t) → holds_at t since until ≡ is_none until
holds_now t since None h k = le_true since t h
holds_now t since (Some u) h k = ap (λ (b : Bool). int_le since t && b) (lt_false t u k) ∙ and-false (int_le since t)

pub le_from : (s t : ℤ) → int_le s t ≡ true → s ≤ℤ t
le_from s t h = by_lt_z t s (λ l. absurd (both_ways (int_le s t) (le_false s t l) h)) (λ l. l)
