-- Rules that have one answer at most, alone and in a row.
use Rattle.std.proofs.Common.{◌≡◌, ◌∙◌, Option, Some, None, sym, refl, inl, inr}
use Rattle.rd_plane.specs.Rule.{Rule, ◌then◌, Is}

-- the rule has one answer at most
pub record HasOne {R : Type 0} (rule : Rule R) : Type 0 where
  pub same : (a b : Option R) → rule a → rule b → a ≡ b

-- so have two in a row, where each has
pub one_then : {R : Type 0} {first second : Rule R} → HasOne first → HasOne second → HasOne (first then second)
one_then {R} {first} {second} one other = record { same = joined }
  where
    joined : (a b : Option R) → (first then second) a → (first then second) b → a ≡ b
    joined None None h k = refl
    joined None (Some s) h (inl k) = one.same None (Some s) h.0 k
    joined None (Some s) h (inr k) = other.same None (Some s) h.1 k.1
    joined (Some r) None (inl h) k = one.same (Some r) None h k.0
    joined (Some r) None (inr h) k = other.same (Some r) None h.1 k.1
    joined (Some r) (Some s) (inl h) (inl k) = one.same (Some r) (Some s) h k
    joined (Some r) (Some s) (inl h) (inr k) = let e = one.same (Some r) None h k.0 in cc
    joined (Some r) (Some s) (inr h) (inl k) = let e = one.same (Some s) None k h.0 in cc
    joined (Some r) (Some s) (inr h) (inr k) = other.same (Some r) (Some s) h.1 k.1

-- a rule that is a function of what it sees has one
pub one_is : {R : Type 0} (is : Option R) → HasOne (Is is)
one_is is = record { same = λ a b h k. h ∙ sym k }
