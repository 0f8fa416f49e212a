-- Edges that meet in turn alone: what the winding number is left and right of each.
use Rattle.std.proofs.Common.{◌≡◌, ◌+◌, sym, ap, ◌∙◌, arith, ◌<◌, ◌≤◌, inl, inr, List}
use Rattle.std.specs.Prelude.{ℤ, pos, ◌-ℤ◌, ◌<ℤ◌, true, false, ◌≢◌, ◌⊎◌, slice_index_or}
use Rattle.std.specs.List.{All, AllByRecursion, Contains, count_by}
use Rattle.std.proofs.lemmas.Bool.{cases_Bool, both_ways}
use Rattle.std.proofs.lemmas.List.Elements.{recursion_from_All, Contains-get_or}
use Rattle.rd_plane.specs.Plane.{Segment, Point, point_of, side, on, wind, is_at, is_end}
use Rattle.rd_plane.specs.Jump.{PassesAlong, Jump, EndsBalance, is_along, is_against}
use Rattle.rd_plane.proofs.Polynomials.{linear}
use Rattle.rd_plane.proofs.Touching.{On-from_on}
use Rattle.rd_plane.proofs.Nearby.{Soon}
use Rattle.rd_plane.proofs.Jumping.{jump}
use Rattle.rd_plane.proofs.FreePoint.{side-own_a, side-own_b}
use Rattle.rd_plane.proofs.OwnEdges.{OwnMeets, end_on, some_pass, run_self, yes_along, through_count}

-- the edges of a simple ring
pub record AreRingEdges (es : List Segment) : Type 0 where
  pub balance : EndsBalance es
  pub differ : (e : Segment) → Contains es e → e.a ≢ e.b
  pub own : OwnMeets es
  -- one edge at most goes through a point that is no end
  pub once : (p : Point) → AllByRecursion (λ f. is_end p f ≡ false) es → count_by (on p) es ≤ 1
  -- at the end of an edge stand that edge and the next, and no other
  pub corner : (e f g : Segment) → Contains es e → Contains es f → Contains es g → e.b ≡ f.a → on (point_of e.b) g ≡ true
      → (g ≡ e) ⊎ (g ≡ f)
  -- an edge and the next have but that end in common
  pub shared : (e f : Segment) (p : Point) → Contains es e → Contains es f → e.b ≡ f.a → on p e ≡ true → on p f ≡ true → is_at p e.b ≡ true

-- p is a point of e and no end
pub record Inner (p : Point) (e : Segment) : Type 0 where
  pub on_edge : on p e ≡ true
  pub no_end : is_end p e ≡ false

-- at r, left of e the winding number is l, and right of e one less
pub record Parts (l : ℤ) (e : Segment) (es : List Segment) (r : Point) : Type 0 where
  pub left : pos 0 <ℤ side r e → wind r es ≡ l
  pub right : side r e <ℤ pos 0 → wind r es ≡ l -ℤ pos 1

-- e is the one edge through p
passes_own : (es : List Segment) → AreRingEdges es → (e : Segment) → Contains es e → (p : Point) → Inner p e → (g : Segment) → Contains es g
    → PassesAlong p e g
passes_own es k e ce p i g cg = record {
  along = λ og. let q = k.own e g p ce cg i.on_edge og i.no_end
      in (ap (λ f. side (point_of f.a) e) q ∙ side-own_a e, ap (λ f. side (point_of f.b) e) q ∙ side-own_b e);
  no_end = elim (cases_Bool (is_end p g)) [
    | inr t ↦ t
    | inl t ↦ absurd (both_ways (is_end p e) i.no_end (ap (is_end p) (sym (k.own e g p ce cg i.on_edge (end_on p g t) i.no_end)) ∙ t))
  ];
}

-- near an inner point of an edge the winding number is some number left of it, and one less right of it
pub two_sides : (es : List Segment) → AreRingEdges es → (e : Segment) → Contains es e → (p : Point) → Inner p e
    → (l : ℤ) × Soon p (Parts l e es)
two_sides es k e ce p i = (
  j.left,
  record {
    m = j.m;
    some = j.some;
    holds = λ r near. record {
      left = λ s. j.at_left r near s;
      right = λ s. omega (arith, linear, j.at_right r near s, j.difference, along, both, k.once p none);
    };
  },
)
  where
    passes : All (PassesAlong p e) es
    passes n g h = passes_own es k e ce p i (slice_index_or es n g) (Contains-get_or es n g h)

    j : Jump p e es
    j = jump p e es (k.differ e ce) ((On-from_on p e i.on_edge).straight) k.balance passes

    along : 0 < count_by (is_along p e) es
    along = some_pass (is_along p e) es e ce (yes_along p e e i.on_edge (run_self e (k.differ e ce)))

    both : count_by (is_along p e) es + count_by (is_against p e) es ≤ count_by (on p) es
    both = through_count p e es

    none : AllByRecursion (λ f. is_end p f ≡ false) es
    none = recursion_from_All (λ f. is_end p f ≡ false) es (λ n g h. (passes n g h).no_end)
