-- Faces: what winds each point off its edges 0 or 1 times. Near a point of an edge that is no end, it lies left of the edge and not right of it.
use Rattle.std.proofs.Common.{◌≡◌, ◌+◌, refl, sym, ap, ◌∙◌, arith, ◌<◌, inl, inr, List, [], ◌∷◌}
use Rattle.std.specs.Prelude.{ℤ, pos, ◌+ℤ◌, ◌<ℤ◌, true, false, ◌≢◌, ◌⊎◌, slice_index_or}
use Rattle.std.specs.List.{AllByRecursion, Contains, count_by}
use Rattle.std.proofs.lemmas.Bool.{cases_Bool, both_ways}
use Rattle.std.proofs.lemmas.List.Elements.{recursion_from_All, All-from_recursion, Contains-get_or}
use Rattle.rd_plane.specs.Plane.{Segment, Point, point_of, side, on, off, wind, is_end, reversed}
use Rattle.rd_plane.specs.Jump.{PassesAlong, Jump, EndsBalance, run, is_along, is_against}
use Rattle.rd_plane.proofs.Polynomials.{linear}
use Rattle.rd_plane.proofs.Crossing.{side-reversed}
use Rattle.rd_plane.proofs.Touching.{On-from_on}
use Rattle.rd_plane.proofs.Nearby.{Soon, soon_so, both_soon, always, Near-left, Near-right}
use Rattle.rd_plane.proofs.Sides.{heading}
use Rattle.rd_plane.proofs.Jumping.{jump}
use Rattle.rd_plane.proofs.OffNear.{Beside, beside, stays_off, off_unless}
use Rattle.rd_plane.proofs.FreePoint.{side-own_a, side-own_b}
use Rattle.rd_plane.proofs.Members.{all_so, none_pass}
use Rattle.rd_plane.proofs.OwnEdges.{OwnMeets, end_on, run_self, some_pass, yes_along}

-- ---- an edge f through p along the line of e
-- what an edge f is to a free point p of e
pub record Good (p : Point) (e f : Segment) : Type 0 where
  pub passes : PassesAlong p e f
  pub same : on p f ≡ true → (f ≡ e) ⊎ (f ≡ reversed e)

pub not_against : (p : Point) (e f : Segment) → pos 0 <ℤ run e f → is_against p e f ≡ false
not_against p e f h = grind (arith, linear)

-- ---- points near p that are not on e's line are off the edges
pub off_soon : (p : Point) (e : Segment) (es : List Segment) → AllByRecursion (Good p e) es
    → Soon p (λ r. (side r e ≡ pos 0 → ⊥) → off r es ≡ true)
unfolding off
off_soon p e [] h = always p (λ r n. refl)
off_soon p e (f ∷ fs) h = soon_so p (both_soon p (one h.0) (off_soon p e fs h.1)) (λ r t n. rw (t.0 n, t.1 n) refl)
  where
    one : Good p e f → Soon p (λ r. (side r e ≡ pos 0 → ⊥) → on r f ≡ false)
    one g = elim (cases_Bool (on p f)) [
      | inr t ↦ soon_so p (stays_off p f t) (λ r k n. k)
      | inl t ↦ elim (g.same t) [
        | inl q ↦ always p (λ r n. off_unless r f (λ k. n (sym (ap (side r) q) ∙ k.straight)))
        | inr q ↦ always p (λ r n. off_unless r f (λ k. n (omega (arith, linear, side-reversed r e, ap (side r) q, k.straight))))
      ]
    ]

-- ---- faces
-- the edges es wind c less than 0 or 1 times
pub record IsFace (c : ℤ) (es : List Segment) : Type 0 where
  pub balance : EndsBalance es
  pub winds : (p : Point) → off p es ≡ true → (c +ℤ wind p es ≡ pos 0) ⊎ (c +ℤ wind p es ≡ pos 1)
  pub meets : OwnMeets es

-- the face lies left of e and not right of it
pub record Parted (c : ℤ) (e : Segment) (es : List Segment) (r : Point) : Type 0 where
  pub left : pos 0 <ℤ side r e → c +ℤ wind r es ≡ pos 1
  pub right : side r e <ℤ pos 0 → c +ℤ wind r es ≡ pos 0

-- e is the one edge of the face through p
pub own_good : (c : ℤ) (es : List Segment) → IsFace c es → (e : Segment) → Contains es e → (p : Point) → on p e ≡ true → is_end p e ≡ false
    → (g : Segment) → Contains es g → Good p e g
own_good c es k e ce p o n g cg = record {
  passes = record {
    along = λ og. let q = k.meets e g p ce cg o og n
        in (ap (λ f. side (point_of f.a) e) q ∙ side-own_a e, ap (λ f. side (point_of f.b) e) q ∙ side-own_b e);
    no_end = elim (cases_Bool (is_end p g)) [
      | inr t ↦ t
      | inl t ↦ absurd (both_ways (is_end p e) n (ap (is_end p) (sym (k.meets e g p ce cg o (end_on p g t) n)) ∙ t))
    ];
  };
  same = λ og. inl (k.meets e g p ce cg o og n);
}

not_back : (c : ℤ) (es : List Segment) → IsFace c es → (e : Segment) → Contains es e → e.a ≢ e.b → (p : Point) → on p e ≡ true
    → is_end p e ≡ false → (g : Segment) → Contains es g → is_against p e g ≡ false
not_back c es k e ce d p o n g cg = elim (cases_Bool (on p g)) [
  | inl t ↦ not_against p e g (rw (k.meets e g p ce cg o t n) (run_self e d))
  | inr t ↦ let z : is_against p e g ≡ false = rw t refl in z
]

pub parted : (c : ℤ) (es : List Segment) → IsFace c es → (e : Segment) → Contains es e → e.a ≢ e.b → (p : Point) → on p e ≡ true
    → is_end p e ≡ false → Soon p (Parted c e es)
parted c es k e ce d p o n = record {
  m = j.m;
  some = j.some;
  holds = λ r near. record {
    left = λ s. omega (arith, linear, j.at_left r near s, settled.0);
    right = λ s. omega (arith, linear, j.at_right r near s, settled.1);
  };
}
  where
    goods : AllByRecursion (Good p e) es
    goods = recursion_from_All (Good p e) es (λ i g h. own_good c es k e ce p o n (slice_index_or es i g) (Contains-get_or es i g h))

    j : Jump p e es
    j = jump p e es d ((On-from_on p e o).straight) k.balance
        (All-from_recursion (PassesAlong p e) es (all_so (Good p e) (PassesAlong p e) es (λ f g. g.passes) goods))

    along : 0 < count_by (is_along p e) es
    along = some_pass (is_along p e) es e ce (yes_along p e e o (run_self e d))

    against : count_by (is_against p e) es ≡ 0
    against = none_pass (is_against p e) es (recursion_from_All (λ g. is_against p e g ≡ false) es
        (λ i g h. not_back c es k e ce d p o n (slice_index_or es i g) (Contains-get_or es i g h)))

    close : Soon p (λ r. (side r e ≡ pos 0 → ⊥) → off r es ≡ true)
    close = off_soon p e es goods

    points : Beside p e (j.m + close.m)
    points = beside p e (j.m + close.m) (heading e d) ((On-from_on p e o).straight)

    at_left : c +ℤ j.left ≡ c +ℤ wind points.left es
    at_left = omega (arith, linear, j.at_left points.left (Near-left j.m close.m p points.left points.near_left) points.is_left)

    at_right : c +ℤ j.right ≡ c +ℤ wind points.right es
    at_right = omega (arith, linear, j.at_right points.right (Near-left j.m close.m p points.right points.near_right) points.is_right)

    left_wind : (c +ℤ wind points.left es ≡ pos 0) ⊎ (c +ℤ wind points.left es ≡ pos 1)
    left_wind = k.winds points.left
        (close.holds points.left (Near-right j.m close.m p points.left points.near_left) (λ z. omega (arith, linear, z, points.is_left)))

    right_wind : (c +ℤ wind points.right es ≡ pos 0) ⊎ (c +ℤ wind points.right es ≡ pos 1)
    right_wind = k.winds points.right (close.holds points.right (Near-right j.m close.m p points.right points.near_right)
        (λ z. omega (arith, linear, z, points.is_right)))

    settled : (c +ℤ j.left ≡ pos 1) × (c +ℤ j.right ≡ pos 0)
    settled = elim left_wind [
      | inl zero_left ↦ elim right_wind [
        | inl zero_right ↦ absurd (omega (arith, linear, at_left, at_right, zero_left, zero_right, j.difference, along, against))
        | inr one_right ↦ absurd (omega (arith, linear, at_left, at_right, zero_left, one_right, j.difference, along, against))
      ]
      | inr one_left ↦ elim right_wind [
        | inl zero_right ↦ (at_left ∙ one_left, at_right ∙ zero_right)
        | inr one_right ↦ absurd (omega (arith, linear, at_left, at_right, one_left, one_right, j.difference, along, against))
      ]
    ]
