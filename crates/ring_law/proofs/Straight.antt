-- Where a ring goes straight on at a corner, it goes on and not back.
use Rattle.std.proofs.Common.{◌≡◌, refl, sym, ap, ◌∙◌, arith, List}
use Rattle.std.specs.Prelude.{ℤ, pos, ◌+ℤ◌, ◌-ℤ◌, ◌*ℤ◌, ◌<ℤ◌, ◌≤ℤ◌, neg_ℤ, true, ◌≢◌}
use Rattle.std.specs.List.{Contains}
use Rattle.std.proofs.lemmas.Int.{by_lt_z}
use Rattle.rd_plane.specs.Plane.{Vertex, Segment, Point, point_of, side, is_at, on, same_int}
use Rattle.rd_plane.proofs.Polynomials.{linear, expanded, one-mul, mul-neg, neg-mul, mul-one, lt_from_mul, mul-lt, mul_comm}
use Rattle.rd_plane.proofs.Touching.{On, on_from_On, On-reversed, same_int-true}
use Rattle.rd_plane.proofs.Along.{on_mean}
use Rattle.rd_plane.proofs.Through.{side-point_of}
use Rattle.rd_plane.proofs.Sides.{heading}
use Rattle.rd_plane.proofs.OffNear.{long}
use Rattle.rd_plane.proofs.Apart.{on_end_a, on_end_b}
use Rattle.rd_plane.proofs.FreePoint.{point_from}
use Rattle.std.proofs.lemmas.Bool.{and_parts}
use Rattle.ring_law.proofs.Simple.{AreRingEdges}

-- the way on, from the end of e
abbrev pub Follows : Segment → Segment → Type 0
Follows e f = e.b ≡ f.a

-- how far e goes, squared
abbrev pub length_of : Segment → ℤ
length_of e = (e.b.x -ℤ e.a.x) *ℤ (e.b.x -ℤ e.a.x) +ℤ (e.b.y -ℤ e.a.y) *ℤ (e.b.y -ℤ e.a.y)

-- how far the way from the end of e to w goes in e's direction
abbrev pub run_to : Segment → Vertex → ℤ
run_to e w = (e.b.x -ℤ e.a.x) *ℤ (w.x -ℤ e.b.x) +ℤ (e.b.y -ℤ e.a.y) *ℤ (w.y -ℤ e.b.y)

parallel_step : (ax ay bx by wx wy : ℤ) → (bx -ℤ ax) *ℤ (wy -ℤ ay) -ℤ (by -ℤ ay) *ℤ (wx -ℤ ax) ≡ pos 0
    → (bx -ℤ ax) *ℤ (wy -ℤ by) ≡ (by -ℤ ay) *ℤ (wx -ℤ bx)
parallel_step ax ay bx by wx wy h = let k = simp expanded at h in simp expanded (omega (arith, linear, k))

pub parallel : (e : Segment) (w : Vertex) → side (point_of w) e ≡ pos 0
    → (e.b.x -ℤ e.a.x) *ℤ (w.y -ℤ e.b.y) ≡ (e.b.y -ℤ e.a.y) *ℤ (w.x -ℤ e.b.x)
parallel e w s = parallel_step e.a.x e.a.y e.b.x e.b.y w.x w.y (sym (side-point_of w e) ∙ s)

back_step_x : (ux uy vx vy wx wy : ℤ) → (vx -ℤ ux) *ℤ (wy -ℤ vy) ≡ (vy -ℤ uy) *ℤ (wx -ℤ vx) →
    (((vx -ℤ ux) *ℤ (vx -ℤ ux) +ℤ (vy -ℤ uy) *ℤ (vy -ℤ uy)) *ℤ wx) ≡ neg_ℤ
    ((vx -ℤ ux) *ℤ (wx -ℤ vx) +ℤ (vy -ℤ uy) *ℤ (wy -ℤ vy)) *ℤ ux +ℤ (((vx
    -ℤ ux) *ℤ (vx -ℤ ux) +ℤ (vy -ℤ uy) *ℤ (vy -ℤ uy)) +ℤ ((vx -ℤ ux) *ℤ (wx -ℤ vx) +ℤ (vy -ℤ uy) *ℤ (wy -ℤ vy))) *ℤ vx
back_step_x ux uy vx vy wx wy h = let k = simp expanded at (ap (λ z. (vy -ℤ uy) *ℤ z) h) in simp expanded (omega (arith, linear, k))

back_step_y : (ux uy vx vy wx wy : ℤ) → (vx -ℤ ux) *ℤ (wy -ℤ vy) ≡ (vy -ℤ uy) *ℤ (wx -ℤ vx) →
    (((vx -ℤ ux) *ℤ (vx -ℤ ux) +ℤ (vy -ℤ uy) *ℤ (vy -ℤ uy)) *ℤ wy) ≡ neg_ℤ
    ((vx -ℤ ux) *ℤ (wx -ℤ vx) +ℤ (vy -ℤ uy) *ℤ (wy -ℤ vy)) *ℤ uy +ℤ (((vx
    -ℤ ux) *ℤ (vx -ℤ ux) +ℤ (vy -ℤ uy) *ℤ (vy -ℤ uy)) +ℤ ((vx -ℤ ux) *ℤ (wx -ℤ vx) +ℤ (vy -ℤ uy) *ℤ (wy -ℤ vy))) *ℤ vy
back_step_y ux uy vx vy wx wy h = let k = simp expanded at (ap (λ z. (vx -ℤ ux) *ℤ z) h) in simp expanded (omega (arith, linear, k))

-- to go back along e, and not past its begin, is to come to a point of e
on_back : (e : Segment) (w : Vertex) → e.a ≢ e.b → side (point_of w) e ≡ pos 0 → run_to e w ≤ℤ pos 0 → pos 0 ≤ℤ (length_of e +ℤ run_to e w)
    → On (point_of w) e
on_back e w n s h k = on_mean (point_of w) e (record {
  w = length_of e;
  v = neg_ℤ (run_to e w);
  u = length_of e +ℤ run_to e w;
  positive = long e (heading e n);
  from_a = omega (arith, linear, h);
  from_b = k;
  in_x = back_step_x e.a.x e.a.y e.b.x e.b.y w.x w.y (parallel e w s);
  in_y = back_step_y e.a.x e.a.y e.b.x e.b.y w.x w.y (parallel e w s);
  in_q = omega (arith, linear, mul-one (length_of e));
})

product_step : (a b c d : ℤ) → a *ℤ d ≡ b *ℤ c → (a *ℤ a +ℤ b *ℤ b) *ℤ (c *ℤ c +ℤ d *ℤ d) ≡ (a *ℤ c +ℤ b *ℤ d) *ℤ (a *ℤ c +ℤ b *ℤ d)
product_step a b c d h = let k = simp expanded at (ap (λ z. (a *ℤ d) *ℤ z) h) in let l = simp expanded at (ap (λ z. (b *ℤ c) *ℤ z) h)
    in simp expanded (omega (arith, linear, k, l))

-- what goes back past the begin of the first is longer
shorter : (L M R : ℤ) → pos 0 <ℤ L → L *ℤ M ≡ R *ℤ R → (L +ℤ R) <ℤ pos 0 → pos 0 ≤ℤ (M +ℤ R)
shorter L M R h e k = omega (
  arith,
  linear,
  lt_from_mul L (neg_ℤ R) M h (omega (
    arith,
    linear,
    e,
    mul-lt (neg_ℤ R) L (neg_ℤ R) (omega (arith, linear)) (omega (arith, linear)),
    mul_comm (neg_ℤ R) L,
    neg-mul R (neg_ℤ R),
    mul-neg R R,
  )),
)

pub at_corner : (v w : Vertex) → is_at (point_of v) w ≡ true → v ≡ w
unfolding is_at
at_corner v w h = let k = and_parts (same_int v.x (pos 1 *ℤ w.x)) (same_int v.y (pos 1 *ℤ w.y)) h in
    point_from v w (same_int-true v.x (pos 1 *ℤ w.x) k.0 ∙ one-mul w.x) (same_int-true v.y (pos 1 *ℤ w.y) k.1 ∙ one-mul w.y)

pub end_a_on : (f : Segment) → on (point_of f.a) f ≡ true
end_a_on f = on_from_On (point_of f.a) f (on_end_a (point_of f.a) f (sym (one-mul f.a.x)) (sym (one-mul f.a.y)))

pub end_b_on : (f : Segment) → on (point_of f.b) f ≡ true
end_b_on f = on_from_On (point_of f.b) f (on_end_b (point_of f.b) f (sym (one-mul f.b.x)) (sym (one-mul f.b.y)))

side_back_step : (ux uy vx vy wx wy : ℤ) → (vx -ℤ ux) *ℤ (wy -ℤ uy) -ℤ (vy -ℤ uy) *ℤ (wx -ℤ ux) ≡ pos 0
    → (vx -ℤ wx) *ℤ (uy -ℤ wy) -ℤ (vy -ℤ wy) *ℤ (ux -ℤ wx) ≡ pos 0
side_back_step ux uy vx vy wx wy h = let k = simp expanded at h in simp expanded (omega (arith, linear, k))

side_back : (u v w : Vertex) → side (point_of w) (record { a = u; b = v }) ≡ pos 0 → side (point_of u) (record { a = w; b = v }) ≡ pos 0
side_back u v w s = side-point_of u (record { a = w; b = v }) ∙ side_back_step u.x u.y v.x v.y w.x w.y
    (sym (side-point_of w (record { a = u; b = v })) ∙ s)

run_back : (u v w : Vertex) → run_to (record { a = w; b = v }) u ≡ run_to (record { a = u; b = v }) w
run_back u v w = simp expanded (omega (arith, linear))

-- a ring that goes straight on at a corner does not go back
pub goes_on : (es : List Segment) → AreRingEdges es → (u v w : Vertex) → Contains es (record { a = u; b = v })
    → Contains es (record { a = v; b = w }) → side (point_of w) (record { a = u; b = v }) ≡ pos 0
    → pos 0 <ℤ run_to (record { a = u; b = v }) w
goes_on es k u v w ce cf s = by_lt_z (pos 0) (run_to e w) (λ h. h) (λ h. by_lt_z (length_of e +ℤ run_to e w) (pos 0)
    (λ l. let on_f = on_back (record { a = w; b = v }) u (λ q. k.differ f cf (sym q)) (side_back u v w s)
    (omega (arith, linear, run_back u v w)) (omega (
      arith,
      linear,
      run_back u v w,
      turned,
      shorter (length_of e) (length_of f)
          (run_to e w) (long e (heading e (k.differ e ce))) product l,
    )) in
    absurd (k.differ e ce (at_corner u v (k.shared e f (point_of u) ce cf refl (end_a_on e)
    (on_from_On (point_of u) f (On-reversed (point_of u) (record { a = w; b = v }) on_f))))))
    (λ l. absurd (k.differ f cf (sym (at_corner w v
    (k.shared e f (point_of w) ce cf refl (on_from_On (point_of w) e (on_back e w (k.differ e ce) s h l)) (end_b_on f)))))))
  where
    e : Segment
    e = record { a = u; b = v }

    f : Segment
    f = record { a = v; b = w }

    turned : length_of (record { a = w; b = v }) ≡ length_of f
    turned = simp expanded (omega (arith, linear))

    product : length_of e *ℤ length_of f ≡ run_to e w *ℤ run_to e w
    product = product_step (v.x -ℤ u.x) (v.y -ℤ u.y) (w.x -ℤ v.x) (w.y -ℤ v.y) (parallel e w s)

-- straight on, left of the one edge is left of the other
tie_step : (a b c d X Y : ℤ) → a *ℤ d ≡ b *ℤ c → (a *ℤ a +ℤ b *ℤ b) *ℤ (c *ℤ Y -ℤ d *ℤ X) ≡ (a *ℤ c +ℤ b *ℤ d) *ℤ (a *ℤ Y -ℤ b *ℤ X)
tie_step a b c d X Y h =
    let k = simp expanded at (ap (λ z. (b *ℤ Y) *ℤ z) h) in
    let l = simp expanded at (ap (λ z. (a *ℤ X) *ℤ z) h) in
    simp expanded (omega (arith, linear, k, l))

from_end_step : (ax ay bx by px py q : ℤ)
    → (bx -ℤ ax) *ℤ (py -ℤ q *ℤ ay) -ℤ (by -ℤ ay) *ℤ (px -ℤ q *ℤ ax) ≡ (bx -ℤ ax) *ℤ (py -ℤ q *ℤ by) -ℤ (by -ℤ ay) *ℤ (px -ℤ q *ℤ bx)
from_end_step ax ay bx by px py q = simp expanded (omega (arith, linear))

pub tied : (r : Point) (u v w : Vertex) → side (point_of w) (record { a = u; b = v }) ≡ pos 0 → length_of (record { a = u; b = v }) *ℤ side
    r (record { a = v; b = w }) ≡ run_to (record { a = u; b = v }) w *ℤ side r (record { a = u; b = v })
unfolding side
tied r u v w s
    = tie_step (v.x -ℤ u.x) (v.y -ℤ u.y) (w.x -ℤ v.x) (w.y -ℤ v.y) (r.px -ℤ r.q *ℤ v.x) (r.py -ℤ r.q *ℤ v.y)
    (parallel (record { a = u; b = v }) w s)
    ∙ ap (λ z. run_to (record { a = u; b = v }) w *ℤ z) (sym (from_end_step u.x u.y v.x v.y r.px r.py r.q))
