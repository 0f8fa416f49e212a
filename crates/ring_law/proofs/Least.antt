-- At its least corner a ring has the outside on one side, which tells the number left of its edges.
use Rattle.std.proofs.Common.{◌≡◌, ℕ, refl, sym, ap, ◌∙◌, arith, inl, inr, List, [], ◌∷◌, suc}
use Rattle.std.specs.Prelude.{ℤ, pos, ◌+ℤ◌, ◌-ℤ◌, ◌*ℤ◌, ◌<ℤ◌, ◌≤ℤ◌, neg_ℤ, int_lt, cond, ◌≢◌, ◌⊎◌}
use Rattle.std.specs.List.{AllByRecursion, Contains}
use Rattle.std.specs.Ordering.{int_cmp, ordering_then}
use Rattle.std.specs.Cmp.{int_cmp_is}
use Rattle.std.specs.declared.cmp.Ordering.TheVariants.{Less, Equal}
use Rattle.std.proofs.lemmas.Int.{by_lt_z}
use Rattle.rd_plane.specs.Order.{vertex_cmp}
use Rattle.rd_plane.specs.Plane.{Vertex, Segment, Point, point_of, side, cross, wind, reversed}
use Rattle.rd_plane.specs.Jump.{Near, EndsBalance}
use Rattle.rd_plane.proofs.Polynomials.{linear, expanded, mul-one, mul-zero, zero-mul, mul-pos, mul-nonneg, mul-le, mul_comm, zero_from_mul, lt_from_mul, by_order}
use Rattle.rd_plane.proofs.Crossing.{side-reversed, crossing, cross_left_of_rising, cross_right_of_falling, cross_above, cross_below}
use Rattle.rd_plane.proofs.Crossing.Crossing.{left_of_rising, right_of_rising, right_of_falling, left_of_falling, above_both, below_both}
use Rattle.rd_plane.proofs.Touching.{On, On-from_on, On-reversed}
use Rattle.rd_plane.proofs.Nearby.{Soon, both_soon}
use Rattle.rd_plane.proofs.Apart.{nonneg_from_mul}
use Rattle.rd_plane.proofs.Along.{Weighs, weighs}
use Rattle.rd_plane.proofs.Through.{side-point_of}
use Rattle.rd_plane.proofs.Sides.{Heading, heading, square}
use Rattle.rd_plane.proofs.Jumping.{total, begins, ends, points-begins, points-ends, same_total}
use Rattle.rd_plane.proofs.OffNear.{Beside, beside}
use Rattle.rd_plane.proofs.Clear.{near_open}
use Rattle.rd_plane.proofs.FreePoint.{side-own_a, side-own_b}
use Rattle.rd_plane.proofs.Members.{contains_head, contains_tail}
use Rattle.ring_law.proofs.Between.{det-side, within_on, on_line, IsLower}
use Rattle.ring_law.proofs.Still.{Misses}
use Rattle.ring_law.proofs.Simple.{AreRingEdges, Inner, Parts}
use Rattle.ring_law.proofs.Ways.{stays_left_along, stays_right_along, never_left}
use Rattle.ring_law.proofs.AlongEdge.{Whole, ends_sum}
use Rattle.ring_law.proofs.Straight.{goes_on, run_to}
use Rattle.ring_law.proofs.Corner.{Around, around, left_misses, right_misses, near_a, near_a-near, near_a-inner, inner_back}

-- ---- a point with all edges to its east is wound 0 times
above : Point → Vertex → ℤ
above p v = cond (int_lt p.py (p.q *ℤ v.y)) (pos 1) (pos 0)

above-yes : (p : Point) (v : Vertex) → p.py <ℤ (p.q *ℤ v.y) → above p v ≡ pos 1
unfolding above
above-yes p v h = grind (arith, linear)

above-not : (p : Point) (v : Vertex) → (p.q *ℤ v.y) ≤ℤ p.py → above p v ≡ pos 0
unfolding above
above-not p v h = grind (arith, linear)

east_step : (ax ay bx by px py q : ℤ)
    → (q *ℤ by -ℤ py) *ℤ (q *ℤ ax -ℤ px) +ℤ (py -ℤ q *ℤ ay) *ℤ (q *ℤ bx -ℤ px) ≡ q *ℤ ((bx -ℤ ax) *ℤ (py -ℤ q *ℤ ay)
    -ℤ (by -ℤ ay) *ℤ (px -ℤ q *ℤ ax))
east_step ax ay bx by px py q = simp expanded (omega (arith, linear))

east_side : (p : Point) (e : Segment) → p.px ≤ℤ (p.q *ℤ e.a.x) → p.px ≤ℤ (p.q *ℤ e.b.x) → (p.q *ℤ e.a.y) ≤ℤ p.py → p.py <ℤ (p.q *ℤ e.b.y)
    → pos 0 ≤ℤ side p e
unfolding side
east_side p e h k a b
    = nonneg_from_mul p.q ((e.b.x -ℤ e.a.x) *ℤ (p.py -ℤ p.q *ℤ e.a.y) -ℤ (e.b.y -ℤ e.a.y) *ℤ (p.px -ℤ p.q *ℤ e.a.x)) p.positive (omega (
      arith,
      linear,
      east_step e.a.x e.a.y e.b.x e.b.y p.px p.py p.q,
      mul-nonneg (p.q *ℤ e.b.y -ℤ p.py) (p.q *ℤ e.a.x -ℤ p.px) (omega (arith, linear)) (omega (arith, linear)),
      mul-nonneg (p.py -ℤ p.q *ℤ e.a.y) (p.q *ℤ e.b.x -ℤ p.px) (omega (arith, linear)) (omega (arith, linear)),
    ))

rising_on : (p : Point) (e : Segment) → (p.q *ℤ e.a.y) ≤ℤ p.py → p.py <ℤ (p.q *ℤ e.b.y) → side p e ≡ pos 0 → On p e
rising_on p e h k z = within_on p e
    (on_line (point_of e.a) (point_of e.b) p lower (simp expanded h) (simp expanded (omega (arith, linear))) (det-side p e ∙ z))
  where
    lower : IsLower (point_of e.a) (point_of e.b)
    lower = omega (arith, linear, mul-one e.a.y, mul-one e.b.y, lt_from_mul p.q e.a.y e.b.y p.positive (omega (arith, linear)))

-- p is west of e
record West (p : Point) (e : Segment) : Type 0 where
  to_a : p.px ≤ℤ (p.q *ℤ e.a.x)
  to_b : p.px ≤ℤ (p.q *ℤ e.b.x)
  off_edge : On p e → ⊥

west_cross : (p : Point) (e : Segment) → West p e → cross p e ≡ above p e.b -ℤ above p e.a
west_cross p e w = elim (crossing p e) [
  | left_of_rising a b s ↦ omega (arith, linear, cross_left_of_rising p e a b s, above-not p e.a a, above-yes p e.b b)
  | right_of_rising a b s ↦ absurd (w.off_edge (rising_on p e a b (omega (arith, linear, s, east_side p e w.to_a w.to_b a b))))
  | right_of_falling b a s ↦ omega (arith, linear, cross_right_of_falling p e b a s, above-not p e.b b, above-yes p e.a a)
  | left_of_falling b a s ↦ absurd (w.off_edge (On-reversed p (reversed e)
      (rising_on p (reversed e) b a (omega (arith, linear, s, side-reversed p e, east_side p (reversed e) w.to_b w.to_a b a)))))
  | above_both a b ↦ omega (arith, linear, cross_above p e a b, above-not p e.a a, above-not p e.b b)
  | below_both a b ↦ omega (arith, linear, cross_below p e a b, above-yes p e.a a, above-yes p e.b b)
]

west_sum : (p : Point) (es : List Segment) → AllByRecursion (West p) es
    → wind p es ≡ total (above p) (ends es) -ℤ total (above p) (begins es)
unfolding wind total ends begins
west_sum p [] w = refl
west_sum p (e ∷ es) w = omega (arith, linear, west_cross p e w.0, west_sum p es w.1)

west_wind : (p : Point) (es : List Segment) → EndsBalance es → AllByRecursion (West p) es → wind p es ≡ pos 0
west_wind p es b w = omega
    (arith, linear, west_sum p es w, same_total (above p) (begins es) (ends es) (λ v. points-begins v es ∙ b v ∙ sym (points-ends v es)))

-- ---- a point just below the least corner
-- v is not before m in the order of corners
abbrev pub NotBefore : Vertex → Vertex → Type 0
NotBefore m v = (m.x <ℤ v.x) ⊎ ((m.x ≡ v.x) × (m.y ≤ℤ v.y))

pub not_before : (m v : Vertex) → vertex_cmp v m ≢ Less → NotBefore m v
not_before m v n = by_order m.x v.x
    (λ h. inl h)
    (λ h. inr (
      h,
      by_lt_z v.y m.y
          (λ k. absurd (n
          (ap (λ o. ordering_then o (int_cmp v.y m.y)) (sym (int_cmp_is v.x m.x Equal (sym h))) ∙ sym (int_cmp_is v.y m.y Less k))))
          (λ k. k),
    ))
    (λ h. absurd (n (ap (λ o. ordering_then o (int_cmp v.y m.y)) (sym (int_cmp_is v.x m.x Less h)))))

unfoldable pub below : Vertex → ℕ → Point
below m n = record { px = pos (suc n) *ℤ m.x; py = pos (suc n) *ℤ m.y -ℤ pos 1; q = pos (suc n); positive = omega (arith, linear) }

px_is : (m : Vertex) (n : ℕ) → (below m n).px ≡ (below m n).q *ℤ m.x
unfolding below
px_is m n = refl

below-near : (m : Vertex) (n : ℕ) → Near n (point_of m) (below m n)
unfolding below
below-near m n = record {
  from_x = simp expanded (omega (arith, linear));
  to_x = simp expanded (omega (arith, linear));
  from_y = simp expanded (omega (arith, linear));
  to_y = simp expanded (omega (arith, linear));
}

below_side_step : (ex ey x y q : ℤ) → ex *ℤ ((q *ℤ y -ℤ pos 1) -ℤ q *ℤ y) -ℤ ey *ℤ (q *ℤ x -ℤ q *ℤ x) ≡ neg_ℤ ex
below_side_step ex ey x y q = simp expanded (omega (arith, linear))

below-side_a : (f : Segment) (n : ℕ) → side (below f.a n) f ≡ neg_ℤ (f.b.x -ℤ f.a.x)
unfolding side below
below-side_a f n = below_side_step (f.b.x -ℤ f.a.x) (f.b.y -ℤ f.a.y) f.a.x f.a.y (pos (suc n))

below-side_b : (e : Segment) (n : ℕ) → side (below e.b n) e ≡ e.a.x -ℤ e.b.x
below-side_b e n = omega (arith, linear, side-reversed (below e.b n) e, below-side_a (reversed e) n)

-- what a mean adds where no part goes west, and where none that stays goes south
part_south : (v X Y : ℤ) → pos 0 ≤ℤ v → (pos 0 <ℤ X) ⊎ ((X ≡ pos 0) × (pos 0 ≤ℤ Y)) → (v *ℤ X) ≤ℤ pos 0 → pos 0 ≤ℤ (v *ℤ Y)
part_south v X Y hv h k = elim h [
  | inl x ↦ by_lt_z (pos 0) v (λ p. absurd (omega (arith, linear, k, mul-pos v X p x)))
      (λ p. let z : v ≡ pos 0 = omega (arith, linear, hv, p) in omega (arith, linear, ap (λ t. t *ℤ Y) z, zero-mul Y))
  | inr s ↦ mul-nonneg v Y hv s.1
]

below_x_step : (w v u Q x ax bx : ℤ) → w *ℤ (Q *ℤ x) ≡ v *ℤ ax +ℤ u *ℤ bx → w *ℤ Q ≡ v +ℤ u → v *ℤ (ax -ℤ x) +ℤ u *ℤ (bx -ℤ x) ≡ pos 0
below_x_step w v u Q x ax bx h k = let k1 = simp expanded at (ap (λ t. t *ℤ x) k) in simp expanded
    (omega (arith, linear, h, k1, mul_comm ax v, mul_comm bx u, mul_comm v ax, mul_comm u bx))

below_y_step : (w v u Q y ay by : ℤ) → w *ℤ (Q *ℤ y -ℤ pos 1) ≡ v *ℤ ay +ℤ u *ℤ by → w *ℤ Q ≡ v +ℤ u
    → v *ℤ (ay -ℤ y) +ℤ u *ℤ (by -ℤ y) ≡ neg_ℤ w
below_y_step w v u Q y ay by h k = let k1 = simp expanded at (ap (λ t. t *ℤ y) k) in let h1 = simp expanded at h in simp expanded
    (omega (arith, linear, h1, k1))

shifted : (m v : Vertex) → NotBefore m v → (pos 0 <ℤ (v.x -ℤ m.x)) ⊎ ((v.x -ℤ m.x ≡ pos 0) × (pos 0 ≤ℤ (v.y -ℤ m.y)))
shifted m v h = elim h [ inl k ↦ inl (omega (arith, linear, k)) | inr k ↦ inr (omega (arith, linear, k.0), omega (arith, linear, k.1)) ]

not_west : (m v : Vertex) → NotBefore m v → m.x ≤ℤ v.x
not_west m v h = elim h [ inl k ↦ omega (arith, linear, k) | inr k ↦ omega (arith, linear, k.0) ]

below_off : (m : Vertex) (n : ℕ) (e : Segment) → Heading e → NotBefore m e.a → NotBefore m e.b → On (below m n) e → ⊥
unfolding below
below_off m n e d ha hb o = omega (
  arith,
  linear,
  south,
  c.positive,
  part_south c.v (e.a.x -ℤ m.x) (e.a.y -ℤ m.y) c.from_a (shifted m e.a ha)
      (omega (arith, linear, west, mul-nonneg c.u (e.b.x -ℤ m.x) c.from_b (omega (arith, linear, not_west m e.b hb)))),
  part_south c.u (e.b.x -ℤ m.x) (e.b.y -ℤ m.y) c.from_b (shifted m e.b hb)
      (omega (arith, linear, west, mul-nonneg c.v (e.a.x -ℤ m.x) c.from_a (omega (arith, linear, not_west m e.a ha)))),
)
  where
    c : Weighs (below m n) e
    c = weighs (below m n) e d o

    west : c.v *ℤ (e.a.x -ℤ m.x) +ℤ c.u *ℤ (e.b.x -ℤ m.x) ≡ pos 0
    west = below_x_step c.w c.v c.u (pos (suc n)) m.x e.a.x e.b.x c.in_x c.in_q

    south : c.v *ℤ (e.a.y -ℤ m.y) +ℤ c.u *ℤ (e.b.y -ℤ m.y) ≡ neg_ℤ c.w
    south = below_y_step c.w c.v c.u (pos (suc n)) m.y e.a.y e.b.y c.in_y c.in_q

-- no corner is before m
abbrev pub NoneBefore : Vertex → List Segment → Type 0
NoneBefore m es = (e : Segment) → Contains es e → NotBefore m e.a × NotBefore m e.b

below_west : (m : Vertex) (n : ℕ) (es : List Segment) → AreRingEdges es → NoneBefore m es → (fs : List Segment)
    → ((f : Segment) → Contains fs f → Contains es f) → AllByRecursion (West (below m n)) fs
below_west m n es k h [] c = tt
below_west m n es k h (f ∷ fs) c = (west, below_west m n es k h fs (λ g d. c g (contains_tail f g fs d)))
  where
    cf : Contains es f
    cf = c f (contains_head f fs)

    to : (v : Vertex) → NotBefore m v → (below m n).px ≤ℤ ((below m n).q *ℤ v.x)
    to v nv = omega (arith, linear, px_is m n, mul-le (below m n).q m.x v.x (omega (arith, linear, (below m n).positive)) (not_west m v nv))

    west : West (below m n) f
    west = record {
      to_a = to f.a (h f cf).0;
      to_b = to f.b (h f cf).1;
      off_edge = below_off m n f (heading f (k.differ f cf)) (h f cf).0 (h f cf).1;
    }

pub below_wind : (m : Vertex) (n : ℕ) (es : List Segment) → AreRingEdges es → NoneBefore m es → wind (below m n) es ≡ pos 0
below_wind m n es k h = west_wind (below m n) es k.balance (below_west m n es k h es (λ f c. c))

-- ---- the number left of the edges at the least corner
-- a way right of f misses an edge whose ends are not right of it
right_of_both : (r t : Point) (e f : Segment) → Heading e → pos 0 ≤ℤ side (point_of e.a) f → pos 0 ≤ℤ side (point_of e.b) f
    → side r f <ℤ pos 0 → side t f <ℤ pos 0 → Misses r t e
right_of_both r t e f d h k hr ht x w o = omega (
  arith,
  linear,
  stays_right_along r t x f w hr ht,
  side-reversed x f,
  never_left x (reversed f) e d (omega (arith, linear, side-reversed (point_of e.a) f))
      (omega (arith, linear, side-reversed (point_of e.b) f)) o,
)

left_of_both : (r t : Point) (e f : Segment) → Heading f → side (point_of f.a) e ≤ℤ pos 0 → side (point_of f.b) e ≤ℤ pos 0
    → pos 0 <ℤ side r e → pos 0 <ℤ side t e → Misses r t f
left_of_both r t e f d h k hr ht x w o = omega (arith, linear, stays_left_along r t x e w hr ht, never_left x e f d h k o)

turn_step : (ux uy mx my wx wy : ℤ)
    → (mx -ℤ ux) *ℤ (wy -ℤ uy) -ℤ (my -ℤ uy) *ℤ (wx -ℤ ux) ≡ (wx -ℤ mx) *ℤ (uy -ℤ my) -ℤ (ux -ℤ mx) *ℤ (wy -ℤ my)
turn_step ux uy mx my wx wy = simp expanded (omega (arith, linear))

-- the turn at m, by the ways from m to its neighbours
pub turn_is : (u m w : Vertex) → side (point_of w) (record { a = u; b = m }) ≡ (w.x -ℤ m.x) *ℤ (u.y -ℤ m.y) -ℤ (u.x -ℤ m.x) *ℤ (w.y -ℤ m.y)
turn_is u m w = side-point_of w (record { a = u; b = m }) ∙ turn_step u.x u.y m.x m.y w.x w.y

-- to the left at the least corner the way on goes east
goes_east : (u m w : Vertex) → NotBefore m u → NotBefore m w → pos 0 <ℤ side (point_of w) (record { a = u; b = m }) → pos 0 <ℤ (w.x -ℤ m.x)
goes_east u m w hu hw s = elim (shifted m w hw) [
  | inl k ↦ k
  | inr k ↦ absurd (omega (
    arith,
    linear,
    s,
    turn_is u m w,
    ap (λ t. t *ℤ (u.y -ℤ m.y)) k.0,
    zero-mul (u.y -ℤ m.y),
    mul-nonneg (u.x -ℤ m.x) (w.y -ℤ m.y) (omega (arith, linear, not_west m u hu)) k.1,
  ))
]

-- to the right there it has come from the east
comes_east : (u m w : Vertex) → NotBefore m u → NotBefore m w → side (point_of w) (record { a = u; b = m }) <ℤ pos 0 → pos 0 <ℤ (u.x -ℤ m.x)
comes_east u m w hu hw s = elim (shifted m u hu) [
  | inl k ↦ k
  | inr k ↦ absurd (omega (
    arith,
    linear,
    s,
    turn_is u m w,
    ap (λ t. t *ℤ (w.y -ℤ m.y)) k.0,
    zero-mul (w.y -ℤ m.y),
    mul-nonneg (w.x -ℤ m.x) (u.y -ℤ m.y) (omega (arith, linear, not_west m w hw)) k.1,
  ))
]

pub left_number : (es : List Segment) → AreRingEdges es → (u m w : Vertex) (l : ℤ) → NoneBefore m es → Contains es (record { a = u; b = m })
    → Contains es (record { a = m; b = w }) → Whole es l (record { a = m; b = w }) → pos 0 <ℤ side (point_of w) (record { a = u; b = m })
    → l ≡ pos 1
left_number es k u m w l h ce cf hf s = omega (
  arith,
  linear,
  below_wind m c.m es k h,
  at.0.right b.is_right,
  c.same (below m c.m) b.right (below-near m c.m) at.1
      (right_of_both (below m c.m) b.right e f (heading e (k.differ e ce))
      (omega (arith, linear, ends_sum e f, side-own_a f, side-own_b e, s)) (omega (arith, linear, side-own_a f)) outside b.is_right)
      (right_misses (below m c.m) b.right f outside b.is_right),
)
  where
    e : Segment
    e = record { a = u; b = m }

    f : Segment
    f = record { a = m; b = w }

    c : Around es e f
    c = around es k e f ce cf refl

    q : Point
    q = near_a f c.m

    i : Inner q f
    i = near_a-inner f c.m (k.differ f cf)

    soon : Soon q (λ r. Parts l f es r × Near c.m (point_of m) r)
    soon = both_soon q (hf q i) (near_open c.m (point_of m) q (near_a-near f c.m))

    b : Beside q f soon.m
    b = beside q f soon.m (heading f (k.differ f cf)) ((On-from_on q f i.on_edge).straight)

    at : Parts l f es b.right × Near c.m (point_of m) b.right
    at = soon.holds b.right b.near_right

    outside : side (below m c.m) f <ℤ pos 0
    outside = omega (arith, linear, below-side_a f c.m, goes_east u m w (h e ce).0 (h f cf).1 s)

pub right_number : (es : List Segment) → AreRingEdges es → (u m w : Vertex) (l : ℤ) → NoneBefore m es
    → Contains es (record { a = u; b = m }) → Contains es (record { a = m; b = w }) → Whole es l (record { a = u; b = m })
    → side (point_of w) (record { a = u; b = m }) <ℤ pos 0 → l ≡ pos 0
right_number es k u m w l h ce cf he s = omega (
  arith,
  linear,
  below_wind m c.m es k h,
  at.0.left b.is_left,
  c.same (below m c.m) b.left (below-near m c.m) at.1
      (left_misses (below m c.m) b.left e outside b.is_left)
      (left_of_both (below m c.m) b.left e f (heading f (k.differ f cf)) (omega (arith, linear, side-own_b e)) (omega (arith, linear, s))
      outside b.is_left),
)
  where
    e : Segment
    e = record { a = u; b = m }

    f : Segment
    f = record { a = m; b = w }

    c : Around es e f
    c = around es k e f ce cf refl

    q : Point
    q = near_a (reversed e) c.m

    i : Inner q e
    i = inner_back q e (near_a-inner (reversed e) c.m (λ x. k.differ e ce (sym x)))

    soon : Soon q (λ r. Parts l e es r × Near c.m (point_of m) r)
    soon = both_soon q (he q i) (near_open c.m (point_of m) q (near_a-near (reversed e) c.m))

    b : Beside q e soon.m
    b = beside q e soon.m (heading e (k.differ e ce)) ((On-from_on q e i.on_edge).straight)

    at : Parts l e es b.left × Near c.m (point_of m) b.left
    at = soon.holds b.left b.near_left

    outside : pos 0 <ℤ side (below m c.m) e
    outside = omega (arith, linear, below-side_b e c.m, comes_east u m w (h e ce).0 (h f cf).1 s)

-- ways to two corners that are not before m, on one straight line, go the same way
same_way_step : (a b c d : ℤ) → (pos 0 <ℤ a) ⊎ ((a ≡ pos 0) × (pos 0 ≤ℤ b)) → (pos 0 <ℤ c) ⊎ ((c ≡ pos 0) × (pos 0 ≤ℤ d)) → a *ℤ d ≡ b *ℤ c
    → pos 0 ≤ℤ (a *ℤ c +ℤ b *ℤ d)
same_way_step a b c d h k e = elim h [
  | inr x ↦ elim k [
    | inr y ↦ omega (arith, linear, ap (λ t. t *ℤ c) x.0, zero-mul c, mul-nonneg b d x.1 y.1)
    | inl y ↦ let z : b *ℤ c ≡ pos 0 = omega (arith, linear, e, ap (λ t. t *ℤ d) x.0, zero-mul d) in
        let bz : b ≡ pos 0 = zero_from_mul c b y (mul_comm c b ∙ z) in omega
        (arith, linear, ap (λ t. t *ℤ c) x.0, zero-mul c, ap (λ t. t *ℤ d) bz, zero-mul d)
  ]
  | inl x ↦ elim k [
    | inr y ↦ let z : a *ℤ d ≡ pos 0 = omega (arith, linear, e, ap (λ t. b *ℤ t) y.0, mul-zero b) in
        let dz : d ≡ pos 0 = zero_from_mul a d x z in omega
        (arith, linear, ap (λ t. a *ℤ t) y.0, mul-zero a, ap (λ t. b *ℤ t) dz, mul-zero b)
    | inl y ↦ omega (
      arith,
      linear,
      mul-pos a c x y,
      nonneg_from_mul c (b *ℤ d) y (omega (arith, linear, turned, mul-nonneg a (d *ℤ d) (omega (arith, linear, x)) (square d))),
    )
  ]
]
  where
    turned : c *ℤ (b *ℤ d) ≡ a *ℤ (d *ℤ d)
    turned = let e1 = simp expanded at (ap (λ t. d *ℤ t) e) in simp expanded (omega (arith, linear, e1))

back_step : (ux uy mx my wx wy : ℤ)
    → (mx -ℤ ux) *ℤ (wx -ℤ mx) +ℤ (my -ℤ uy) *ℤ (wy -ℤ my) ≡ neg_ℤ ((ux -ℤ mx) *ℤ (wx -ℤ mx) +ℤ (uy -ℤ my) *ℤ (wy -ℤ my))
back_step ux uy mx my wx wy = simp expanded (omega (arith, linear))

pub no_straight : (es : List Segment) → AreRingEdges es → (u m w : Vertex) → NoneBefore m es → Contains es (record { a = u; b = m })
    → Contains es (record { a = m; b = w }) → side (point_of w) (record { a = u; b = m }) ≢ pos 0
no_straight es k u m w h ce cf s = omega (
  arith,
  linear,
  goes_on es k u m w ce cf s,
  back,
  same_way_step (u.x -ℤ m.x) (u.y -ℤ m.y) (w.x -ℤ m.x) (w.y -ℤ m.y) (shifted m u (h e ce).0) (shifted m w (h f cf).1)
      (omega (arith, linear, s, turn_is u m w, mul_comm (w.x -ℤ m.x) (u.y -ℤ m.y))),
)
  where
    e : Segment
    e = record { a = u; b = m }

    f : Segment
    f = record { a = m; b = w }

    back : run_to e w ≡ neg_ℤ ((u.x -ℤ m.x) *ℤ (w.x -ℤ m.x) +ℤ (u.y -ℤ m.y) *ℤ (w.y -ℤ m.y))
    back = back_step u.x u.y m.x m.y w.x w.y
