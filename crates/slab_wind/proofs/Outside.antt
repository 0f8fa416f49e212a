-- A point outside a box that holds edges is wound by them 0 times, and so is one on its east or north side.
use Rattle.std.proofs.Common.{◌≡◌, refl, sym, ◌∙◌, arith, List, [], ◌∷◌}
use Rattle.std.specs.Prelude.{ℤ, pos, ◌+ℤ◌, ◌-ℤ◌, ◌*ℤ◌, ◌<ℤ◌, ◌≤ℤ◌, neg_ℤ, true, false, cond, int_lt, IsTrue}
use Rattle.std.specs.List.{AllByRecursion}
use Rattle.std.proofs.lemmas.Bool.{both_ways}
use Rattle.std.proofs.lemmas.Int.{by_lt_z}
use Rattle.std.proofs.lemmas.List.Elements.{recursion_from_All}
use Rattle.rd_plane.specs.Bounds.{Box, BeginsBefore, LiesInBox, LiesWithin, HaveCommonPoint, Overlap}
use Rattle.rd_plane.specs.EdgeBoxes.{HoldsEdge, HoldsEdges}
use Rattle.rd_plane.specs.Jump.{EndsBalance}
use Rattle.rd_plane.specs.Plane.{Vertex, Segment, Point, side, cross, wind, lies_in}
use Rattle.rd_plane.proofs.Crossing.{cross_above, cross_below, cross_left_of_rising, cross_right_of_rising, cross_right_of_falling, cross_left_of_falling}
use Rattle.rd_plane.proofs.Jumping.{total, begins, ends, same_total, points-begins, points-ends}
use Rattle.rd_plane.proofs.Polynomials.{linear, expanded, mul-pos, mul-nonneg, mul-le, mul-neg_neg, mul-pos_neg, lt_from_mul, pos_from_mul, neg_from_mul, one-mul}
use Rattle.rd_plane.proofs.Winding.{lies_in-zero}
use Rattle.slab_wind.specs.Sharing.{Share}

edge_step : (ax ay bx by px py q : ℤ)
    → (q *ℤ by -ℤ py) *ℤ (px -ℤ q *ℤ ax) +ℤ (py -ℤ q *ℤ ay) *ℤ (px -ℤ q *ℤ bx) ≡ neg_ℤ
    (q *ℤ ((bx -ℤ ax) *ℤ (py -ℤ q *ℤ ay) -ℤ (by -ℤ ay) *ℤ (px -ℤ q *ℤ ax)))
edge_step ax ay bx by px py q = simp expanded (omega (arith, linear))

opened : (p : Point) (e : Segment)
    → (p.q *ℤ e.b.y -ℤ p.py) *ℤ (p.px -ℤ p.q *ℤ e.a.x) +ℤ (p.py -ℤ p.q *ℤ e.a.y) *ℤ (p.px -ℤ p.q *ℤ e.b.x) ≡ neg_ℤ (p.q *ℤ side p e)
unfolding side
opened p e = edge_step e.a.x e.a.y e.b.x e.b.y p.px p.py p.q

-- ---- not west of either end
record IsEast (p : Point) (e : Segment) : Type 0 where
  from_a : (p.q *ℤ e.a.x) ≤ℤ p.px
  from_b : (p.q *ℤ e.b.x) ≤ℤ p.px

east_none : (p : Point) (e : Segment) → IsEast p e → cross p e ≡ pos 0
east_none p e h = by_lt_z p.py (p.q *ℤ e.a.y)
    (λ a. by_lt_z p.py (p.q *ℤ e.b.y)
    (λ b. cross_below p e a b)
    (λ b. cross_left_of_falling p e b a (not_below p.q (side p e) p.positive
    (omega (
      arith,
      linear,
      opened p e,
      mul-nonneg (neg_ℤ (p.py -ℤ p.q *ℤ e.a.y)) (p.px -ℤ p.q *ℤ e.b.x) (omega (arith, linear)) (omega (arith, linear, h.from_b)),
      mul-nonneg (neg_ℤ (p.q *ℤ e.b.y -ℤ p.py)) (p.px -ℤ p.q *ℤ e.a.x) (omega (arith, linear)) (omega (arith, linear, h.from_a)),
      flip (p.py -ℤ p.q *ℤ e.a.y) (p.px -ℤ p.q *ℤ e.b.x),
      flip (p.q *ℤ e.b.y -ℤ p.py) (p.px -ℤ p.q *ℤ e.a.x),
    )))))
    (λ a. by_lt_z p.py (p.q *ℤ e.b.y)
    (λ b. cross_right_of_rising p e a b (not_above p.q (side p e) p.positive
    (omega (
      arith,
      linear,
      opened p e,
      mul-nonneg (p.q *ℤ e.b.y -ℤ p.py) (p.px -ℤ p.q *ℤ e.a.x) (omega (arith, linear)) (omega (arith, linear, h.from_a)),
      mul-nonneg (p.py -ℤ p.q *ℤ e.a.y) (p.px -ℤ p.q *ℤ e.b.x) (omega (arith, linear)) (omega (arith, linear, h.from_b)),
    ))))
    (λ b. cross_above p e a b))
  where
    flip : (m n : ℤ) → m *ℤ n ≡ neg_ℤ (neg_ℤ m *ℤ n)
    flip m n = simp expanded (omega (arith, linear))

    not_below : (m n : ℤ) → pos 0 <ℤ m → pos 0 ≤ℤ (m *ℤ n) → pos 0 ≤ℤ n
    not_below m n h k = by_lt_z n (pos 0) (λ l. absurd (omega (arith, linear, k, mul-pos_neg m n h l))) (λ l. l)

    not_above : (m n : ℤ) → pos 0 <ℤ m → (m *ℤ n) ≤ℤ pos 0 → n ≤ℤ pos 0
    not_above m n h k = by_lt_z (pos 0) n (λ l. absurd (omega (arith, linear, k, mul-pos m n h l))) (λ l. l)

-- ---- west of both ends
record IsWestOfEnds (p : Point) (e : Segment) : Type 0 where
  from_a : p.px <ℤ (p.q *ℤ e.a.x)
  from_b : p.px <ℤ (p.q *ℤ e.b.x)

-- 1 for a corner above the height of p, and 0 for any other
abbrev over : Point → Vertex → ℤ
over p v = cond (int_lt p.py (p.q *ℤ v.y)) (pos 1) (pos 0)

west_all : (p : Point) (e : Segment) → IsWestOfEnds p e → cross p e ≡ over p e.b -ℤ over p e.a
west_all p e h = by_lt_z p.py (p.q *ℤ e.a.y)
    (λ a. let x : int_lt p.py (p.q *ℤ e.a.y) ≡ true = grind (arith, linear) in by_lt_z p.py (p.q *ℤ e.b.y)
    (λ b. let y : int_lt p.py (p.q *ℤ e.b.y) ≡ true = grind (arith, linear) in cross_below p e a b ∙ sym (rw (x, y) refl))
    (λ b. let y : int_lt p.py (p.q *ℤ e.b.y) ≡ false = grind (arith, linear) in cross_right_of_falling p e b a (neg_from_mul p.q (side p e) p.positive
    (omega (
      arith,
      linear,
      opened p e,
      mul-neg_neg (p.py -ℤ p.q *ℤ e.a.y) (p.px -ℤ p.q *ℤ e.b.x) (omega (arith, linear)) (omega (arith, linear, h.from_b)),
      mul-nonneg (neg_ℤ (p.q *ℤ e.b.y -ℤ p.py)) (neg_ℤ (p.px -ℤ p.q *ℤ e.a.x)) (omega (arith, linear)) (omega (arith, linear, h.from_a)),
      flips (p.q *ℤ e.b.y -ℤ p.py) (p.px -ℤ p.q *ℤ e.a.x),
    ))) ∙ sym (rw (x, y) refl)))
    (λ a. let x : int_lt p.py (p.q *ℤ e.a.y) ≡ false = grind (arith, linear) in by_lt_z p.py (p.q *ℤ e.b.y)
    (λ b. let y : int_lt p.py (p.q *ℤ e.b.y) ≡ true = grind (arith, linear) in cross_left_of_rising p e a b (pos_from_mul p.q (side p e) p.positive
    (omega (
      arith,
      linear,
      opened p e,
      mul-pos_neg (p.q *ℤ e.b.y -ℤ p.py) (p.px -ℤ p.q *ℤ e.a.x) (omega (arith, linear)) (omega (arith, linear, h.from_a)),
      mul-nonneg (p.py -ℤ p.q *ℤ e.a.y) (neg_ℤ (p.px -ℤ p.q *ℤ e.b.x)) (omega (arith, linear)) (omega (arith, linear, h.from_b)),
      flip (p.py -ℤ p.q *ℤ e.a.y) (p.px -ℤ p.q *ℤ e.b.x),
    ))) ∙ sym (rw (x, y) refl))
    (λ b. let y : int_lt p.py (p.q *ℤ e.b.y) ≡ false = grind (arith, linear) in cross_above p e a b ∙ sym (rw (x, y) refl)))
  where
    flip : (m n : ℤ) → m *ℤ neg_ℤ n ≡ neg_ℤ (m *ℤ n)
    flip m n = simp expanded (omega (arith, linear))

    flips : (m n : ℤ) → neg_ℤ m *ℤ neg_ℤ n ≡ m *ℤ n
    flips m n = simp expanded (omega (arith, linear))

west_sum : (p : Point) (es : List Segment) → AllByRecursion (IsWestOfEnds p) es
    → wind p es ≡ total (over p) (ends es) -ℤ total (over p) (begins es)
unfolding wind total begins ends
west_sum p [] h = refl
west_sum p (e ∷ es) h = omega (arith, linear, west_all p e h.0, west_sum p es h.1)

east_sum : (p : Point) (es : List Segment) → AllByRecursion (IsEast p) es → wind p es ≡ pos 0
unfolding wind
east_sum p [] h = refl
east_sum p (e ∷ es) h = omega (arith, linear, east_none p e h.0, east_sum p es h.1)

low_sum : (p : Point) (es : List Segment) → AllByRecursion (λ e. (p.py <ℤ (p.q *ℤ e.a.y)) × (p.py <ℤ (p.q *ℤ e.b.y))) es → wind p es ≡ pos 0
unfolding wind
low_sum p [] h = refl
low_sum p (e ∷ es) h = omega (arith, linear, cross_below p e h.0.0 h.0.1, low_sum p es h.1)

high_sum : (p : Point) (es : List Segment) → AllByRecursion (λ e. ((p.q *ℤ e.a.y) ≤ℤ p.py) × ((p.q *ℤ e.b.y) ≤ℤ p.py)) es
    → wind p es ≡ pos 0
unfolding wind
high_sum p [] h = refl
high_sum p (e ∷ es) h = omega (arith, linear, cross_above p e h.0.0 h.0.1, high_sum p es h.1)

-- ---- all sides
every : (P Q : Segment → Type 0) (es : List Segment) → ((e : Segment) → P e → Q e) → AllByRecursion P es → AllByRecursion Q es
every P Q [] f h = tt
every P Q (e ∷ es) f h = (f e h.0, every P Q es f h.1)

past : (q low v : ℤ) → pos 0 ≤ℤ q → (pos 1 *ℤ low) ≤ℤ v → (q *ℤ low) ≤ℤ (q *ℤ v)
past q low v h k = mul-le q low v h (omega (arith, linear, k, one-mul low))

short : (q v high : ℤ) → pos 0 ≤ℤ q → v ≤ℤ (pos 1 *ℤ high) → (q *ℤ v) ≤ℤ (q *ℤ high)
short q v high h k = mul-le q v high h (omega (arith, linear, k, one-mul high))

-- it is wound 0 times unless it lies in the box, and not on its east or north side
wound_within : (box : Box) (es : List Segment) (p : Point) → HoldsEdges box es → EndsBalance es → (wind p es ≡ pos 0 → ⊥)
    → LiesWithin box p
wound_within box es p h b n = record {
  west = by_lt_z p.px (p.q *ℤ box.low.x) (λ k. absurd (n (west_none (every (HoldsEdge box) (IsWestOfEnds p) es
      (λ e t. record {
        from_a = omega (arith, linear, k, past p.q box.low.x e.a.x some t.0.west);
        from_b = omega (arith, linear, k, past p.q box.low.x e.b.x some t.1.west);
      }) held)))) (λ k. k);
  east = by_lt_z p.px (p.q *ℤ box.high.x) (λ k. k) (λ k. absurd (n (east_sum p es (every (HoldsEdge box) (IsEast p) es
      (λ e t. record {
        from_a = omega (arith, linear, k, short p.q e.a.x box.high.x some t.0.east);
        from_b = omega (arith, linear, k, short p.q e.b.x box.high.x some t.1.east);
      }) held))));
  south = by_lt_z p.py (p.q *ℤ box.low.y) (λ k. absurd (n (low_sum p es (every (HoldsEdge box)
      (λ e. (p.py <ℤ (p.q *ℤ e.a.y)) × (p.py <ℤ (p.q *ℤ e.b.y))) es (λ e t. (
        omega
            (arith, linear, k, past p.q box.low.y e.a.y some t.0.south),
        omega (arith, linear, k, past p.q box.low.y e.b.y some t.1.south),
      )) held)))) (λ k. k);
  north = by_lt_z p.py (p.q *ℤ box.high.y) (λ k. k) (λ k. absurd (n (high_sum p es (every (HoldsEdge box)
      (λ e. ((p.q *ℤ e.a.y) ≤ℤ p.py) × ((p.q *ℤ e.b.y) ≤ℤ p.py)) es (λ e t. (
        omega
            (arith, linear, k, short p.q e.a.y box.high.y some t.0.north),
        omega (arith, linear, k, short p.q e.b.y box.high.y some t.1.north),
      )) held))));
}
  where
    some : pos 0 ≤ℤ p.q
    some = omega (arith, linear, p.positive)

    held : AllByRecursion (HoldsEdge box) es
    held = recursion_from_All (HoldsEdge box) es h

    west_none : AllByRecursion (IsWestOfEnds p) es → wind p es ≡ pos 0
    west_none w = omega (
      arith,
      linear,
      west_sum p es w,
      same_total (over p) (begins es) (ends es) (λ v. points-begins v es ∙ b v ∙ sym (points-ends v es)),
    )

-- so does a point that a shape covers
covered_within : (box : Box) (es : List Segment) (p : Point) → HoldsEdges box es → EndsBalance es → IsTrue (lies_in p es) → LiesWithin box p
covered_within box es p h b k = wound_within box es p h b (λ z. both_ways (lies_in p es) (lies_in-zero p es z) k)

-- a box that has a point begins before one that has it ends
begins_before : (box other : Box) (p : Point) → LiesWithin box p → LiesWithin other p → BeginsBefore box other
begins_before box other p h k = (
  lt_from_mul p.q box.low.x other.high.x p.positive (omega (arith, linear, h.west, k.east)),
  lt_from_mul p.q box.low.y other.high.y p.positive (omega (arith, linear, h.south, k.north)),
)

-- shapes that share a point have boxes that overlap
pub boxes_overlap : (box other : Box) (es fs : List Segment) → HoldsEdges box es → HoldsEdges other fs → EndsBalance es → EndsBalance fs
    → Share es fs → Overlap box other
boxes_overlap box other es fs h k b c s = (begins_before box other s.0 first second, begins_before other box s.0 second first)
  where
    first : LiesWithin box s.0
    first = covered_within box es s.0 h b s.1.in_first

    second : LiesWithin other s.0
    second = covered_within other fs s.0 k c s.1.in_second

-- and so a common point
pub boxes_share : (box other : Box) (es fs : List Segment) → HoldsEdges box es → HoldsEdges other fs → EndsBalance es → EndsBalance fs
    → Share es fs → HaveCommonPoint box other
boxes_share box other es fs h k b c s = (
  s.0,
  in_box box s.0 (covered_within box es s.0 h b s.1.in_first),
  in_box other s.0 (covered_within other fs s.0 k c s.1.in_second),
)
  where
    in_box : (b : Box) (p : Point) → LiesWithin b p → LiesInBox b p
    in_box b p w = record { west = w.west; east = omega (arith, linear, w.east); south = w.south; north = omega (arith, linear, w.north) }
