-- Edges that go on from where another ends, and edges beyond one side of a box.
use Rattle.std.proofs.Common.{◌≡◌, sym, ap, ◌∙◌, arith, inl, inr}
use Rattle.std.specs.Prelude.{ℤ, pos, ◌+ℤ◌, ◌*ℤ◌, ◌-ℤ◌, ◌<ℤ◌, ◌≤ℤ◌, ◌≢◌, ◌⊎◌, true, neg_ℤ}
use Rattle.std.specs.Int.{int_min, int_max}
use Rattle.std.proofs.lemmas.Int.{clamps, to_z-of_z}
use mir.Syntax.{w64}
use Rattle.rd_plane.specs.Grid.{IsInGrid}
use Rattle.rd_plane.specs.Bounds.{Box, LiesInBox}
use Rattle.rd_plane.specs.Plane.{Vertex, Segment, Point, point_of, on, side, is_at}
use Rattle.rd_plane.proofs.Polynomials.{linear, expanded, by_sign, mul-lt, mul-zero, neg-mul, zero-mul, zero_from_mul}
use Rattle.rd_plane.proofs.Reading.{read, x_fits, y_fits}
use Rattle.rd_plane.proofs.Touching.{On-from_on}
use Rattle.rd_plane.proofs.Through.{at_b, is_at-same}
use Rattle.rd_plane.proofs.Sides.{heading}
use Rattle.rd_plane.proofs.Along.{Weighs, weighs, side-weighs}
use Rattle.rd_plane.proofs.FreePoint.{side-own_b}

-- n lies between m and k, and is neither
abbrev pub Between : ℤ → ℤ → ℤ → Type 0
Between m n k = ((m <ℤ n) × (n <ℤ k)) ⊎ ((k <ℤ n) × (n <ℤ m))

-- where a coordinate goes on, a common point has that of the shared end
shared : (q z m n k : ℤ) → pos 0 <ℤ q → Between m n k → int_min (q *ℤ m) (q *ℤ n) ≤ℤ z → z ≤ℤ int_max (q *ℤ m) (q *ℤ n)
    → int_min (q *ℤ n) (q *ℤ k) ≤ℤ z → z ≤ℤ int_max (q *ℤ n) (q *ℤ k) → z ≡ q *ℤ n
shared q z m n k h b s t u v = elim b [
  | inl l ↦ omega (arith, linear, clamps, s, t, u, v, mul-lt q m n h l.0, mul-lt q n k h l.1)
  | inr l ↦ omega (arith, linear, clamps, s, t, u, v, mul-lt q k n h l.0, mul-lt q n m h l.1)
]

side_step : (ax ay bx by px py q : ℤ) → (bx -ℤ ax) *ℤ (py -ℤ q *ℤ ay) -ℤ (by -ℤ ay) *ℤ (px -ℤ q *ℤ ax) ≡ pos 0 → px ≡ q *ℤ bx
    → (bx -ℤ ax) *ℤ (py -ℤ q *ℤ by) ≡ pos 0
side_step ax ay bx by px py q s h =
    let s1 = simp expanded at s in let h1 = simp expanded at (ap (λ t. by *ℤ t) h) in let h2 = simp expanded at (ap (λ t. ay *ℤ t) h) in
    simp expanded (omega (arith, linear, s1, h1, h2))

-- on the line of e, above or below its second end, and not upright: at that end
at_second : (p : Point) (e : Segment) → side p e ≡ pos 0 → p.px ≡ p.q *ℤ e.b.x → e.a.x ≢ e.b.x → p.py ≡ p.q *ℤ e.b.y
unfolding side
at_second p e s h n = let k = side_step e.a.x e.a.y e.b.x e.b.y p.px p.py p.q s h in by_sign (e.b.x -ℤ e.a.x)
    (λ l. omega (arith, linear, zero_from_mul (e.b.x -ℤ e.a.x) (p.py -ℤ p.q *ℤ e.b.y) l k))
    (λ l. absurd (n (omega (arith, linear))))
    (λ l. omega (
      arith,
      linear,
      zero_from_mul (neg_ℤ (e.b.x -ℤ e.a.x)) (p.py -ℤ p.q *ℤ e.b.y) (omega (arith, linear))
          (omega (arith, linear, neg-mul (e.b.x -ℤ e.a.x) (p.py -ℤ p.q *ℤ e.b.y), k)),
    ))

-- the same of coordinates as the code reads them
pub between_x : (a v b : Vertex) → IsInGrid a → IsInGrid v → IsInGrid b → Between (read a.x) (read v.x) (read b.x) → Between a.x v.x b.x
between_x a v b ha hv hb h = rw (to_z-of_z w64 a.x (x_fits a ha), to_z-of_z w64 v.x (x_fits v hv), to_z-of_z w64 b.x (x_fits b hb)) at h

pub between_y : (a v b : Vertex) → IsInGrid a → IsInGrid v → IsInGrid b → Between (read a.y) (read v.y) (read b.y) → Between a.y v.y b.y
between_y a v b ha hv hb h = rw (to_z-of_z w64 a.y (y_fits a ha), to_z-of_z w64 v.y (y_fits v hv), to_z-of_z w64 b.y (y_fits b hb)) at h

differ : (m n k : ℤ) → Between m n k → m ≢ n
differ m n k b q = elim b [
  | inl l ↦ omega (arith, linear, q, l.0)
  | inr l ↦ omega (arith, linear, q, l.1)
]

-- edges of which one goes on eastwards or westwards from the other's end
pub apart_in_x : (p : Point) (e f : Segment) → e.b ≡ f.a → Between e.a.x e.b.x f.b.x → on p e ≡ true → on p f ≡ true → is_at p e.b ≡ true
apart_in_x p e f s b oe of =
    let h = On-from_on p e oe in let k = On-from_on p f of in let sx = ap (λ (v : Vertex). v.x) s in
    let q = shared p.q p.px e.a.x e.b.x f.b.x p.positive b h.from_x h.to_x (rw sx k.from_x) (rw sx k.to_x) in
    is_at-same p e.b q (at_second p e h.straight q (differ e.a.x e.b.x f.b.x b))

-- or northwards or southwards
pub apart_in_y : (p : Point) (e f : Segment) → e.b ≡ f.a → Between e.a.y e.b.y f.b.y → on p e ≡ true → on p f ≡ true → is_at p e.b ≡ true
apart_in_y p e f s b oe of =
    let h = On-from_on p e oe in let k = On-from_on p f of in let sy = ap (λ (v : Vertex). v.y) s in
    let q = shared p.q p.py e.a.y e.b.y f.b.y p.positive b h.from_y h.to_y (rw sy k.from_y) (rw sy k.to_y) in
    is_at-same p e.b (at_b p e h.straight q (differ e.a.y e.b.y f.b.y b)) q

end_step : (w v u z a b q : ℤ) → pos 0 <ℤ w → u ≡ pos 0 → w *ℤ z ≡ v *ℤ a +ℤ u *ℤ b → w *ℤ q ≡ v +ℤ u → z ≡ q *ℤ a
end_step w v u z a b q h k s t =
    let t1 = simp expanded at (ap (λ y. a *ℤ y) t) in let k1 = ap (λ y. y *ℤ a) k in let k2 = ap (λ y. y *ℤ b) k in
    let n : w *ℤ (z -ℤ q *ℤ a) ≡ pos 0 = simp expanded (omega (arith, linear, s, t1, k1, k2, zero-mul a, zero-mul b)) in
    omega (arith, linear, zero_from_mul w (z -ℤ q *ℤ a) h n)

-- edges of which one turns off at the other's end
pub apart_by_turn : (p : Point) (e f : Segment) → f.a ≢ f.b → e.b ≡ f.a → side (point_of f.b) e ≢ pos 0 → on p e ≡ true → on p f ≡ true
    → is_at p e.b ≡ true
apart_by_turn p e f d s n oe of =
    let m : Weighs p f = weighs p f (heading f d) (On-from_on p f of) in
    let z : m.u *ℤ side (point_of f.b) e ≡ pos 0 = omega (
      arith,
      linear,
      side-weighs p e f m,
      ap (λ t. m.w *ℤ t) (On-from_on p e oe).straight,
      ap (λ t. m.v *ℤ t) (ap (λ v. side (point_of v) e) (sym s) ∙ side-own_b e),
      mul-zero m.w,
      mul-zero m.v,
    ) in
    let u : m.u ≡ pos 0 = by_sign m.u (λ l. absurd (n (zero_from_mul m.u (side (point_of f.b) e) l z))) (λ l. l)
    (λ l. absurd (omega (arith, linear, l, m.from_b))) in
    is_at-same p e.b (end_step m.w m.v m.u p.px f.a.x f.b.x p.q m.positive u m.in_x m.in_q ∙ ap (λ (v : Vertex). p.q *ℤ v.x) (sym s))
    (end_step m.w m.v m.u p.py f.a.y f.b.y p.q m.positive u m.in_y m.in_q ∙ ap (λ (v : Vertex). p.q *ℤ v.y) (sym s))

-- ---- beyond one side of a box
below : (q z m k low : ℤ) → pos 0 <ℤ q → (m <ℤ low) × (k <ℤ low) → z ≤ℤ int_max (q *ℤ m) (q *ℤ k) → (q *ℤ low) ≤ℤ z → ⊥
below q z m k low h b s t = omega (arith, linear, clamps, s, t, mul-lt q m low h b.0, mul-lt q k low h b.1)

above : (q z m k high : ℤ) → pos 0 <ℤ q → (high <ℤ m) × (high <ℤ k) → int_min (q *ℤ m) (q *ℤ k) ≤ℤ z → z ≤ℤ (q *ℤ high) → ⊥
above q z m k high h b s t = omega (arith, linear, clamps, s, t, mul-lt q high m h b.0, mul-lt q high k h b.1)

pub west_of : (box : Box) (e : Segment) → (e.a.x <ℤ box.low.x) × (e.b.x <ℤ box.low.x) → (p : Point) → on p e ≡ true → LiesInBox box p → ⊥
west_of box e b p o h = below p.q p.px e.a.x e.b.x box.low.x p.positive b (On-from_on p e o).to_x h.west

pub east_of : (box : Box) (e : Segment) → (box.high.x <ℤ e.a.x) × (box.high.x <ℤ e.b.x) → (p : Point) → on p e ≡ true → LiesInBox box p → ⊥
east_of box e b p o h = above p.q p.px e.a.x e.b.x box.high.x p.positive b (On-from_on p e o).from_x h.east

pub south_of : (box : Box) (e : Segment) → (e.a.y <ℤ box.low.y) × (e.b.y <ℤ box.low.y) → (p : Point) → on p e ≡ true → LiesInBox box p → ⊥
south_of box e b p o h = below p.q p.py e.a.y e.b.y box.low.y p.positive b (On-from_on p e o).to_y h.south

pub north_of : (box : Box) (e : Segment) → (box.high.y <ℤ e.a.y) × (box.high.y <ℤ e.b.y) → (p : Point) → on p e ≡ true → LiesInBox box p → ⊥
north_of box e b p o h = above p.q p.py e.a.y e.b.y box.high.y p.positive b (On-from_on p e o).from_y h.north

-- the same tests of coordinates as the code reads them
pub below_x : (a b v : Vertex) → IsInGrid a → IsInGrid b → IsInGrid v → (read a.x <ℤ read v.x) × (read b.x <ℤ read v.x) → (a.x <ℤ v.x) × (b.x <ℤ v.x)
below_x a b v ha hb hv h = rw (to_z-of_z w64 a.x (x_fits a ha), to_z-of_z w64 b.x (x_fits b hb), to_z-of_z w64 v.x (x_fits v hv)) at h

pub above_x : (a b v : Vertex) → IsInGrid a → IsInGrid b → IsInGrid v → (read v.x <ℤ read a.x) × (read v.x <ℤ read b.x) → (v.x <ℤ a.x) × (v.x <ℤ b.x)
above_x a b v ha hb hv h = rw (to_z-of_z w64 a.x (x_fits a ha), to_z-of_z w64 b.x (x_fits b hb), to_z-of_z w64 v.x (x_fits v hv)) at h

pub below_y : (a b v : Vertex) → IsInGrid a → IsInGrid b → IsInGrid v → (read a.y <ℤ read v.y) × (read b.y <ℤ read v.y) → (a.y <ℤ v.y) × (b.y <ℤ v.y)
below_y a b v ha hb hv h = rw (to_z-of_z w64 a.y (y_fits a ha), to_z-of_z w64 b.y (y_fits b hb), to_z-of_z w64 v.y (y_fits v hv)) at h

pub above_y : (a b v : Vertex) → IsInGrid a → IsInGrid b → IsInGrid v → (read v.y <ℤ read a.y) × (read v.y <ℤ read b.y) → (v.y <ℤ a.y) × (v.y <ℤ b.y)
above_y a b v ha hb hv h = rw (to_z-of_z w64 a.y (y_fits a ha), to_z-of_z w64 b.y (y_fits b hb), to_z-of_z w64 v.y (y_fits v hv)) at h
