-- A map has one explanation.
use Rattle.std.proofs.Common.{◌≡◌, ℕ, refl, sym, ap, ◌∙◌, arith, ◌%◌, inl, inr, List, [], ◌∷◌, subst}
use Rattle.std.specs.Prelude.{ℤ, pos, ◌+ℤ◌, ◌-ℤ◌, ◌*ℤ◌, ◌<ℤ◌, ◌≤ℤ◌, ◌==◌, Bool, true, false, cond, Option, Some, None}
use Rattle.std.specs.List.{Contains, count_by}
use Rattle.std.specs.Ordering.{ordering_then}
use Rattle.std.specs.declared.cmp.Ordering.{Ordering}
use Rattle.std.specs.declared.cmp.Ordering.TheVariants.{Less, Equal, Greater}
use Rattle.std.proofs.lemmas.Bool.{both_ways}
use Rattle.std.proofs.lemmas.Int.{by_lt_z, ints}
use Rattle.std.proofs.lemmas.List.Elements.{All-contains, All-from_recursion}
use Rattle.std.proofs.lemmas.List.Sums.{sum_by-cons}
use Rattle.rd_plane.specs.AtHeight.{IsHalfWay, x_cmp}
use Rattle.rd_plane.specs.Covering.{border, cover_count, covers, covers_any}
use Rattle.rd_plane.specs.Frac.{Frac, SamePoint, StandsFor}
use Rattle.rd_plane.specs.Order.{IsLeast, segment_cmp, segment_equal}
use Rattle.rd_plane.specs.Plane.{Vertex, Segment, Point, is_crossed, lies_in, on, off}
use Rattle.rd_plane.specs.Shapes.{shape_edges}
use Rattle.rd_plane.proofs.Polynomials.{linear, expanded, mul-lt, mul-le, mul-pos, mul_comm, zero_from_mul}
use Rattle.rd_plane.proofs.Scaled.{cross-same}
use Rattle.slab_wind.proofs.Moved.{off_all}
use Rattle.slab_wind.proofs.West.{less_from, less_to}
use Rattle.fault_point.specs.Faults.{Explains, HasHeight, IsCrossing, IsExplained, IsFirstWrong, IsStretch, IsWrong, LiesIn, pair_cmp}
use Rattle.fault_point.specs.declared.fault.Fault.{Fault}
use Rattle.fault_point.specs.declared.fault.Fault.TheVariants as fault
use Rattle.fault_point.proofs.First.{first_point}
use Rattle.rd_plane.proofs.Improving.{by_ordering, reverse_greater}
use Rattle.fault_point.proofs.Improving.{Pair, pair_total}
use Rattle.fault_point.proofs.OneFraction.{one_fraction}
use Rattle.fault_point.proofs.Wounded.{Shapes}

-- ---- one least pair
both_equal : (o p : Ordering) → ordering_then o p ≡ Equal → (o ≡ Equal) × (p ≡ Equal)
both_equal Less p h = cc
both_equal Equal p h = (refl, h)
both_equal Greater p h = cc

pair_equal : (x y : Pair) → pair_cmp x y ≡ Equal → x ≡ y
pair_equal x y h = let t = both_equal (segment_cmp x.0 y.0) (segment_cmp x.1 y.1) h in ap (λ (a : Segment). (a, x.1))
    (segment_equal x.0 y.0 t.0) ∙ ap (λ (b : Segment). (y.0, b)) (segment_equal x.1 y.1 t.1)

one_least : (P : Pair → Type 0) (x y : Pair) → IsLeast pair_cmp P x → IsLeast pair_cmp P y → x ≡ y
one_least P x y h k = by_ordering (pair_cmp x y)
    (λ o. absurd (k.least x h.has o))
    (λ o. pair_equal x y o)
    (λ o. absurd (h.least y k.has (pair_total.antisymm y x ∙ reverse_greater (pair_cmp x y) o)))

-- ---- one stretch
abbrev ex : Point → Point → Type 0
ex p r = p.px *ℤ r.q ≡ r.px *ℤ p.q

cycle : (mx mq tx tq fx fq : ℤ) → pos 0 <ℤ mq → pos 0 <ℤ tq → pos 0 <ℤ fq → (mx *ℤ tq) <ℤ (tx *ℤ mq) → (tx *ℤ fq) ≤ℤ (fx *ℤ tq)
    → (fx *ℤ mq) <ℤ (mx *ℤ fq) → ⊥
cycle mx mq tx tq fx fq hm ht hf a b c = let x = simp expanded at (mul-lt fq (mx *ℤ tq) (tx *ℤ mq) hf a) in let y = simp expanded at
    (mul-le mq (tx *ℤ fq) (fx *ℤ tq) (omega (arith, linear, hm)) b) in
    let z = simp expanded at (mul-lt tq (fx *ℤ mq) (mx *ℤ fq) ht c) in omega (arith, linear, x, y, z)

-- f is at the x of g, and west of t
moved_west : (fx fq gx gq tx tq : ℤ) → pos 0 <ℤ fq → pos 0 <ℤ gq → pos 0 <ℤ tq → fx *ℤ gq ≡ gx *ℤ fq → (fx *ℤ tq) <ℤ (tx *ℤ fq)
    → (tx *ℤ gq) ≤ℤ (gx *ℤ tq) → ⊥
moved_west fx fq gx gq tx tq hf hg ht e a b = let x = simp expanded at (mul-lt gq (fx *ℤ tq) (tx *ℤ fq) hg a) in let y = simp expanded at
    (mul-le fq (tx *ℤ gq) (gx *ℤ tq) (omega (arith, linear, hf)) b) in
    let z = simp expanded at (ap (λ u. u *ℤ tq) e) in omega (arith, linear, x, y, z)

not_on : (area parts : Shapes) (p : Point) (e : Segment) → off p (border area parts) ≡ true → Contains (border area parts) e → on p e ≡ true
    → ⊥
not_on area parts p e o c h = both_ways (on p e) (All-contains (λ f. on p f ≡ false) (border area parts) e
    (All-from_recursion (λ f. on p f ≡ false) (border area parts) (off_all p (border area parts) o)) c) h

-- a stretch of wrong points, the leftmost of its height
record Leftmost (area parts : Shapes) (y : ℤ) (from to : Point) : Type 0 where
  stretch : IsStretch y (border area parts) from to
  leftmost : (p : Point) → IsWrong area parts p → HasHeight y p → x_cmp from p ≡ Less
  inner : Point
  lies : LiesIn y from to inner
  wrong : IsWrong area parts inner

no_west : (area parts : Shapes) (y : ℤ) (f t g u : Point) → Leftmost area parts y f t → Leftmost area parts y g u
    → (f.px *ℤ g.q) <ℤ (g.px *ℤ f.q) → ⊥
no_west area parts y f t g u a b l = by_lt_z (g.px *ℤ t.q) (t.px *ℤ g.q)
    (λ k. not_on area parts g b.stretch.from_edge.0 (a.stretch.free g (record {
      height = b.stretch.from_edge.2.height;
      east = less_to (f.px *ℤ g.q) (g.px *ℤ f.q) l;
      west = less_to (g.px *ℤ t.q) (t.px *ℤ g.q) k;
    })) b.stretch.from_edge.1
    b.stretch.from_edge.2.on_edge)
    (λ k. cycle a.inner.px a.inner.q t.px t.q g.px g.q a.inner.positive t.positive g.positive
    (less_from (a.inner.px *ℤ t.q) (t.px *ℤ a.inner.q) a.lies.west) k
    (less_from (g.px *ℤ a.inner.q) (a.inner.px *ℤ g.q) (b.leftmost a.inner a.wrong a.lies.height)))

equal_from : (m n : ℤ) → (m <ℤ n → ⊥) → (n <ℤ m → ⊥) → m ≡ n
equal_from m n h k = by_lt_z m n (λ l. absurd (h l)) (λ l. by_lt_z n m (λ o. absurd (k o)) (λ o. omega (arith, linear, l, o)))

same_from : (area parts : Shapes) (y : ℤ) (f t g u : Point) → Leftmost area parts y f t → Leftmost area parts y g u → ex f g
same_from area parts y f t g u a b
    = equal_from (f.px *ℤ g.q) (g.px *ℤ f.q) (no_west area parts y f t g u a b) (no_west area parts y g u f t b a)

no_short : (area parts : Shapes) (y : ℤ) (f t g u : Point) → Leftmost area parts y f t → Leftmost area parts y g u → ex f g
    → (t.px *ℤ u.q) <ℤ (u.px *ℤ t.q)
    → ⊥
no_short area parts y f t g u a b e l = by_lt_z (g.px *ℤ t.q) (t.px *ℤ g.q)
    (λ k. not_on area parts t a.stretch.to_edge.0 (b.stretch.free t (record {
      height = a.stretch.to_edge.2.height;
      east = less_to (g.px *ℤ t.q) (t.px *ℤ g.q) k;
      west = less_to (t.px *ℤ u.q) (u.px *ℤ t.q) l;
    })) a.stretch.to_edge.1
    a.stretch.to_edge.2.on_edge)
    (λ k. moved_west f.px f.q g.px g.q t.px t.q f.positive g.positive t.positive e (less_from (f.px *ℤ t.q) (t.px *ℤ f.q) a.stretch.wide) k)

same_to : (area parts : Shapes) (y : ℤ) (f t g u : Point) → Leftmost area parts y f t → Leftmost area parts y g u → ex t u
same_to area parts y f t g u a b = let e = same_from area parts y f t g u a b in equal_from (t.px *ℤ u.q) (u.px *ℤ t.q)
    (no_short area parts y f t g u a b e) (no_short area parts y g u f t b a (sym e))

-- ---- one middle
twice : (m : ℤ) → pos 2 *ℤ m ≡ m +ℤ m
twice m = omega (arith, ints)

cancelled : (k a b : ℤ) → pos 0 <ℤ k → k *ℤ a ≡ k *ℤ b → a ≡ b
cancelled k a b p e = let z : k *ℤ (a -ℤ b) ≡ pos 0 = simp expanded (omega (arith, linear, e)) in omega
    (arith, linear, zero_from_mul k (a -ℤ b) p z)

-- the first end in other numbers
first_moved : (px pq gx gq tx tq n d : ℤ) → pos 0 <ℤ gq → px *ℤ gq ≡ gx *ℤ pq → (gq *ℤ tq +ℤ gq *ℤ tq) *ℤ n ≡ (gx *ℤ tq +ℤ tx *ℤ gq) *ℤ d
    → (pq *ℤ tq +ℤ pq *ℤ tq) *ℤ n ≡ (px *ℤ tq +ℤ tx *ℤ pq) *ℤ d
first_moved px pq gx gq tx tq n d h e k = cancelled gq ((pq *ℤ tq +ℤ pq *ℤ tq) *ℤ n) ((px *ℤ tq +ℤ tx *ℤ pq) *ℤ d) h
    (let a = simp expanded at (ap (λ t. pq *ℤ t) k) in let b = simp expanded at (ap (λ t. t *ℤ (tq *ℤ d)) e) in simp expanded
    (omega (arith, linear, a, b)))

flipped : (px pq tx tq n d : ℤ) → (pq *ℤ tq +ℤ pq *ℤ tq) *ℤ n ≡ (px *ℤ tq +ℤ tx *ℤ pq) *ℤ d
    → (tq *ℤ pq +ℤ tq *ℤ pq) *ℤ n ≡ (tx *ℤ pq +ℤ px *ℤ tq) *ℤ d
flipped px pq tx tq n d h = let a = simp expanded at h in simp expanded (omega (arith, linear, a))

one_ratio : (D S n d m e : ℤ) → pos 0 <ℤ D → D *ℤ n ≡ S *ℤ d → D *ℤ m ≡ S *ℤ e → n *ℤ e ≡ m *ℤ d
one_ratio D S n d m e h a b =
    cancelled D (n *ℤ e) (m *ℤ d) h
    (let x = simp expanded at (ap (λ t. t *ℤ e) a) in let y = simp expanded at (ap (λ t. t *ℤ d) b) in simp expanded
    (omega (arith, linear, x, y)))

middle_plain : (y : ℤ) (p r : Point) (f : Frac) → IsHalfWay y p r f
    → (p.q *ℤ r.q +ℤ p.q *ℤ r.q) *ℤ f.x_num ≡ (p.px *ℤ r.q +ℤ r.px *ℤ p.q) *ℤ f.x_den
middle_plain y p r f h = ap (λ t. t *ℤ f.x_num) (sym (twice (p.q *ℤ r.q))) ∙ h.middle

one_middle : (y : ℤ) (p r s t : Point) (f g : Frac) → ex p s → ex r t → IsHalfWay y p r f → IsHalfWay y s t g
    → f.x_num *ℤ g.x_den ≡ g.x_num *ℤ f.x_den
one_middle y p r s t f g e k a b =
    one_ratio (p.q *ℤ r.q +ℤ p.q *ℤ r.q) (p.px *ℤ r.q +ℤ r.px *ℤ p.q) f.x_num f.x_den g.x_num g.x_den
    (omega (arith, linear, mul-pos p.q r.q p.positive r.positive)) (middle_plain y p r f a)
    (flipped r.px r.q p.px p.q g.x_num g.x_den (first_moved r.px r.q t.px t.q p.px p.q g.x_num g.x_den t.positive k
    (flipped p.px p.q t.px t.q g.x_num g.x_den
    (first_moved p.px p.q s.px s.q t.px t.q g.x_num g.x_den s.positive e (middle_plain y s t g b)))))

-- ---- one number of parts
stands_x : (px pq rx rq n d : ℤ) → pos 0 <ℤ d → px *ℤ d ≡ n *ℤ pq → rx *ℤ d ≡ n *ℤ rq → px *ℤ rq ≡ rx *ℤ pq
stands_x px pq rx rq n d h a b =
    cancelled d (px *ℤ rq) (rx *ℤ pq) h
    (let x = simp expanded at (ap (λ t. t *ℤ rq) a) in let y = simp expanded at (ap (λ t. t *ℤ pq) b) in simp expanded
    (omega (arith, linear, x, y)))

stands_y : (py pq ry rq y : ℤ) → pos 2 *ℤ py ≡ y *ℤ pq → pos 2 *ℤ ry ≡ y *ℤ rq → py *ℤ rq ≡ ry *ℤ pq
stands_y py pq ry rq y a b = let x = simp expanded at (ap (λ t. t *ℤ rq) (sym (twice py) ∙ a)) in let z = simp expanded at
    (ap (λ t. t *ℤ pq) (sym (twice ry) ∙ b)) in halved (py *ℤ rq) (ry *ℤ pq) (omega (arith, linear, x, z, mul_comm py rq, mul_comm ry pq))
  where
    halved : (m n : ℤ) → m +ℤ m ≡ n +ℤ n → m ≡ n
    halved m n h = omega (arith, ints, h)

same_stood : (f : Frac) (p r : Point) → pos 0 <ℤ f.x_den → StandsFor f p → StandsFor f r → SamePoint p r
same_stood f p r h a b
    = record { in_x = stands_x p.px p.q r.px r.q f.x_num f.x_den h a.in_x b.in_x; in_y = stands_y p.py p.q r.py r.q f.y_half a.in_y b.in_y }

abbrev one_if : Bool → ℕ
one_if b = cond b 1 0

same_crossed : (p r : Point) (es : List Segment) → SamePoint p r → count_by (is_crossed p) es ≡ count_by (is_crossed r) es
same_crossed p r [] s = refl
same_crossed p r (e ∷ es) s = let c : one_if (is_crossed p e) ≡ one_if (is_crossed r e) = rw (cross-same p r e s) refl in omega
    (arith, c, same_crossed p r es s, sum_by-cons (λ f. one_if (is_crossed p f)) e es, sum_by-cons (λ f. one_if (is_crossed r f)) e es)

same_covers : (p r : Point) (S : List (List Vertex)) → SamePoint p r → covers p S ≡ covers r S
unfolding lies_in
same_covers p r S s = ap (λ n. n % 2 == 1) (same_crossed p r (shape_edges S) s)

same_count : (p r : Point) (parts : Shapes) → SamePoint p r → cover_count p parts ≡ cover_count r parts
same_count p r [] s = refl
same_count p r (S ∷ parts) s = let c = ap one_if (same_covers p r S s) in omega
    (arith, c, same_count p r parts s, sum_by-cons (λ t. one_if (covers p t)) S parts, sum_by-cons (λ t. one_if (covers r t)) S parts)

same_any : (p r : Point) (parts : Shapes) → SamePoint p r → covers_any p parts ≡ covers_any r parts
same_any p r [] s = refl
same_any p r (S ∷ parts) s = rw (same_covers p r S s, same_any p r parts s) refl

-- ---- one point
no_lower : (area parts : Shapes) (f g : Frac) (m n : ℕ) (b c : Bool) → IsExplained area parts f m b → IsExplained area parts g n c
    → f.y_half ≤ℤ g.y_half
no_lower area parts f g m n b c h k = h.first.least k.at g.y_half k.wrong k.first.odd k.stands.in_y

leftmost_of : (area parts : Shapes) (f : Frac) (y : ℤ) → f.y_half ≡ y → (h : IsFirstWrong area parts f) → Leftmost area parts y h.from h.to
leftmost_of area parts f y q h = let p = first_point area parts f h in record {
  stretch = subst (λ y. IsStretch y (border area parts) h.from h.to) q h.stretch;
  leftmost = λ r w hr. h.leftmost r w (subst (λ y. HasHeight y r) (sym q) hr);
  inner = p.0;
  lies = subst (λ y. LiesIn y h.from h.to p.0) q p.3;
  wrong = p.2;
}

one_point : (area parts : Shapes) (f g : Frac) (m n : ℕ) (b c : Bool) → IsExplained area parts f m b → IsExplained area parts g n c
    → fault.Point f m b ≡ fault.Point g n c
one_point area parts f g m n b c h k =
    ap (λ f. fault.Point f m b) same ∙ ap (λ m. fault.Point g m b) (h.counted ∙ same_count h.at k.at parts here ∙ sym k.counted)
    ∙ ap (λ b. fault.Point g n b) (h.within ∙ same_any h.at k.at area here ∙ sym k.within)
  where
    y : f.y_half ≡ g.y_half
    y = omega (arith, linear, no_lower area parts f g m n b c h k, no_lower area parts g f n m c b k h)

    first : Leftmost area parts g.y_half h.first.from h.first.to
    first = leftmost_of area parts f g.y_half y h.first

    second : Leftmost area parts g.y_half k.first.from k.first.to
    second = leftmost_of area parts g g.y_half refl k.first

    same : f ≡ g
    same
        = one_fraction f g y
        (one_middle g.y_half h.first.from h.first.to k.first.from k.first.to f g
        (same_from area parts g.y_half h.first.from h.first.to k.first.from k.first.to first second)
        (same_to area parts g.y_half h.first.from h.first.to k.first.from k.first.to first second)
        (subst (λ y. IsHalfWay y h.first.from h.first.to f) y h.first.middle) k.first.middle) h.lowest k.lowest

    here : SamePoint h.at k.at
    here = same_stood g h.at k.at k.lowest.some (subst (λ f. StandsFor f h.at) same h.stands) k.stands

-- ---- one explanation
pub one_explanation : (area parts : Shapes) (r s : Option Fault) → Explains area parts r → Explains area parts s → r ≡ s
one_explanation area parts None None h k = refl
one_explanation area parts None (Some s) h (inl k) = absurd (h.0 k.0 k.1.has)
one_explanation area parts None (Some s) h (inr k) = let w = k.1.3.wrong in absurd (w.wrong (h.1 k.1.3.at w.off_border))
one_explanation area parts (Some r) None (inl h) k = absurd (k.0 h.0 h.1.has)
one_explanation area parts (Some r) None (inr h) k = let w = h.1.3.wrong in absurd (w.wrong (k.1 h.1.3.at w.off_border))
one_explanation area parts (Some r) (Some s) (inl h) (inl k) =
    ap Some (h.2 ∙ ap (λ (x : Pair). fault.Crossing x.0 x.1) (one_least (IsCrossing (border area parts)) h.0 k.0 h.1 k.1) ∙ sym k.2)
one_explanation area parts (Some r) (Some s) (inl h) (inr k) = absurd (k.0 h.0 h.1.has)
one_explanation area parts (Some r) (Some s) (inr h) (inl k) = absurd (h.0 k.0 k.1.has)
one_explanation area parts (Some r) (Some s) (inr h) (inr k) =
    ap Some (h.1.4 ∙ one_point area parts h.1.0 k.1.0 h.1.1 k.1.1 h.1.2 k.1.2 h.1.3 k.1.3 ∙ sym k.1.4)
