-- The first edge on the way from a point to an edge.
use Rattle.std.proofs.Common.{◌≡◌, ℕ, sym, ap, ◌∙◌, arith, ◌≤◌, inl, inr, List, [], ◌∷◌, suc}
use Rattle.std.specs.Prelude.{ℤ, pos, ◌+ℤ◌, ◌-ℤ◌, ◌*ℤ◌, ◌<ℤ◌, ◌≤ℤ◌, neg_ℤ, false, ◌≢◌, ◌⊎◌, unsigned_abs}
use Rattle.std.specs.List.{AllByRecursion, Contains}
use Rattle.std.proofs.lemmas.Bool.{cases_Bool}
use Rattle.std.proofs.lemmas.Int.{by_lt_z}
use Rattle.rd_plane.specs.Plane.{Vertex, Segment, Point, point_of, side, wind, is_end, reversed}
use Rattle.rd_plane.proofs.Polynomials.{linear, expanded, one-mul, mul-one, mul-zero, mul-pos, mul-pos_neg, mul-neg_pos, mul-nonneg, mul-neg, neg-mul, zero-mul, mul_comm, pos_from_mul, neg_from_mul, zero_from_mul, by_sign}
use Rattle.rd_plane.proofs.Crossing.{side-reversed}
use Rattle.rd_plane.proofs.Touching.{On, On-from_on, on_from_On, On-reversed}
use Rattle.rd_plane.proofs.Nearby.{Soon}
use Rattle.rd_plane.proofs.Apart.{on_end_a, on_end_b}
use Rattle.rd_plane.proofs.Means.{mean}
use Rattle.rd_plane.proofs.Sides.{Heading, heading}
use Rattle.rd_plane.proofs.FreePoint.{part_way, on-part_way, not_end, end_cases}
use Rattle.rd_plane.proofs.Members.{contains_head, contains_tail}
use Rattle.ring_law.proofs.Between.{det, det-side, det-turn, Within, within_on, side-within}
use Rattle.ring_law.proofs.Still.{Misses, still}
use Rattle.ring_law.proofs.Simple.{AreRingEdges, Inner, Parts}
use Rattle.ring_law.proofs.Ways.{some_weight, mix_positive, four_x, four_y, four_q}
use Rattle.ring_law.proofs.AlongEdge.{Whole}
use Rattle.ring_law.proofs.Dets.{det-within, det-same, det-first, det-flip, det-part, det-at, on_within}
use Rattle.ring_law.proofs.LastStep.{Last, last_step, last_near, last_between}
use Rattle.ring_law.proofs.FreeWay.{far, far_of, det-part_way, small, at_point}

-- ---- points before z on the way from p
pub record Before (p z t : Point) : Type 0 where
  pub between : Within p z t
  pub some : pos 0 <ℤ between.v

before_step : (w v u w1 v1 u1 x p y z : ℤ) → w *ℤ x ≡ v *ℤ p +ℤ u *ℤ y → w1 *ℤ y ≡ v1 *ℤ p +ℤ u1 *ℤ z
    → (w *ℤ w1) *ℤ x ≡ (v *ℤ w1 +ℤ u *ℤ v1) *ℤ p +ℤ (u *ℤ u1) *ℤ z
before_step w v u w1 v1 u1 x p y z h k =
    let h1 = simp expanded at (ap (λ t. w1 *ℤ t) h) in let k1 = simp expanded at (ap (λ t. u *ℤ t) k) in simp expanded
    (omega (arith, linear, h1, k1))

before_from : (p z x t : Point) (k : Within p x t) (m : Within p z x) → pos 0 <ℤ (k.v *ℤ m.w +ℤ k.u *ℤ m.v) → Before p z t
before_from p z x t k m h = record {
  between = record {
    w = k.w *ℤ m.w;
    v = k.v *ℤ m.w +ℤ k.u *ℤ m.v;
    u = k.u *ℤ m.u;
    positive = mul-pos k.w m.w k.positive m.positive;
    from_a = omega (arith, linear, h);
    from_b = mul-nonneg k.u m.u k.from_b m.from_b;
    in_x = before_step k.w k.v k.u m.w m.v m.u t.px p.px x.px z.px k.in_x m.in_x;
    in_y = before_step k.w k.v k.u m.w m.v m.u t.py p.py x.py z.py k.in_y m.in_y;
    in_q = before_step k.w k.v k.u m.w m.v m.u t.q p.q x.q z.q k.in_q m.in_q;
  };
  some = h;
}

-- no point before z is on f
abbrev Keeps : Point → Point → Segment → Type 0
Keeps p z f = (t : Point) → Before p z t → On t f → ⊥

-- f cuts the way off at x
record Cuts (p z : Point) (f : Segment) : Type 0 where
  x : Point
  between : Within p z x
  some : pos 0 <ℤ between.u
  on_edge : On x f
  free : Keeps p x f

-- f lies on one side of the way
keeps_off : (p z : Point) (f : Segment) → Heading f → pos 0 <ℤ det p z (point_of f.a) → pos 0 <ℤ det p z (point_of f.b) → Keeps p z f
keeps_off p z f d h k t b o =
    let m = on_within t f d o in
    let c
    = mix_positive m.w m.v m.u _ _ (det p z t) m.positive m.from_a m.from_b (some_weight (point_of f.a) (point_of f.b) t m) h k
    (det-within p z (point_of f.a) (point_of f.b) t m) in
    omega (
      arith,
      linear,
      mul-pos b.between.w (det p z t) b.between.positive c,
      det-within p z p z t b.between,
      ap (λ y. b.between.v *ℤ y) (det-first p z),
      ap (λ y. b.between.u *ℤ y) (det-same p z),
      mul-zero b.between.v,
      mul-zero b.between.u,
    )

keeps_off_right : (p z : Point) (f : Segment) → Heading f → det p z (point_of f.a) <ℤ pos 0 → det p z (point_of f.b) <ℤ pos 0 → Keeps p z f
keeps_off_right p z f d h k t b o =
    let m = on_within t f d o in
    let c
    = mix_positive m.w m.v m.u (neg_ℤ (det p z (point_of f.a))) (neg_ℤ (det p z (point_of f.b))) (neg_ℤ (det p z t)) m.positive m.from_a
    m.from_b (some_weight (point_of f.a) (point_of f.b) t m) (omega (arith, linear)) (omega (arith, linear))
    (omega (
      arith,
      linear,
      det-within p z (point_of f.a) (point_of f.b) t m,
      mul-neg m.w (det p z t),
      mul-neg m.v (det p z (point_of f.a)),
      mul-neg m.u (det p z (point_of f.b)),
    )) in
    omega (
      arith,
      linear,
      mul-pos_neg b.between.w (det p z t) b.between.positive (omega (arith, linear)),
      det-within p z p z t b.between,
      ap (λ y. b.between.v *ℤ y) (det-first p z),
      ap (λ y. b.between.u *ℤ y) (det-same p z),
      mul-zero b.between.v,
      mul-zero b.between.u,
    )

-- p is left of f and z not right of it
keeps_left : (p z : Point) (f : Segment) → pos 0 <ℤ side p f → pos 0 ≤ℤ side z f → Keeps p z f
keeps_left p z f h k t b o = omega (
  arith,
  linear,
  o.straight,
  pos_from_mul b.between.w (side t f) b.between.positive
      (omega (
        arith,
        linear,
        side-within p z t f b.between,
        mul-pos b.between.v (side p f) b.some h,
        mul-nonneg b.between.u (side z f) b.between.from_b k,
      )),
)

meet_step : (B A T R a b r t : ℤ) → B *ℤ a -ℤ A *ℤ b ≡ T *ℤ r -ℤ R *ℤ t → pos 1 *ℤ (B *ℤ a +ℤ neg_ℤ A *ℤ b) ≡ neg_ℤ R *ℤ t +ℤ T *ℤ r
meet_step B A T R a b r t h = simp expanded (omega (arith, linear, h))

-- p is left of f and z right of it, and the way parts the ends of f
cuts : (p z : Point) (f : Segment) → pos 0 <ℤ side p f → side z f <ℤ pos 0 → det p z (point_of f.a) <ℤ pos 0
    → pos 0 <ℤ det p z (point_of f.b) → Cuts p z f
unfolding mean
cuts p z f h k l n = record {
  x = x;
  between = between;
  some = omega (arith, linear, det-side p f);
  on_edge = on_edge;
  free = keeps_left p x f h (omega (arith, linear, on_edge.straight));
}
  where
    A : pos 0 <ℤ neg_ℤ (det p z (point_of f.a))
    A = omega (arith, linear)

    B : pos 0 ≤ℤ det p z (point_of f.b)
    B = omega (arith, linear)

    x : Point
    x = mean (point_of f.a) (point_of f.b) (neg_ℤ (det p z (point_of f.a))) (det p z (point_of f.b)) A B

    on_edge : On x f
    on_edge = within_on x f (record {
      w = pos 1;
      v = det p z (point_of f.b);
      u = neg_ℤ (det p z (point_of f.a));
      positive = omega (arith, linear);
      from_a = B;
      from_b = omega (arith, linear);
      in_x = one-mul _;
      in_y = one-mul _;
      in_q = one-mul _;
    })

    between : Within p z x
    between = record {
      w = pos 1;
      v = neg_ℤ (det (point_of f.a) (point_of f.b) z);
      u = det (point_of f.a) (point_of f.b) p;
      positive = omega (arith, linear);
      from_a = omega (arith, linear, det-side z f);
      from_b = omega (arith, linear, det-side p f);
      in_x
          = meet_step (det p z (point_of f.b)) (det p z (point_of f.a)) (det (point_of f.a) (point_of f.b) p)
          (det (point_of f.a) (point_of f.b) z) f.a.x f.b.x z.px p.px (four_x (point_of f.a) (point_of f.b) p z);
      in_y
          = meet_step (det p z (point_of f.b)) (det p z (point_of f.a)) (det (point_of f.a) (point_of f.b) p)
          (det (point_of f.a) (point_of f.b) z) f.a.y f.b.y z.py p.py (four_y (point_of f.a) (point_of f.b) p z);
      in_q
          = meet_step (det p z (point_of f.b)) (det p z (point_of f.a)) (det (point_of f.a) (point_of f.b) p)
          (det (point_of f.a) (point_of f.b) z) (pos 1) (pos 1) z.q p.q (four_q (point_of f.a) (point_of f.b) p z);
    }

-- the way that parts the ends of f goes over f from left to right
not_back : {P : Type 0} (p z : Point) (f : Segment) → pos 0 <ℤ side p f → side z f <ℤ pos 0 → pos 0 <ℤ det p z (point_of f.a)
    → det p z (point_of f.b) <ℤ pos 0 → P
not_back p z f h k l n = absurd (omega (
  arith,
  linear,
  four_q (point_of f.a) (point_of f.b) p z,
  det-side p f,
  det-side z f,
  mul-one (det p z (point_of f.a)),
  mul-one (det p z (point_of f.b)),
  mul-pos (det (point_of f.a) (point_of f.b) p) z.q (omega (arith, linear, det-side p f)) z.positive,
  mul-neg_pos (det (point_of f.a) (point_of f.b) z) p.q (omega (arith, linear, det-side z f)) p.positive,
))

-- p on the line of f, whose ends the way parts: a point of f
on_step : (B A T R a b r t : ℤ) → B *ℤ a -ℤ A *ℤ b ≡ T *ℤ r -ℤ R *ℤ t → T ≡ pos 0 → neg_ℤ R *ℤ t ≡ B *ℤ a +ℤ neg_ℤ A *ℤ b
on_step B A T R a b r t h k = let z : T *ℤ r ≡ pos 0 = ap (λ y. y *ℤ r) k ∙ zero-mul r in omega
    (arith, linear, h, z, neg-mul R t, neg-mul A b)

on_line : (p z : Point) (f : Segment) → side p f ≡ pos 0 → det p z (point_of f.a) <ℤ pos 0 → pos 0 <ℤ det p z (point_of f.b) → On p f
on_line p z f h l n = within_on p f (record {
  w = neg_ℤ R;
  v = B;
  u = neg_ℤ A;
  positive = pos_from_mul p.q (neg_ℤ R) p.positive (omega (arith, linear, in_q, mul-one B, mul-one (neg_ℤ A), mul_comm p.q (neg_ℤ R)));
  from_a = omega (arith, linear);
  from_b = omega (arith, linear);
  in_x = on_step B A (det (point_of f.a) (point_of f.b) p) R f.a.x f.b.x z.px p.px (four_x (point_of f.a) (point_of f.b) p z)
      (det-side p f ∙ h);
  in_y = on_step B A (det (point_of f.a) (point_of f.b) p) R f.a.y f.b.y z.py p.py (four_y (point_of f.a) (point_of f.b) p z)
      (det-side p f ∙ h);
  in_q = in_q;
})
  where
    R : ℤ
    R = det (point_of f.a) (point_of f.b) z

    A : ℤ
    A = det p z (point_of f.a)

    B : ℤ
    B = det p z (point_of f.b)

    in_q : neg_ℤ R *ℤ p.q ≡ B *ℤ pos 1 +ℤ neg_ℤ A *ℤ pos 1
    in_q = on_step B A (det (point_of f.a) (point_of f.b) p) R (pos 1) (pos 1) z.q p.q (four_q (point_of f.a) (point_of f.b) p z)
        (det-side p f ∙ h)

-- p left of f: f cuts the way off, or does not meet it before z
decide_left : (p z : Point) (f : Segment) → Heading f → det p z (point_of f.a) ≢ pos 0 → det p z (point_of f.b) ≢ pos 0 → pos 0 <ℤ side p f
    → Keeps p z f ⊎ Cuts p z f
decide_left p z f d na nb h = by_lt_z (side z f) (pos 0)
    (λ k. by_sign (det p z (point_of f.a))
    (λ a. by_sign (det p z (point_of f.b)) (λ b. inl (keeps_off p z f d a b)) (λ b. absurd (nb b)) (λ b. not_back p z f h k a b))
    (λ a. absurd (na a))
    (λ a. by_sign (det p z (point_of f.b)) (λ b. inr (cuts p z f h k a b)) (λ b. absurd (nb b)) (λ b. inl (keeps_off_right p z f d a b))))
    (λ k. inl (keeps_left p z f h k))

turned_back : (p z : Point) (f : Segment) → Keeps p z (reversed f) ⊎ Cuts p z (reversed f) → Keeps p z f ⊎ Cuts p z f
turned_back p z f s = elim s [
  | inl k ↦ inl (λ t b o. k t b (On-reversed t f o))
  | inr c ↦ inr (record {
    x = c.x;
    between = c.between;
    some = c.some;
    on_edge = On-reversed c.x (reversed f) c.on_edge;
    free = λ t b o. c.free t b (On-reversed t f o);
  })
]

decide : (p z : Point) (f : Segment) → f.a ≢ f.b → (On p f → ⊥) → det p z (point_of f.a) ≢ pos 0 → det p z (point_of f.b) ≢ pos 0
    → Keeps p z f ⊎ Cuts p z f
decide p z f n off_f na nb = by_sign (side p f)
    (λ h. decide_left p z f (heading f n) na nb h)
    (λ h. by_sign (det p z (point_of f.a))
    (λ a. by_sign (det p z (point_of f.b)) (λ b. inl (keeps_off p z f (heading f n) a b)) (λ b. absurd (nb b))
    (λ b. absurd (off_f (On-reversed p (reversed f) (on_line p z (reversed f) (omega (arith, linear, side-reversed p f)) b a)))))
    (λ a. absurd (na a))
    (λ a. by_sign (det p z (point_of f.b)) (λ b. absurd (off_f (on_line p z f h a b))) (λ b. absurd (nb b))
    (λ b. inl (keeps_off_right p z f (heading f n) a b))))
    (λ h. turned_back p z f
    (decide_left p z (reversed f) (heading (reversed f) (λ q. n (sym q))) nb na (omega (arith, linear, side-reversed p f))))

-- z is an inner point of an edge, no corner stands on the straight line of the way to it, and before z it meets none of fs
pub record Hit (p : Point) (es fs : List Segment) : Type 0 where
  z : Point
  e : Segment
  of_edges : Contains es e
  at : Inner z e
  clear : (g : Segment) → Contains es g → (det p z (point_of g.a) ≢ pos 0) × (det p z (point_of g.b) ≢ pos 0)
  free : AllByRecursion (Keeps p z) fs

keeps_all : (p z x : Point) → ((t : Point) → Before p x t → Before p z t) → (fs : List Segment) → AllByRecursion (Keeps p z) fs
    → AllByRecursion (Keeps p x) fs
keeps_all p z x h [] k = tt
keeps_all p z x h (f ∷ fs) k = (λ t b o. k.0 t (h t b) o, keeps_all p z x h fs k.1)

part_clear : (p z x : Point) (v : Vertex) (m : Within p z x) → pos 0 <ℤ m.u → det p z (point_of v) ≢ pos 0 → det p x (point_of v) ≢ pos 0
part_clear p z x v m h n q
    = n (zero_from_mul m.u (det p z (point_of v)) h (sym (det-part p z x (point_of v) m) ∙ ap (λ y. m.w *ℤ y) q ∙ mul-zero m.w))

corner_free : (p z x : Point) (v : Vertex) (m : Within p z x) → det p z (point_of v) ≢ pos 0 → x.px ≡ x.q *ℤ v.x → x.py ≡ x.q *ℤ v.y → ⊥
corner_free p z x v m n h k = n (zero_from_mul x.q (det p z (point_of v)) x.positive (sym (det-at p z x v h k) ∙ flat))
  where
    flat : det p z x ≡ pos 0
    flat = zero_from_mul m.w (det p z x) m.positive (omega (
      arith,
      linear,
      det-within p z p z x m,
      ap (λ y. m.v *ℤ y) (det-first p z),
      ap (λ y. m.u *ℤ y) (det-same p z),
      mul-zero m.v,
      mul-zero m.u,
    ))

one_more : (p : Point) (es fs : List Segment) (f : Segment) → Contains es f → f.a ≢ f.b → (On p f → ⊥) → Hit p es fs → Hit p es (f ∷ fs)
one_more p es fs f cf n off_f h = elim (decide p h.z f n off_f (h.clear f cf).0 (h.clear f cf).1) [
  | inl k ↦ record { z = h.z; e = h.e; of_edges = h.of_edges; at = h.at; clear = h.clear; free = (k, h.free) }
  | inr c ↦ record {
    z = c.x;
    e = f;
    of_edges = cf;
    at = record { on_edge = on_from_On c.x f c.on_edge; no_end = inner c };
    clear
        = λ g cg. (part_clear p h.z c.x g.a c.between c.some (h.clear g cg).0, part_clear p h.z c.x g.b c.between c.some (h.clear g cg).1);
    free = (
      c.free,
      keeps_all p h.z c.x (λ t b. before_from p h.z c.x t b.between c.between (omega (
        arith,
        linear,
        mul-pos b.between.v c.between.w b.some c.between.positive,
        mul-nonneg b.between.u c.between.v b.between.from_b c.between.from_a,
      ))) fs h.free,
    );
  }
]
  where
    inner : (c : Cuts p h.z f) → is_end c.x f ≡ false
    inner c = elim (cases_Bool (is_end c.x f)) [
      | inr t ↦ t
      | inl t ↦ elim (end_cases c.x f t) [
        | inl q ↦ absurd (corner_free p h.z c.x f.a c.between (h.clear f cf).0 q.0 q.1)
        | inr q ↦ absurd (corner_free p h.z c.x f.b c.between (h.clear f cf).1 q.0 q.1)
      ]
    ]

hit_all : (p : Point) (es : List Segment) → AreRingEdges es → ((f : Segment) → Contains es f → On p f → ⊥) → (fs : List Segment)
    → ((f : Segment) → Contains fs f → Contains es f) → Hit p es [] → Hit p es fs
hit_all p es k o [] c h = h
hit_all p es k o (f ∷ fs) c h
    = one_more p es fs f (c f (contains_head f fs)) (k.differ f (c f (contains_head f fs))) (o f (c f (contains_head f fs)))
    (hit_all p es k o fs (λ g m. c g (contains_tail f g fs m)) h)

-- ---- what is seen from p
-- p is not on the straight line of the edge that is hit
not_along : (p : Point) (es : List Segment) → AreRingEdges es → (h : Hit p es es) → side p h.e ≢ pos 0
not_along p es k h s = (h.clear h.e h.of_edges).0 (zero_from_mul m.w (det p h.z a) m.positive (omega (
  arith,
  linear,
  ap (λ y. m.w *ℤ y) (det-turn a p h.z),
  det-within a p a b h.z m,
  ap (λ y. m.v *ℤ y) (det-first a p),
  ap (λ y. m.u *ℤ y) (det-flip a b p),
  ap (λ y. m.u *ℤ neg_ℤ y) (det-side p h.e),
  ap (λ y. m.u *ℤ neg_ℤ y) s,
  mul-zero m.v,
  mul-zero m.u,
)))
  where
    a : Point
    a = point_of h.e.a

    b : Point
    b = point_of h.e.b

    m : Within a b h.z
    m = on_within h.z h.e (heading h.e (k.differ h.e h.of_edges)) (On-from_on h.z h.e h.at.on_edge)

misses_last : (p z t : Point) → Last p z t → (fs : List Segment) → AllByRecursion (Keeps p z) fs → AllByRecursion (Misses p t) fs
misses_last p z t l [] k = tt
misses_last p z t l (f ∷ fs) k = (λ x w o. k.0 x (before_from p z t x w l.between (some x w)) o, misses_last p z t l fs k.1)
  where
    some : (x : Point) (w : Within p t x) → pos 0 <ℤ (w.v *ℤ l.between.w +ℤ w.u *ℤ l.between.v)
    some x w = by_lt_z (pos 0) w.v
        (λ h. omega (arith, linear, mul-pos w.v l.between.w h l.between.positive, mul-nonneg w.u l.between.v w.from_b l.between.from_a))
        (λ h. omega (
          arith,
          linear,
          mul-nonneg w.v l.between.w w.from_a (omega (arith, linear, l.between.positive)),
          mul-pos w.u l.between.v (omega (arith, linear, some_weight p t x w)) l.some_p,
        ))

-- where each edge has l left of it, p is wound l times or once less
pub seen : (p : Point) (es : List Segment) → AreRingEdges es → (l : ℤ) → ((e : Segment) → Contains es e → Whole es l e) → Hit p es es
    → (wind p es ≡ l) ⊎ (wind p es ≡ l -ℤ pos 1)
seen p es k l w h = by_sign (side p h.e)
    (λ s. inl (same ∙ at.left (pos_from_mul b.between.w (side t h.e) b.between.positive
    (omega (arith, linear, sides, mul-pos b.between.v (side p h.e) b.some_p s)))))
    (λ s. absurd (not_along p es k h s))
    (λ s. inr (same ∙ at.right (neg_from_mul b.between.w (side t h.e) b.between.positive
    (omega (arith, linear, sides, mul-pos_neg b.between.v (side p h.e) b.some_p s)))))
  where
    soon : Soon h.z (Parts l h.e es)
    soon = w h.e h.of_edges h.z h.at

    t : Point
    t = last_step p h.z soon.m

    b : Last p h.z t
    b = last_between p h.z soon.m

    at : Parts l h.e es t
    at = soon.holds t (last_near p h.z soon.m)

    sides : b.between.w *ℤ side t h.e ≡ b.between.v *ℤ side p h.e
    sides = omega (
      arith,
      linear,
      side-within p h.z t h.e b.between,
      ap (λ y. b.between.u *ℤ y) ((On-from_on h.z h.e h.at.on_edge).straight),
      mul-zero b.between.u,
    )

    same : wind p es ≡ wind t es
    same = still p t es k.balance (misses_last p h.z t b es h.free)

-- ---- a way to a given edge
pub first_hit : (p : Point) (es : List Segment) → AreRingEdges es → ((f : Segment) → Contains es f → On p f → ⊥) → (e : Segment)
    → Contains es e → side p e ≢ pos 0 → Hit p es es
first_hit p es k o e ce s = hit_all p es k o es (λ f c. c) (record {
  z = part_way e n;
  e = e;
  of_edges = ce;
  at = record { on_edge = on_from_On (part_way e n) e (on-part_way e n); no_end = not_end e n (k.differ e ce) (omega arith) };
  clear = λ g cg. let f = far_of p (point_of e.b) es g cg in (
    λ z. apart g.a f.0 (λ at. o g cg (on_end_a p g at.0 at.1)) z,
    λ z. apart g.b f.1 (λ at. o g cg (on_end_b p g at.0 at.1)) z,
  );
  free = tt;
})
  where
    n : ℕ
    n = suc (far p (point_of e.b) es)

    apart : (v : Vertex) → unsigned_abs (det p (point_of e.b) (point_of v)) ≤ far p (point_of e.b) es
        → ((p.px ≡ p.q *ℤ v.x) × (p.py ≡ p.q *ℤ v.y) → ⊥) → det p (part_way e n) (point_of v) ≢ pos 0
    apart v h f z =
        let sum : pos n *ℤ det p (point_of e.a) (point_of v) +ℤ det p (point_of e.b) (point_of v) ≡ pos 0
        = sym (det-part_way p (point_of v) e n) ∙ z in
        let za = small n (det p (point_of e.a) (point_of v)) (det p (point_of e.b) (point_of v)) (omega (arith, h)) sum in
        f (at_point p e v s za (omega (arith, linear, sum, ap (λ y. pos n *ℤ y) za, mul-zero (pos n))))
