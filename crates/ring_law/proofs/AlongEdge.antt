-- The numbers left and right of an edge are the same all along it.
use Rattle.std.proofs.Common.{◌≡◌, ℕ, ◌+◌, sym, ap, ◌∙◌, arith, ◌<◌, inl, inr, List, [], ◌∷◌}
use Rattle.std.specs.Prelude.{ℤ, pos, ◌-ℤ◌, ◌*ℤ◌, ◌<ℤ◌, ◌≤ℤ◌, neg_ℤ, false, ◌⊎◌}
use Rattle.std.specs.List.{AllByRecursion, Contains}
use Rattle.std.proofs.lemmas.Bool.{cases_Bool}
use Rattle.std.proofs.lemmas.Int.{by_lt_z}
use Rattle.rd_plane.specs.Plane.{Segment, Point, point_of, side, wind, is_end, reversed}
use Rattle.rd_plane.specs.Jump.{Near}
use Rattle.rd_plane.proofs.Polynomials.{linear, expanded, mul-pos, mul-pos_neg}
use Rattle.rd_plane.proofs.Crossing.{side-reversed}
use Rattle.rd_plane.proofs.Touching.{On, On-from_on, on_from_On, On-reversed}
use Rattle.rd_plane.proofs.Nearby.{Soon, soon_so, Near-left, Near-right, Form, value, stays}
use Rattle.rd_plane.proofs.Heights.{stays_left, stays_right}
use Rattle.rd_plane.proofs.Through.{side-point_of}
use Rattle.rd_plane.proofs.Sides.{Heading, heading}
use Rattle.rd_plane.proofs.OffNear.{Beside, beside}
use Rattle.rd_plane.proofs.FreePoint.{side-own_a, side-own_b, end_cases}
use Rattle.rd_plane.proofs.Members.{contains_head, contains_tail}
use Rattle.ring_law.proofs.Between.{det-side, Within, within_on}
use Rattle.ring_law.proofs.Still.{Misses, still}
use Rattle.ring_law.proofs.Simple.{AreRingEdges, Inner, Parts, two_sides}
use Rattle.ring_law.proofs.Ways.{stays_left_along, stays_right_along, positive_along, meeting, side_at, never_left, far_left, weighed, Weighed, inner_left, inner_right}

-- P holds of the points near p with those near s
pub record Pair (p s : Point) (P : Point → Point → Type 0) : Type 0 where
  pub m : ℕ
  pub some : 0 < m
  pub holds : (r t : Point) → Near m p r → Near m s t → P r t

pub pair_both : {P Q : Point → Point → Type 0} (p s : Point) → Pair p s P → Pair p s Q → Pair p s (λ r t. P r t × Q r t)
pair_both p s f g = record {
  m = f.m + g.m;
  some = omega (arith, f.some, g.some);
  holds = λ r t h k. (
    f.holds r t (Near-left f.m g.m p r h)
        (Near-left f.m g.m s t k),
    g.holds r t (Near-right f.m g.m p r h) (Near-right f.m g.m s t k),
  );
}

pub pair_so : {P Q : Point → Point → Type 0} (p s : Point) → Pair p s P → ((r t : Point) → P r t → Q r t) → Pair p s Q
pair_so p s f g = record { m = f.m; some = f.some; holds = λ r t h k. g r t (f.holds r t h k) }

pub pair_of : {P Q : Point → Type 0} (p s : Point) → Soon p P → Soon s Q → Pair p s (λ r t. P r × Q t)
pair_of p s f g = record {
  m = f.m + g.m;
  some = omega (arith, f.some, g.some);
  holds = λ r t h k. (f.holds r (Near-left f.m g.m p r h), g.holds t (Near-right f.m g.m s t k));
}

pub pair_always : {P : Point → Point → Type 0} (p s : Point) → ((r t : Point) → P r t) → Pair p s P
pair_always p s f = record { m = 1; some = omega arith; holds = λ r t h k. f r t }

-- ---- an edge that goes through no inner point of e
-- the two ends of each edge, by the line of the other
pub ends_sum : (e f : Segment) → side (point_of e.b) f -ℤ side (point_of e.a) f ≡ side (point_of f.a) e -ℤ side (point_of f.b) e
ends_sum e f
    = rw (side-point_of e.b f, side-point_of e.a f, side-point_of f.a e, side-point_of f.b e) (simp expanded (omega (arith, linear)))

pub record OneSide (p s : Point) (f : Segment) : Type 0 where
  pub sides : ((pos 0 <ℤ side p f) × (pos 0 <ℤ side s f)) ⊎ ((side p f <ℤ pos 0) × (side s f <ℤ pos 0))

-- f begins left of e and does not end there: inner points of e are on one side of f
one_side_of : (e f : Segment) (p s : Point) → Weighed p e → Weighed s e → ((x : Point) → On x f → Inner x e → ⊥)
    → pos 0 <ℤ side (point_of f.a) e → side (point_of f.b) e ≤ℤ pos 0 → OneSide p s f
one_side_of e f p s mp ms free h k = by_lt_z (side (point_of e.a) f) (pos 0)
    (λ a. by_lt_z (pos 0) (side (point_of e.b) f)
    (λ b. absurd (met a b))
    (λ b. record { sides = inr (inner_right p e f mp a b, inner_right s e f ms a b) }))
    (λ a. let b : pos 0 <ℤ side (point_of e.b) f = omega (arith, linear, ends_sum e f)
    in record { sides = inl (inner_left p e f mp a b, inner_left s e f ms a b) })
  where
    met : side (point_of e.a) f <ℤ pos 0 → pos 0 <ℤ side (point_of e.b) f → ⊥
    met a b = free x.0 on_f (record { on_edge = on_from_On x.0 e (within_on x.0 e x.1); no_end = inner })
      where
        x : (x : Point) × Within (point_of e.a) (point_of e.b) x × Within (point_of f.a) (point_of f.b) x
        x = meeting (point_of e.a) (point_of e.b) (point_of f.a) (point_of f.b) (omega (arith, linear, det-side (point_of f.a) e))
            (omega (arith, linear, det-side (point_of f.b) e))
            (omega (arith, linear, det-side (point_of e.a) f)) (omega (arith, linear, det-side (point_of e.b) f))

        on_f : On x.0 f
        on_f = within_on x.0 f x.2

        inner : is_end x.0 e ≡ false
        inner = elim (cases_Bool (is_end x.0 e)) [
          | inr t ↦ t
          | inl t ↦ elim (end_cases x.0 e t) [
            | inl q ↦ absurd (omega
                (arith, linear, on_f.straight, side_at x.0 e.a f q.0 q.1, mul-pos_neg x.0.q (side (point_of e.a) f) x.0.positive a))
            | inr q ↦ absurd
                (omega (arith, linear, on_f.straight, side_at x.0 e.b f q.0 q.1, mul-pos x.0.q (side (point_of e.b) f) x.0.positive b))
          ]
        ]

-- the ways from near p to near s, left of e, miss f
abbrev pub Clears : Segment → Segment → Point → Point → Type 0
Clears e f r t = pos 0 <ℤ side r e → pos 0 <ℤ side t e → Misses r t f

clear_of : (e f : Segment) (p s : Point) → OneSide p s f → Pair p s (Clears e f)
clear_of e f p s o = elim o.sides [
  | inl k ↦ pair_so p s (pair_of p s (stays_left p f k.0) (stays_left s f k.1))
      (λ r t h _ _ x w on_f. omega (arith, linear, on_f.straight, stays_left_along r t x f w h.0 h.1))
  | inr k ↦ pair_so p s (pair_of p s (stays_right p f k.0) (stays_right s f k.1))
      (λ r t h _ _ x w on_f. omega (arith, linear, on_f.straight, stays_right_along r t x f w h.0 h.1))
]

-- how far left of e a point may be that is below 1
close_form : Segment → Form
close_form e = record {
  by_x = e.b.y -ℤ e.a.y;
  by_y = neg_ℤ (e.b.x -ℤ e.a.x);
  by_q = pos 1 -ℤ ((e.b.y -ℤ e.a.y) *ℤ e.a.x -ℤ (e.b.x -ℤ e.a.x) *ℤ e.a.y);
}

close_is : (r : Point) (e : Segment) → value (close_form e) r ≡ r.q -ℤ side r e
unfolding side close_form
close_is r e = simp expanded (omega (arith, linear))

clear : (e f : Segment) (p s : Point) → Heading f → Weighed p e → Weighed s e → side p e ≡ pos 0 → side s e ≡ pos 0
    → ((x : Point) → pos 0 <ℤ side (point_of f.a) e ⊎ pos 0 <ℤ side (point_of f.b) e → On x f → Inner x e → ⊥) → Pair p s (Clears e f)
clear e f p s d mp ms zp zs free = by_lt_z (pos 0) (side (point_of f.a) e)
    (λ a. by_lt_z (pos 0) (side (point_of f.b) e)
    (λ b. pair_so p s (pair_of p s (stays (close_form e) p (omega (arith, linear, close_is p e, p.positive)))
    (stays (close_form e) s (omega (arith, linear, close_is s e, s.positive))))
    (λ r t h _ _ x w on_f. omega (arith, linear, far_left x e f d a b on_f, close_is x e, positive_along (close_form e) r t x w h.0 h.1)))
    (λ b. clear_of e f p s (one_side_of e f p s mp ms (λ x. free x (inl a)) a b)))
    (λ a. by_lt_z (pos 0) (side (point_of f.b) e)
    (λ b. let o = one_side_of e (reversed f) p s mp ms (λ x h. free x (inr b) (On-reversed x (reversed f) h)) b a in clear_of e f p s
    (back o))
    (λ b. pair_always p s (λ r t hr ht x w on_f. omega (arith, linear, never_left x e f d a b on_f, stays_left_along r t x e w hr ht))))
  where
    back : OneSide p s (reversed f) → OneSide p s f
    back o = record {
      sides = elim o.sides [
        | inl k ↦ inr (omega (arith, linear, side-reversed p f, k.0), omega (arith, linear, side-reversed s f, k.1))
        | inr k ↦ inl (omega (arith, linear, side-reversed p f, k.0), omega (arith, linear, side-reversed s f, k.1))
      ];
    }

clear_all : (es : List Segment) → AreRingEdges es → (e : Segment) → Contains es e → (p s : Point) → Inner p e → Inner s e
    → (fs : List Segment) → ((f : Segment) → Contains fs f → Contains es f) →
    Pair p s (λ r t. pos 0 <ℤ side r e → pos 0 <ℤ side t e → AllByRecursion (Misses r t) fs)
clear_all es k e ce p s ip is [] c = pair_always p s (λ r t _ _. tt)
clear_all es k e ce p s ip is (f ∷ fs) c
    = pair_so p s
    (pair_both p s (clear e f p s (heading f (k.differ f cf)) (weighed p e d ip) (weighed s e d is)
    ((On-from_on p e ip.on_edge).straight) ((On-from_on s e is.on_edge).straight) free)
    (clear_all es k e ce p s ip is fs (λ g h. c g (contains_tail f g fs h)))) (λ r t h a b. (h.0 a b, h.1 a b))
  where
    cf : Contains es f
    cf = c f (contains_head f fs)

    d : Heading e
    d = heading e (k.differ e ce)

    free : (x : Point) → pos 0 <ℤ side (point_of f.a) e ⊎ pos 0 <ℤ side (point_of f.b) e → On x f → Inner x e → ⊥
    free x far on_f i = let q : f ≡ e = k.own e f x ce cf i.on_edge (on_from_On x f on_f) i.no_end in elim far [
      | inl a ↦ omega (arith, linear, a, ap (λ (g : Segment). side (point_of g.a) e) q, side-own_a e)
      | inr b ↦ omega (arith, linear, b, ap (λ (g : Segment). side (point_of g.b) e) q, side-own_b e)
    ]

-- at two inner points of an edge the numbers are the same
pub same_along : (es : List Segment) → AreRingEdges es → (e : Segment) → Contains es e → (p s : Point) → Inner p e → Inner s e → (l n : ℤ)
    → Soon p (Parts l e es) → Soon s (Parts n e es) → l ≡ n
same_along es k e ce p s ip is l n hp hs = sym at_p ∙ (still r t es k.balance (pair.holds r t
    (Near-left pair.m (hp.m + hs.m) p r bp.near_left) (Near-left pair.m (hp.m + hs.m) s t bs.near_left) bp.is_left bs.is_left) ∙ at_s)
  where
    d : Heading e
    d = heading e (k.differ e ce)

    pair : Pair p s (λ r t. pos 0 <ℤ side r e → pos 0 <ℤ side t e → AllByRecursion (Misses r t) es)
    pair = clear_all es k e ce p s ip is es (λ f c. c)

    bp : Beside p e (pair.m + (hp.m + hs.m))
    bp = beside p e (pair.m + (hp.m + hs.m)) d ((On-from_on p e ip.on_edge).straight)

    bs : Beside s e (pair.m + (hp.m + hs.m))
    bs = beside s e (pair.m + (hp.m + hs.m)) d ((On-from_on s e is.on_edge).straight)

    r : Point
    r = bp.left

    t : Point
    t = bs.left

    at_p : wind r es ≡ l
    at_p = (hp.holds r (Near-left hp.m hs.m p r (Near-right pair.m (hp.m + hs.m) p r bp.near_left))).left bp.is_left

    at_s : wind t es ≡ n
    at_s = (hs.holds t (Near-right hp.m hs.m s t (Near-right pair.m (hp.m + hs.m) s t bs.near_left))).left bs.is_left

-- left of e the winding number is l all along, and right of it one less
abbrev pub Whole : List Segment → ℤ → Segment → Type 0
Whole es l e = (p : Point) → Inner p e → Soon p (Parts l e es)

pub whole : (es : List Segment) → AreRingEdges es → (e : Segment) → Contains es e → (l : ℤ) (p : Point) → Inner p e → Soon p (Parts l e es)
    → Whole es l e
whole es k e ce l p i h s is = let t = two_sides es k e ce s is in let q : t.0 ≡ l = sym (same_along es k e ce p s i is l t.0 h t.1) in
    soon_so s t.1 (λ r a. record { left = λ x. a.left x ∙ q; right = λ x. a.right x ∙ ap (λ z. z -ℤ pos 1) q })
