-- A simple ring is wound 0 times or once, one way round.
use Rattle.std.proofs.Common.{◌≡◌, refl, sym, ap, ◌∙◌, arith, inl, inr, List, [], ◌∷◌, map, subst}
use Rattle.std.specs.Prelude.{ℤ, pos, negsuc, ◌-ℤ◌, ◌*ℤ◌, not, true, false, ◌≢◌, ◌⊎◌, slice_index_or}
use Rattle.std.specs.List.{All, AllByRecursion, Contains}
use Rattle.std.specs.declared.cmp.Ordering.TheVariants.{Less}
use Rattle.std.proofs.lemmas.Bool.{both_ways, cases_Bool, and_parts, not-true}
use Rattle.std.proofs.lemmas.List.Elements.{recursion_from_All, All-from_recursion, All-contains}
use Rattle.rd_plane.specs.Order.{vertex_cmp}
use Rattle.rd_plane.specs.Plane.{Vertex, Segment, Point, point_of, side, on, off, wind, reversed}
use Rattle.rd_plane.specs.Shapes.{edges_along, HasCorners, MeetsInTurn, WindsBy, ring_edges}
use Rattle.rd_plane.proofs.Polynomials.{linear, expanded, mul-zero, by_sign}
use Rattle.rd_plane.proofs.Touching.{On, on_from_On, On-from_on}
use Rattle.rd_plane.proofs.Winding.{wind-map_reversed, off-map_reversed}
use Rattle.rd_plane.proofs.Nearby.{Soon, soon_so, both_soon, always}
use Rattle.rd_plane.proofs.Sides.{heading}
use Rattle.rd_plane.proofs.OffNear.{Beside, beside, stays_off, off_unless}
use Rattle.rd_plane.proofs.Apart.{on_end_b}
use Rattle.rd_plane.proofs.Members.{contains_head, contains_tail, contains_cases}
use Rattle.ring_law.specs.Turns.{IsAtLeast, TurnsLeft, TurnsRight, GoesStraight, WindsSome}
use Rattle.ring_law.proofs.Simple.{AreRingEdges, Inner, Parts, two_sides}
use Rattle.ring_law.proofs.AlongEdge.{Whole, whole}
use Rattle.ring_law.proofs.Corner.{near_a, near_a-inner, past}
use Rattle.ring_law.proofs.FirstHit.{first_hit, seen}
use Rattle.ring_law.proofs.FreeWay.{cancel}
use Rattle.ring_law.proofs.OfRing.{simple, chain}
use Rattle.ring_law.proofs.Least.{NotBefore, NoneBefore, not_before, left_number, right_number, no_straight, turn_is}

-- one number stands left of all edges
record OneNumber (es : List Segment) : Type 0 where
  l : ℤ
  each : (e : Segment) → Contains es e → Whole es l e

one_number : (ring : List Vertex) → HasCorners ring → MeetsInTurn ring → OneNumber (ring_edges ring)
one_number [] h m = absurd (omega (arith, h.three))
one_number (v ∷ []) h m = absurd (omega (arith, h.three))
one_number (v ∷ (w ∷ ws)) h m
    = record { l = t.0; each = chain (Whole es t.0) v w ws (λ a b c ca cb x. past es k a b c t.0 ca cb x) (whole es k e ce t.0 p i t.1) }
  where
    es : List Segment
    es = ring_edges (v ∷ (w ∷ ws))

    k : AreRingEdges es
    k = simple (v ∷ (w ∷ ws)) h m

    e : Segment
    e = record { a = v; b = w }

    ce : Contains es e
    ce = (0, omega arith, refl)

    p : Point
    p = near_a e 0

    i : Inner p e
    i = near_a-inner e 0 (k.differ e ce)

    t : (l : ℤ) × Soon p (Parts l e es)
    t = two_sides es k e ce p i

off_each : (p : Point) (es : List Segment) → off p es ≡ true → (f : Segment) → Contains es f → On p f → ⊥
unfolding off
off_each p [] o f c h = absurd (omega (arith, c.1))
off_each p (e ∷ es) o f c h = let k = and_parts (not (on p e)) (off p es) o in elim (contains_cases e f es c) [
  | inl q ↦ both_ways (on p e) (not-true (on p e) k.0) (on_from_On p e (subst (On p) (sym q) h))
  | inr d ↦ off_each p es k.1 f d h
]

-- on the lines of both edges at m: at m
meet_step : (a b c d X Y : ℤ) → b *ℤ X ≡ a *ℤ Y → c *ℤ Y ≡ d *ℤ X → ((c *ℤ b -ℤ a *ℤ d) *ℤ X ≡ pos 0) × ((c *ℤ b -ℤ a *ℤ d) *ℤ Y ≡ pos 0)
meet_step a b c d X Y h k =
    let h1 = simp expanded at (ap (λ t. c *ℤ t) h) in
    let k1 = ap (λ t. a *ℤ t) k in
    let h2 = simp expanded at (ap (λ t. d *ℤ t) h) in
    let k2 = ap (λ t. b *ℤ t) k in
    (simp expanded (omega (arith, linear, h1, k1)), simp expanded (omega (arith, linear, h2, k2)))

sides_step : (ux uy mx my px py q : ℤ)
    → (mx -ℤ ux) *ℤ (py -ℤ q *ℤ uy) -ℤ (my -ℤ uy) *ℤ (px -ℤ q *ℤ ux) ≡ (uy -ℤ my) *ℤ (px -ℤ q *ℤ mx) -ℤ (ux -ℤ mx) *ℤ (py -ℤ q *ℤ my)
sides_step ux uy mx my px py q = simp expanded (omega (arith, linear))

coming_line : (u m : Vertex) (p : Point) → side p (record { a = u; b = m }) ≡ pos 0
    → (u.y -ℤ m.y) *ℤ (p.px -ℤ p.q *ℤ m.x) ≡ (u.x -ℤ m.x) *ℤ (p.py -ℤ p.q *ℤ m.y)
unfolding side
coming_line u m p h = omega (arith, linear, h, sides_step u.x u.y m.x m.y p.px p.py p.q)

going_line : (m w : Vertex) (p : Point) → side p (record { a = m; b = w }) ≡ pos 0
    → (w.x -ℤ m.x) *ℤ (p.py -ℤ p.q *ℤ m.y) ≡ (w.y -ℤ m.y) *ℤ (p.px -ℤ p.q *ℤ m.x)
unfolding side
going_line m w p h = omega (arith, linear, h)

at_least : (u m w : Vertex) (p : Point) → side (point_of w) (record { a = u; b = m }) ≢ pos 0 → side p (record { a = u; b = m }) ≡ pos 0
    → side p (record { a = m; b = w }) ≡ pos 0 → On p (record { a = u; b = m })
at_least u m w p n h k = on_end_b p (record { a = u; b = m })
    (omega (arith, linear, cancel T (p.px -ℤ p.q *ℤ m.x) (pos 0) some (z.0 ∙ sym (mul-zero T))))
    (omega (arith, linear, cancel T (p.py -ℤ p.q *ℤ m.y) (pos 0) some (z.1 ∙ sym (mul-zero T))))
  where
    T : ℤ
    T = (w.x -ℤ m.x) *ℤ (u.y -ℤ m.y) -ℤ (u.x -ℤ m.x) *ℤ (w.y -ℤ m.y)

    some : T ≢ pos 0
    some q = n (turn_is u m w ∙ q)

    z : (T *ℤ (p.px -ℤ p.q *ℤ m.x) ≡ pos 0) × (T *ℤ (p.py -ℤ p.q *ℤ m.y) ≡ pos 0)
    z
        = meet_step (u.x -ℤ m.x) (u.y -ℤ m.y) (w.x -ℤ m.x) (w.y -ℤ m.y) (p.px -ℤ p.q *ℤ m.x) (p.py -ℤ p.q *ℤ m.y) (coming_line u m p h)
        (going_line m w p k)

-- off the edges each point is wound l times or once less
two_numbers : (es : List Segment) → AreRingEdges es → (u m w : Vertex) → NoneBefore m es → Contains es (record { a = u; b = m })
    → Contains es (record { a = m; b = w }) → (n : OneNumber es) → (p : Point) → off p es ≡ true
    → (wind p es ≡ n.l) ⊎ (wind p es ≡ n.l -ℤ pos 1)
two_numbers es k u m w h ce cf n p o = by_sign (side p e) (λ s. by e ce (λ z. omega (arith, linear, s, z)))
    (λ z. by_sign (side p f) (λ s. by f cf (λ y. omega (arith, linear, s, y)))
    (λ y. absurd (off_each p es o e ce (at_least u m w p (no_straight es k u m w h ce cf) z y)))
    (λ s. by f cf (λ y. omega (arith, linear, s, y))))
    (λ s. by e ce (λ z. omega (arith, linear, s, z)))
  where
    e : Segment
    e = record { a = u; b = m }

    f : Segment
    f = record { a = m; b = w }

    by : (g : Segment) → Contains es g → side p g ≢ pos 0 → (wind p es ≡ n.l) ⊎ (wind p es ≡ n.l -ℤ pos 1)
    by g cg s = seen p es k n.l n.each (first_hit p es k (off_each p es o) g cg s)

pub none_before : (ring : List Vertex) (m : Vertex) → All (λ v. vertex_cmp v m ≢ Less) ring → NoneBefore m (ring_edges ring)
none_before ring m h e ce = All-contains (λ g. NotBefore m g.a × NotBefore m g.b) (ring_edges ring) e
    (All-from_recursion (λ g. NotBefore m g.a × NotBefore m g.b) (ring_edges ring)
    (of_ring ring (recursion_from_All (NotBefore m) ring (λ i d l. not_before m (slice_index_or ring i d) (h i d l))))) ce
  where
    along : (first u : Vertex) (ws : List Vertex) → NotBefore m first → AllByRecursion (NotBefore m) (u ∷ ws)
        → AllByRecursion (λ g. NotBefore m g.a × NotBefore m g.b) (edges_along first u ws)
    along first u [] b a = ((a.0, b), tt)
    along first u (w ∷ ws) b a = ((a.0, a.1.0), along first w ws b a.1)

    of_ring : (r : List Vertex) → AllByRecursion (NotBefore m) r → AllByRecursion (λ g. NotBefore m g.a × NotBefore m g.b) (ring_edges r)
    of_ring [] a = tt
    of_ring (v ∷ vs) a = along v v vs a.0 a

pub left_winds : (ring : List Vertex) (u m w : Vertex) → HasCorners ring → MeetsInTurn ring → IsAtLeast ring u m w → TurnsLeft u m w
    → WindsBy (pos 1) (ring_edges ring)
left_winds ring u m w c t l h p o = elim (two_numbers es k u m w d l.comes l.goes n p o) [
  | inl q ↦ inr (q ∙ one)
  | inr q ↦ inl (omega (arith, linear, q, one))
]
  where
    es : List Segment
    es = ring_edges ring

    k : AreRingEdges es
    k = simple ring c t

    d : NoneBefore m es
    d = none_before ring m l.none_less

    n : OneNumber es
    n = one_number ring c t

    one : n.l ≡ pos 1
    one = left_number es k u m w n.l d l.comes l.goes (n.each (record { a = m; b = w }) l.goes) h

-- the number of a ring that turns right
record RightRing (ring : List Vertex) (u m w : Vertex) : Type 0 where
  k : AreRingEdges (ring_edges ring)
  d : NoneBefore m (ring_edges ring)
  n : OneNumber (ring_edges ring)
  none : n.l ≡ pos 0

right_ring : (ring : List Vertex) (u m w : Vertex) → HasCorners ring → MeetsInTurn ring → IsAtLeast ring u m w → TurnsRight u m w
    → RightRing ring u m w
right_ring ring u m w c t l h = record {
  k = k;
  d = d;
  n = n;
  none = right_number (ring_edges ring) k u m w n.l d l.comes l.goes (n.each (record { a = u; b = m }) l.comes) h;
}
  where
    k : AreRingEdges (ring_edges ring)
    k = simple ring c t

    d : NoneBefore m (ring_edges ring)
    d = none_before ring m l.none_less

    n : OneNumber (ring_edges ring)
    n = one_number ring c t

pub right_winds : (ring : List Vertex) (u m w : Vertex) → HasCorners ring → MeetsInTurn ring → IsAtLeast ring u m w → TurnsRight u m w
    → WindsBy (negsuc 0) (ring_edges ring)
right_winds ring u m w c t l h p o = let r = right_ring ring u m w c t l h
    in elim (two_numbers (ring_edges ring) r.k u m w r.d l.comes l.goes r.n p o) [
      | inl q ↦ inl (q ∙ r.none)
      | inr q ↦ inr (omega (arith, linear, q, r.none))
    ]

pub right_reversed : (ring : List Vertex) (u m w : Vertex) → HasCorners ring → MeetsInTurn ring → IsAtLeast ring u m w → TurnsRight u m w
    → WindsBy (pos 1) (map reversed (ring_edges ring))
right_reversed ring u m w c t l h p o = elim (right_winds ring u m w c t l h p (sym (off-map_reversed p (ring_edges ring)) ∙ o)) [
  | inl q ↦ inl (omega (arith, linear, wind-map_reversed p (ring_edges ring), q))
  | inr q ↦ inr (omega (arith, linear, wind-map_reversed p (ring_edges ring), q))
]

-- near an inner point of an edge, points off the edge's line are off all edges
off_near : (es : List Segment) → AreRingEdges es → (e : Segment) → Contains es e → (p : Point) → Inner p e → (fs : List Segment)
    → ((f : Segment) → Contains fs f → Contains es f) → Soon p (λ r. (side r e ≡ pos 0 → ⊥) → off r fs ≡ true)
unfolding off
off_near es k e ce p i [] c = always p (λ r n. refl)
off_near es k e ce p i (f ∷ fs) c
    = soon_so p (both_soon p here (off_near es k e ce p i fs (λ g d. c g (contains_tail f g fs d)))) (λ r t n. rw (t.0 n, t.1 n) refl)
  where
    here : Soon p (λ r. (side r e ≡ pos 0 → ⊥) → on r f ≡ false)
    here = elim (cases_Bool (on p f)) [
      | inr t ↦ soon_so p (stays_off p f t) (λ r o n. o)
      | inl t ↦ let q : f ≡ e = k.own e f p ce (c f (contains_head f fs)) i.on_edge t i.no_end in always p
          (λ r n. off_unless r f (λ o. n (sym (ap (side r) q) ∙ o.straight)))
    ]

-- left of an edge, and right of it, points off all edges
record Beyond (es : List Segment) (l : ℤ) : Type 0 where
  left : WindsSome l es
  right : WindsSome (l -ℤ pos 1) es

beyond : (es : List Segment) → AreRingEdges es → (e : Segment) → Contains es e → (l : ℤ) → Whole es l e → Beyond es l
beyond es k e ce l h = record {
  left = record {
    at = b.left;
    off_edges = (soon.holds b.left b.near_left).1 (λ z. omega (arith, linear, z, b.is_left));
    wound = (soon.holds b.left b.near_left).0.left b.is_left;
  };
  right = record {
    at = b.right;
    off_edges = (soon.holds b.right b.near_right).1 (λ z. omega (arith, linear, z, b.is_right));
    wound = (soon.holds b.right b.near_right).0.right b.is_right;
  };
}
  where
    p : Point
    p = near_a e 0

    i : Inner p e
    i = near_a-inner e 0 (k.differ e ce)

    soon : Soon p (λ r. Parts l e es r × ((side r e ≡ pos 0 → ⊥) → off r es ≡ true))
    soon = both_soon p (h p i) (off_near es k e ce p i es (λ f d. d))

    b : Beside p e soon.m
    b = beside p e soon.m (heading e (k.differ e ce)) ((On-from_on p e i.on_edge).straight)

pub left_some : (ring : List Vertex) (u m w : Vertex) → HasCorners ring → MeetsInTurn ring → IsAtLeast ring u m w → TurnsLeft u m w
    → WindsSome (pos 1) (ring_edges ring)
left_some ring u m w c t l h = let b = (beyond (ring_edges ring) (simple ring c t) (record { a = m; b = w }) l.goes n.l
    (n.each (record { a = m; b = w }) l.goes)).left in record { at = b.at; off_edges = b.off_edges; wound = b.wound ∙ one }
  where
    n : OneNumber (ring_edges ring)
    n = one_number ring c t

    one : n.l ≡ pos 1
    one
        = left_number (ring_edges ring) (simple ring c t) u m w n.l (none_before ring m l.none_less) l.comes l.goes
        (n.each (record { a = m; b = w }) l.goes) h

pub right_some : (ring : List Vertex) (u m w : Vertex) → HasCorners ring → MeetsInTurn ring → IsAtLeast ring u m w → TurnsRight u m w
    → WindsSome (negsuc 0) (ring_edges ring)
right_some ring u m w c t l h = let r = right_ring ring u m w c t l h
    in let b = (beyond (ring_edges ring) r.k (record { a = u; b = m }) l.comes r.n.l (r.n.each (record { a = u; b = m }) l.comes)).right in
    record { at = b.at; off_edges = b.off_edges; wound = omega (arith, linear, b.wound, r.none) }

pub right_not_once : (ring : List Vertex) (u m w : Vertex) → HasCorners ring → MeetsInTurn ring → IsAtLeast ring u m w → TurnsRight u m w
    → ¬ WindsBy (pos 1) (ring_edges ring)
right_not_once ring u m w c t l h once = let b = right_some ring u m w c t l h in elim (once b.at b.off_edges) [
  | inl q ↦ omega (arith, linear, q, b.wound)
  | inr q ↦ omega (arith, linear, q, b.wound)
]

pub not_straight : (ring : List Vertex) (u m w : Vertex) → HasCorners ring → MeetsInTurn ring → IsAtLeast ring u m w → ¬ GoesStraight u m w
not_straight ring u m w c t l h = no_straight (ring_edges ring) (simple ring c t) u m w (none_before ring m l.none_less) l.comes l.goes h
