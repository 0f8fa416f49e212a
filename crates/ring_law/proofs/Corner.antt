-- Past a corner the numbers left and right of the ring stay the same.
use Rattle.std.proofs.Common.{◌≡◌, ℕ, ◌*◌, refl, sym, ◌∙◌, arith, ◌<◌, inl, inr, List, [], ◌∷◌, subst, suc}
use Rattle.std.specs.Prelude.{ℤ, pos, ◌<ℤ◌, false, ◌≢◌, ◌⊎◌}
use Rattle.std.specs.List.{AllByRecursion, Contains}
use Rattle.std.proofs.lemmas.Bool.{cases_Bool, both_ways}
use Rattle.rd_plane.specs.Plane.{Vertex, Segment, Point, point_of, side, on, wind, is_at, reversed}
use Rattle.rd_plane.specs.Jump.{Near}
use Rattle.rd_plane.proofs.Polynomials.{linear, one-mul, mul-pos, pos_from_mul, by_sign}
use Rattle.rd_plane.proofs.Touching.{On, On-from_on, on_from_On, on-reversed}
use Rattle.rd_plane.proofs.Nearby.{Soon, soon_so, both_soon, always}
use Rattle.rd_plane.proofs.Heights.{stays_left, stays_right}
use Rattle.rd_plane.proofs.Sides.{heading}
use Rattle.rd_plane.proofs.OffNear.{Beside, beside, stays_off, long}
use Rattle.rd_plane.proofs.Clear.{near_open, near_part_way, span}
use Rattle.rd_plane.proofs.FreePoint.{part_way, on-part_way, not_end, side-own_a, side-own_b}
use Rattle.rd_plane.proofs.OwnEdges.{either_end}
use Rattle.rd_plane.proofs.Members.{contains_head, contains_tail}
use Rattle.ring_law.proofs.Between.{Within}
use Rattle.ring_law.proofs.Still.{Misses, still}
use Rattle.ring_law.proofs.Simple.{AreRingEdges, Inner, Parts, two_sides}
use Rattle.ring_law.proofs.Ways.{stays_left_along, stays_right_along, near_along, weighed, Weighed, inner_left, inner_right}
use Rattle.ring_law.proofs.AlongEdge.{Whole, whole, ends_sum}
use Rattle.ring_law.proofs.Straight.{goes_on, tied, run_to, length_of}

-- e, f or an edge on which r is not
abbrev Else : Segment → Segment → Point → Segment → Type 0
Else e f r g = ((g ≡ e) ⊎ (g ≡ f)) ⊎ (on r g ≡ false)

near_others : (es : List Segment) → AreRingEdges es → (e f : Segment) → Contains es e → Contains es f → e.b ≡ f.a → (gs : List Segment)
    → ((g : Segment) → Contains gs g → Contains es g) → Soon (point_of e.b) (λ r. AllByRecursion (Else e f r) gs)
near_others es k e f ce cf n [] c = always (point_of e.b) (λ r. tt)
near_others es k e f ce cf n (g ∷ gs) c = both_soon (point_of e.b) (elim (cases_Bool (on (point_of e.b) g)) [
  | inl t ↦ always (point_of e.b) (λ r. inl (k.corner e f g ce cf (c g (contains_head g gs)) n t))
  | inr t ↦ soon_so (point_of e.b) (stays_off (point_of e.b) g t) (λ r o. inr o)
]) (near_others es k e f ce cf n gs (λ h m. c h (contains_tail g h gs m)))

miss_all : (e f : Segment) (r t : Point) → Misses r t e → Misses r t f → (gs : List Segment)
    → ((x : Point) → Within r t x → AllByRecursion (Else e f x) gs) → AllByRecursion (Misses r t) gs
miss_all e f r t me mf [] h = tt
miss_all e f r t me mf (g ∷ gs) h = (
  λ x w o. elim ((h x w).0) [
    | inl s ↦ elim s [ inl q ↦ me x w (subst (On x) q o) | inr q ↦ mf x w (subst (On x) q o) ]
    | inr n ↦ both_ways (on x g) n (on_from_On x g o)
  ],
  miss_all e f r t me mf gs (λ x w. (h x w).1),
)

-- near a corner a way that misses its two edges misses all
pub record Around (es : List Segment) (e f : Segment) : Type 0 where
  pub m : ℕ
  pub some : 0 < m
  pub same : (r t : Point) → Near m (point_of e.b) r → Near m (point_of e.b) t → Misses r t e → Misses r t f → wind r es ≡ wind t es

pub around : (es : List Segment) → AreRingEdges es → (e f : Segment) → Contains es e → Contains es f → e.b ≡ f.a → Around es e f
around es k e f ce cf n = record {
  m = s.m;
  some = s.some;
  same = λ r t hr ht me mf. still r t es k.balance
      (miss_all e f r t me mf es (λ x w. s.holds x (near_along s.m (point_of e.b) r t x hr ht w)));
}
  where
    s : Soon (point_of e.b) (λ r. AllByRecursion (Else e f r) es)
    s = near_others es k e f ce cf n es (λ g m. m)

-- a way left of an edge misses it, and so does one right of it
pub left_misses : (r t : Point) (e : Segment) → pos 0 <ℤ side r e → pos 0 <ℤ side t e → Misses r t e
left_misses r t e h k x w o = omega (arith, linear, o.straight, stays_left_along r t x e w h k)

pub right_misses : (r t : Point) (e : Segment) → side r e <ℤ pos 0 → side t e <ℤ pos 0 → Misses r t e
right_misses r t e h k x w o = omega (arith, linear, o.straight, stays_right_along r t x e w h k)

-- ---- inner points near the ends of an edge
pub near_a : Segment → ℕ → Point
near_a e m = part_way e (suc (m * span e))

pub near_a-near : (e : Segment) (m : ℕ) → Near m (point_of e.a) (near_a e m)
unfolding near_a
near_a-near e m = near_part_way (point_of e.a) e m (suc (m * span e)) (sym (one-mul e.a.x)) (sym (one-mul e.a.y)) (omega arith)

pub near_a-inner : (e : Segment) (m : ℕ) → e.a ≢ e.b → Inner (near_a e m) e
unfolding near_a
near_a-inner e m n = record {
  on_edge = on_from_On (part_way e (suc (m * span e))) e (on-part_way e (suc (m * span e)));
  no_end = not_end e (suc (m * span e)) n (omega arith);
}

pub inner_back : (p : Point) (e : Segment) → Inner p (reversed e) → Inner p e
inner_back p e i = record { on_edge = sym (on-reversed p e) ∙ i.on_edge; no_end = either_end (is_at p e.a) (is_at p e.b) ∙ i.no_end }

-- ---- past the corner
-- left of both edges, or right of both, there are points near both
left_turn : (es : List Segment) → AreRingEdges es → (u v w : Vertex) → Contains es (record { a = u; b = v })
    → Contains es (record { a = v; b = w }) → (m : Around es (record { a = u; b = v }) (record { a = v; b = w })) → (p q : Point) (l n : ℤ)
    →
    Near m.m (point_of v) p → Near m.m (point_of v) q → side p (record { a = u; b = v }) ≡ pos 0 → side q (record { a = v; b = w }) ≡ pos 0
    →
    Soon p (λ r. pos 0 <ℤ side r (record { a = u; b = v }) → pos 0 <ℤ side r (record { a = v; b = w }))
    → Soon q (λ r. pos 0 <ℤ side r (record { a = v; b = w }) → pos 0 <ℤ side r (record { a = u; b = v })) →
    Soon p (Parts l (record { a = u; b = v }) es) → Soon q (Parts n (record { a = v; b = w }) es) → l ≡ n
left_turn es k u v w ce cf m p q l n np nq zp zq lp lq hp hq = sym (at_p.0.left bp.is_left) ∙ (m.same bp.left bq.left at_p.1.1 at_q.1.1
    (left_misses bp.left bq.left e bp.is_left (at_q.1.0 bq.is_left))
    (left_misses bp.left bq.left f (at_p.1.0 bp.is_left) bq.is_left) ∙ at_q.0.left bq.is_left)
  where
    e : Segment
    e = record { a = u; b = v }

    f : Segment
    f = record { a = v; b = w }

    sp : Soon p (λ r. Parts l e es r × ((pos 0 <ℤ side r e → pos 0 <ℤ side r f) × Near m.m (point_of v) r))
    sp = both_soon p hp (both_soon p lp (near_open m.m (point_of v) p np))

    sq : Soon q (λ r. Parts n f es r × ((pos 0 <ℤ side r f → pos 0 <ℤ side r e) × Near m.m (point_of v) r))
    sq = both_soon q hq (both_soon q lq (near_open m.m (point_of v) q nq))

    bp : Beside p e sp.m
    bp = beside p e sp.m (heading e (k.differ e ce)) zp

    bq : Beside q f sq.m
    bq = beside q f sq.m (heading f (k.differ f cf)) zq

    at_p : Parts l e es bp.left × ((pos 0 <ℤ side bp.left e → pos 0 <ℤ side bp.left f) × Near m.m (point_of v) bp.left)
    at_p = sp.holds bp.left bp.near_left

    at_q : Parts n f es bq.left × ((pos 0 <ℤ side bq.left f → pos 0 <ℤ side bq.left e) × Near m.m (point_of v) bq.left)
    at_q = sq.holds bq.left bq.near_left

right_turn : (es : List Segment) → AreRingEdges es → (u v w : Vertex) → Contains es (record { a = u; b = v })
    → Contains es (record { a = v; b = w }) → (m : Around es (record { a = u; b = v }) (record { a = v; b = w })) → (p q : Point) (l n : ℤ)
    →
    Near m.m (point_of v) p → Near m.m (point_of v) q → side p (record { a = u; b = v }) ≡ pos 0 → side q (record { a = v; b = w }) ≡ pos 0
    →
    Soon p (λ r. side r (record { a = v; b = w }) <ℤ pos 0) → Soon q (λ r. side r (record { a = u; b = v }) <ℤ pos 0) →
    Soon p (Parts l (record { a = u; b = v }) es) → Soon q (Parts n (record { a = v; b = w }) es) → l ≡ n
right_turn es k u v w ce cf m p q l n np nq zp zq lp lq hp hq =
    omega (
      arith,
      linear,
      at_p.0.right bp.is_right,
      at_q.0.right bq.is_right,
      m.same bp.right bq.right at_p.1.1 at_q.1.1
          (right_misses bp.right bq.right e bp.is_right at_q.1.0) (right_misses bp.right bq.right f at_p.1.0 bq.is_right),
    )
  where
    e : Segment
    e = record { a = u; b = v }

    f : Segment
    f = record { a = v; b = w }

    sp : Soon p (λ r. Parts l e es r × ((side r f <ℤ pos 0) × Near m.m (point_of v) r))
    sp = both_soon p hp (both_soon p lp (near_open m.m (point_of v) p np))

    sq : Soon q (λ r. Parts n f es r × ((side r e <ℤ pos 0) × Near m.m (point_of v) r))
    sq = both_soon q hq (both_soon q lq (near_open m.m (point_of v) q nq))

    bp : Beside p e sp.m
    bp = beside p e sp.m (heading e (k.differ e ce)) zp

    bq : Beside q f sq.m
    bq = beside q f sq.m (heading f (k.differ f cf)) zq

    at_p : Parts l e es bp.right × ((side bp.right f <ℤ pos 0) × Near m.m (point_of v) bp.right)
    at_p = sp.holds bp.right bp.near_right

    at_q : Parts n f es bq.right × ((side bq.right e <ℤ pos 0) × Near m.m (point_of v) bq.right)
    at_q = sq.holds bq.right bq.near_right

-- the edge behind a corner has the number of the edge before it
pub past : (es : List Segment) → AreRingEdges es → (u v w : Vertex) (l : ℤ) → Contains es (record { a = u; b = v })
    → Contains es (record { a = v; b = w }) → Whole es l (record { a = u; b = v }) → Whole es l (record { a = v; b = w })
past es k u v w l ce cf h = whole es k f cf l q iq (subst (λ z. Soon q (Parts z f es)) (sym same) t.1)
  where
    e : Segment
    e = record { a = u; b = v }

    f : Segment
    f = record { a = v; b = w }

    ne : e.a ≢ e.b
    ne = k.differ e ce

    nf : f.a ≢ f.b
    nf = k.differ f cf

    m : Around es e f
    m = around es k e f ce cf refl

    p : Point
    p = near_a (reversed e) m.m

    q : Point
    q = near_a f m.m

    rp : Inner p (reversed e)
    rp = near_a-inner (reversed e) m.m (λ s. ne (sym s))

    ip : Inner p e
    ip = inner_back p e rp

    iq : Inner q f
    iq = near_a-inner f m.m nf

    np : Near m.m (point_of v) p
    np = near_a-near (reversed e) m.m

    nq : Near m.m (point_of v) q
    nq = near_a-near f m.m

    zp : side p e ≡ pos 0
    zp = (On-from_on p e ip.on_edge).straight

    zq : side q f ≡ pos 0
    zq = (On-from_on q f iq.on_edge).straight

    t : (n : ℤ) × Soon q (Parts n f es)
    t = two_sides es k f cf q iq

    wp : Weighed p (reversed e)
    wp = weighed p (reversed e) (heading (reversed e) (λ s. ne (sym s))) rp

    wp_on : Weighed p e
    wp_on = weighed p e (heading e ne) ip

    wq : Weighed q f
    wq = weighed q f (heading f nf) iq

    same_turn : side (point_of u) f ≡ side (point_of w) e
    same_turn = omega (arith, linear, ends_sum e f, side-own_a f, side-own_b e)

    same : l ≡ t.0
    same = by_sign (side (point_of w) e)
        (λ s. left_turn es k u v w ce cf m p q l t.0 np nq zp zq
        (soon_so p
        (stays_left p f (inner_left p (reversed e) f wp (omega (arith, linear, side-own_a f)) (omega (arith, linear, same_turn))))
        (λ r x _. x))
        (soon_so q (stays_left q e (inner_left q f e wq (omega (arith, linear, side-own_b e)) s)) (λ r x _. x)) (h p ip) t.1)
        (λ s. let ahead = goes_on es k u v w ce cf s in let far = long e (heading e ne) in left_turn es k u v w ce cf m p q l t.0 np nq zp zq
        (always p (λ r x. pos_from_mul (length_of e) (side r f) far
        (omega (arith, linear, tied r u v w s, mul-pos (run_to e w) (side r e) ahead x))))
        (always q (λ r x. pos_from_mul (run_to e w) (side r e) ahead
        (omega (arith, linear, tied r u v w s, mul-pos (length_of e) (side r f) far x)))) (h p ip) t.1)
        (λ s. right_turn es k u v w ce cf m p q l t.0 np nq zp zq
        (stays_right p f (inner_right p e f wp_on (omega (arith, linear, same_turn)) (omega (arith, linear, side-own_a f))))
        (stays_right q e (right_of_q s)) (h p ip) t.1)
      where
        rq : Weighed q (reversed f)
        rq = weighed q (reversed f) (heading (reversed f) (λ x. nf (sym x))) (inner_back q (reversed f) iq)

        right_of_q : side (point_of w) e <ℤ pos 0 → side q e <ℤ pos 0
        right_of_q s = inner_right q (reversed f) e rq s (omega (arith, linear, side-own_b e))
