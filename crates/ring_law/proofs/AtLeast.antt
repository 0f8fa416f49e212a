-- The least corner of a ring and the edges at it, as the code holds them.
use Rattle.std.proofs.Common.{◌≡◌, ℕ, ◌+◌, ◌<◌, refl, sym, ap, ◌∙◌, arith, inl, inr, List, length, subst}
use Rattle.std.specs.Prelude.{slice_index_or, ◌≢◌, ◌⊎◌, ◌↔◌, ◌==◌, pos, negsuc, ◌<ℤ◌, Bool, true, false}
use Rattle.std.specs.Ordering.{ordering_reverse, ordering_index}
use Rattle.std.specs.declared.cmp.Ordering.{Ordering}
use Rattle.std.specs.declared.cmp.Ordering.TheVariants.{Less, Equal, Greater}
use Rattle.std.proofs.lemmas.Bool.{cases_lt, true≢false}
use Rattle.rd_plane.specs.Order.{vertex_cmp, vertex_cmp-total, same_edge}
use Rattle.rd_plane.specs.Plane.{Vertex, Segment, point_of, side}
use Rattle.rd_plane.specs.Shapes.{HasCorners, MeetsInTurn, WindsBy, ring_edges}
use Rattle.rd_plane.specs.declared.turn.Turn.{Turn}
use Rattle.rd_plane.specs.declared.turn.Turn.TheVariants.{Left, Straight, Right}
use Rattle.rd_plane.proofs.RingPlaces.{length-ring, other_default, starts_at}
use Rattle.ring_law.specs.Turns.{IsAtLeast, IsLeastUpTo, IsTurn, TurnsAtLeast, WindsSome}
use Rattle.rd_plane.proofs.Polynomials.{linear}
use Rattle.rd_plane.proofs.FreePoint.{point_from}
use Rattle.ring_law.proofs.OfRing.{same_going, same_coming}
use Rattle.ring_law.proofs.Least.{NotBefore}
use Rattle.ring_law.proofs.Law.{none_before, left_winds, left_some, right_winds, right_some, not_straight}
use Rattle.rd_plane.proofs.OwnEdges.{next_ring, last_ring}

abbrev is_less : Ordering → Bool
is_less Less = true
is_less Equal = false
is_less Greater = false

less_not_greater : Less ≡ Greater → ⊥
less_not_greater q = true≢false (ap is_less q)

less_not_equal : Less ≡ Equal → ⊥
less_not_equal q = true≢false (ap is_less q)

-- what the code tests of a comparison
pub less_from : (o : Ordering) → (ordering_index o == 0) ≡ true → o ≡ Less
less_from Less h = refl
less_from Equal h = absurd (true≢false (sym h))
less_from Greater h = absurd (true≢false (sym h))

pub not_less_from : (o : Ordering) → (ordering_index o == 0) ≡ false → o ≢ Less
not_less_from Less h q = true≢false h
not_less_from Equal h q = less_not_equal (sym q)
not_less_from Greater h q = less_not_greater (sym q)

not_itself : (v : Vertex) → vertex_cmp v v ≢ Less
not_itself v q = other (vertex_cmp v v) q (vertex_cmp-total.antisymm v v)
  where
    other : (o : Ordering) → o ≡ Less → o ≡ ordering_reverse o → ⊥
    other Less q e = less_not_greater e
    other Equal q e = less_not_equal (sym q)
    other Greater q e = less_not_greater (sym q)

-- the corner at k is less than the least before it
pub lesser_then : (ring : List Vertex) (i k : ℕ) (x y : Vertex) → i < k → k < length ring → x ≡ slice_index_or ring k x
    → y ≡ slice_index_or ring i y → vertex_cmp x y ≡ Less → IsLeastUpTo ring i k → IsLeastUpTo ring k (k + 1)
lesser_then ring i k x y l h qx qy c p = record {
  inside = omega arith;
  none_less = λ j d b e. elim (cases_lt j k) [
    | inl a ↦ p.none_less j d a
        (vertex_cmp-total.trans (slice_index_or ring j d) (slice_index_or ring k d) (slice_index_or ring i d) e (less d))
    | inr a ↦ let s : j ≡ k = omega (arith, a, b) in not_itself (slice_index_or ring k d)
        (subst (λ n. vertex_cmp (slice_index_or ring n d) (slice_index_or ring k d) ≡ Less) s e)
  ];
}
  where
    at_x : (d : Vertex) → slice_index_or ring k d ≡ x
    at_x d = other_default ring k d x h ∙ sym qx

    at_y : (d : Vertex) → slice_index_or ring i d ≡ y
    at_y d = other_default ring i d y (omega (arith, l, h)) ∙ sym qy

    less : (d : Vertex) → vertex_cmp (slice_index_or ring k d) (slice_index_or ring i d) ≡ Less
    less d = rw (at_x d, at_y d) c

-- it is not
pub lesser_else : (ring : List Vertex) (i k : ℕ) (x y : Vertex) → i < k → k < length ring → x ≡ slice_index_or ring k x
    → y ≡ slice_index_or ring i y → vertex_cmp x y ≢ Less → IsLeastUpTo ring i k → IsLeastUpTo ring i (k + 1)
lesser_else ring i k x y l h qx qy c p = record {
  inside = omega (arith, l);
  none_less = λ j d b e. elim (cases_lt j k) [
    | inl a ↦ p.none_less j d a e
    | inr a ↦ let s : j ≡ k = omega (arith, a, b) in c
        (sym (not_less d) ∙ subst (λ n. vertex_cmp (slice_index_or ring n d) (slice_index_or ring i d) ≡ Less) s e)
  ];
}
  where
    not_less : (d : Vertex) → vertex_cmp (slice_index_or ring k d) (slice_index_or ring i d) ≡ vertex_cmp x y
    not_less d = rw (other_default ring k d x h ∙ sym qx, other_default ring i d y (omega (arith, l, h)) ∙ sym qy) refl

pub first_least : (ring : List Vertex) → IsLeastUpTo ring 0 1
first_least ring = record {
  inside = omega arith;
  none_less = λ k d l e. let s : k ≡ 0 = omega (arith, l) in not_itself (slice_index_or ring 0 d)
      (subst (λ n. vertex_cmp (slice_index_or ring n d) (slice_index_or ring 0 d) ≡ Less) s e);
}

-- the edges at the least corner
pub at_least_is : (ring : List Vertex) (i j : ℕ) (e f : Segment) → i < length ring → e ≡ slice_index_or (ring_edges ring) i e
    → f ≡ slice_index_or (ring_edges ring) j f → ((j ≡ i + 1) ⊎ ((j ≡ 0) × (i + 1 ≡ length ring))) → IsLeastUpTo ring j (length ring) →
    IsAtLeast ring e.a f.a f.b
at_least_is ring i j e f h qe qf s p = record {
  comes = (
    i,
    omega (arith, h, length-ring ring),
    other_default (ring_edges ring) i _ e
        (omega (arith, h, length-ring ring)) ∙ (sym qe ∙ same_edge e (record { a = e.a; b = f.a }) refl joined),
  );
  goes = (j, omega (arith, p.inside, length-ring ring), sym qf);
  none_less = λ k d l. subst (λ v. vertex_cmp (slice_index_or ring k d) v ≢ Less) (at_f d) (p.none_less k d l);
}
  where
    at_f : (d : Vertex) → slice_index_or ring j d ≡ f.a
    at_f d = sym (starts_at ring j f d p.inside) ∙ sym (ap (λ (g : Segment). g.a) qf)

    joined : e.b ≡ f.a
    joined = ap (λ (g : Segment). g.b) qe ∙ (elim s [
      | inl q ↦ next_ring ring i j e (omega (arith, q)) (omega (arith, p.inside, length-ring ring))
      | inr q ↦ sym (last_ring ring j i e q.0 (omega (arith, q.1, length-ring ring)))
    ] ∙ (ap (λ (g : Segment). g.a)
        (other_default (ring_edges ring) j e f (omega (arith, p.inside, length-ring ring))) ∙ sym (ap (λ (g : Segment). g.a) qf)))

-- the same of equal edges
pub at_same : (ring : List Vertex) (e f x y : Segment) → x ≡ e → y ≡ f → IsAtLeast ring e.a f.a f.b → IsAtLeast ring x.a y.a y.b
at_same ring e f x y q r h = rw (q, r) h

-- what `orient` answers
pub turn_from : (u v w : Vertex) (t : Turn) → (t ≡ Left) ↔ (pos 0 <ℤ side (point_of w) (record { a = u; b = v })) → (t ≡ Straight)
    ↔ (side (point_of w) (record { a = u; b = v }) ≡ pos 0) → (t ≡ Right) ↔ (side (point_of w) (record { a = u; b = v }) <ℤ pos 0)
    → IsTurn u v w t
turn_from u v w Left l s r = l.0 refl
turn_from u v w Straight l s r = s.0 refl
turn_from u v w Right l s r = r.0 refl

-- ---- a ring has one turn at its least corner
turn_one : (u v w : Vertex) (s t : Turn) → IsTurn u v w s → IsTurn u v w t → s ≡ t
turn_one u v w Left Left h k = refl
turn_one u v w Left Straight h k = absurd (omega (arith, linear, h, k))
turn_one u v w Left Right h k = absurd (omega (arith, linear, h, k))
turn_one u v w Straight Left h k = absurd (omega (arith, linear, h, k))
turn_one u v w Straight Straight h k = refl
turn_one u v w Straight Right h k = absurd (omega (arith, linear, h, k))
turn_one u v w Right Left h k = absurd (omega (arith, linear, h, k))
turn_one u v w Right Straight h k = absurd (omega (arith, linear, h, k))
turn_one u v w Right Right h k = refl

-- two corners of which neither is before the other
one_least : (m n : Vertex) → NotBefore m n → NotBefore n m → m ≡ n
one_least m n h k = elim h [
  | inl x ↦ elim k [ inl y ↦ absurd (omega (arith, linear, x, y)) | inr y ↦ absurd (omega (arith, linear, x, y.0)) ]
  | inr x ↦ elim k [ inl y ↦ absurd (omega (arith, linear, x.0, y)) | inr y ↦ point_from m n x.0 (omega (arith, linear, x.1, y.1)) ]
]

pub one_turn : (ring : List Vertex) (s t : Turn) → HasCorners ring → TurnsAtLeast ring s → TurnsAtLeast ring t → s ≡ t
one_turn ring s t c h k = turn_one h.before h.least h.after s t h.is (at_same_turn k.before h.before k.least h.least k.after h.after t
    (ap (λ (e : Segment). e.a) comes) (sym least) (ap (λ (e : Segment). e.b) goes) k.is)
  where
    least : h.least ≡ k.least
    least = one_least h.least k.least (none_before ring h.least h.at.none_less (record { a = k.least; b = k.after }) k.at.goes).0
        (none_before ring k.least k.at.none_less (record { a = h.least; b = h.after }) h.at.goes).0

    goes : ◌≡◌ {A = Segment} (record { a = k.least; b = k.after }) (record { a = h.least; b = h.after })
    goes = same_going ring c (record { a = h.least; b = h.after }) (record { a = k.least; b = k.after }) h.at.goes k.at.goes least

    comes : ◌≡◌ {A = Segment} (record { a = k.before; b = k.least }) (record { a = h.before; b = h.least })
    comes = same_coming ring c (record { a = h.before; b = h.least }) (record { a = k.before; b = k.least })
        (record { a = h.least; b = h.after }) h.at.comes k.at.comes h.at.goes refl (sym least)

    at_same_turn : (u x v y w z : Vertex) (t : Turn) → u ≡ x → v ≡ y → w ≡ z → IsTurn u v w t → IsTurn x y z t
    at_same_turn u x v y w z t p q r i = rw (← p, ← q, ← r) i

-- ---- which way the ring winds
pub runs_so : (ring : List Vertex) → HasCorners ring → MeetsInTurn ring → TurnsAtLeast ring Left
    → WindsBy (pos 1) (ring_edges ring) × WindsSome (pos 1) (ring_edges ring)
runs_so ring c m t = (left_winds ring t.before t.least t.after c m t.at t.is, left_some ring t.before t.least t.after c m t.at t.is)

pub runs_back : (ring : List Vertex) → HasCorners ring → MeetsInTurn ring → TurnsAtLeast ring Right
    → WindsBy (negsuc 0) (ring_edges ring) × WindsSome (negsuc 0) (ring_edges ring)
runs_back ring c m t = (right_winds ring t.before t.least t.after c m t.at t.is, right_some ring t.before t.least t.after c m t.at t.is)

pub never_on : {P : Type 0} (ring : List Vertex) → HasCorners ring → MeetsInTurn ring → TurnsAtLeast ring Straight → P
never_on ring c m t = absurd (not_straight ring t.before t.least t.after c m t.at t.is)
