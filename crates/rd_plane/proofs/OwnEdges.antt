-- Edges of a ring in turn, ends that are points, and which edges go through a point that is no end.
use Rattle.std.proofs.Common.{◌≡◌, ℕ, ◌+◌, refl, sym, ap, ◌∙◌, arith, ◌<◌, ◌≤◌, inl, inr, zero, suc, List, [], ◌∷◌, length}
use Rattle.std.specs.Prelude.{pos, ◌<ℤ◌, true, false, Bool, ◌≢◌, cond, slice_index_or}
use Rattle.std.specs.List.{Contains, count_by}
use Rattle.std.proofs.lemmas.Bool.{cases_lt}
use Rattle.std.proofs.lemmas.List.Sums.{sum_by-cons}
use Rattle.rd_plane.specs.Plane.{Vertex, Segment, Point, on, is_at, is_end}
use Rattle.rd_plane.specs.Jump.{is_along, is_against, run}
use Rattle.rd_plane.specs.Shapes.{edges_along, ring_edges, MeetsInTurn}
use Rattle.rd_plane.proofs.Polynomials.{linear}
use Rattle.rd_plane.proofs.Touching.{on_from_On}
use Rattle.rd_plane.proofs.Sides.{heading}
use Rattle.rd_plane.proofs.OffNear.{long}
use Rattle.rd_plane.proofs.Apart.{on_end_a, on_end_b}
use Rattle.rd_plane.proofs.FreePoint.{end_cases}
use Rattle.rd_plane.proofs.Members.{one_if, contains_cases}
use Rattle.rd_plane.proofs.RingEdges.{no_a, no_b}
use Rattle.rd_plane.proofs.RingPlaces.{other_default}

-- an end of an edge is a point of it
pub end_on : (p : Point) (f : Segment) → is_end p f ≡ true → on p f ≡ true
end_on p f h = elim (end_cases p f h) [
  | inl k ↦ on_from_On p f (on_end_a p f k.0 k.1)
  | inr k ↦ on_from_On p f (on_end_b p f k.0 k.1)
]

pub some_pass : {X : Type 0} (p : X → Bool) (xs : List X) (x : X) → Contains xs x → p x ≡ true → 0 < count_by p xs
some_pass p [] x c h = absurd (omega (arith, c.1))
some_pass p (y ∷ ys) x c h = elim (contains_cases y x ys c) [
  | inl q ↦ let e : one_if (p y) ≡ 1 = ap one_if (ap p q ∙ h) in omega (arith, sum_by-cons (λ x. one_if (p x)) y ys)
  | inr d ↦ omega (arith, sum_by-cons (λ x. one_if (p x)) y ys, some_pass p ys x d h)
]

pub run_self : (e : Segment) → e.a ≢ e.b → pos 0 <ℤ run e e
unfolding run
run_self e n = long e (heading e n)

pub yes_along : (p : Point) (e f : Segment) → on p f ≡ true → pos 0 <ℤ run e f → is_along p e f ≡ true
yes_along p e f o h = grind (arith, linear)

-- those along and those against are through p
pub through_count : (p : Point) (e : Segment) (es : List Segment)
    → count_by (is_along p e) es + count_by (is_against p e) es ≤ count_by (on p) es
through_count p e [] = omega arith
through_count p e (f ∷ fs) = omega (
  arith,
  sum_by-cons (λ f. one_if (is_along p e f)) f fs,
  sum_by-cons (λ f. one_if (is_against p e f)) f fs,
  sum_by-cons (λ f. one_if (on p f)) f fs,
  through_count p e fs,
  here p e f,
)
  where
    here : (p : Point) (e f : Segment) → one_if (is_along p e f) + one_if (is_against p e f) ≤ one_if (on p f)
    here p e f = grind (arith, linear)

pub either_end : (a b : Bool) → cond a true b ≡ cond b true a
either_end true true = refl
either_end true false = refl
either_end false true = refl
either_end false false = refl

-- two edges through a point that is no end of the first are the same
abbrev pub OwnMeets : List Segment → Type 0
OwnMeets es = (e g : Segment) (p : Point) → Contains es e → Contains es g → on p e ≡ true → on p g ≡ true → is_end p e ≡ false → g ≡ e

-- ---- the edges along the points, in turn
next_along : (first u : Vertex) (ws : List Vertex) (i : ℕ) (d : Segment) → suc i < length (edges_along first u ws) →
    (slice_index_or (edges_along first u ws) i d).b ≡ (slice_index_or (edges_along first u ws) (suc i) d).a
next_along first u [] i d h = absurd (omega arith)
next_along first u (w ∷ []) zero d h = refl
next_along first u (w ∷ (x ∷ xs)) zero d h = refl
next_along first u (w ∷ ws) (suc i) d h = next_along first w ws i d (omega arith)

first_along : (first u : Vertex) (ws : List Vertex) (d : Segment) → (slice_index_or (edges_along first u ws) zero d).a ≡ u
first_along first u [] d = refl
first_along first u (w ∷ ws) d = refl

last_along : (first u : Vertex) (ws : List Vertex) (i : ℕ) (d : Segment) → suc i ≡ length (edges_along first u ws)
    → (slice_index_or (edges_along first u ws) i d).b ≡ first
last_along first u [] zero d h = refl
last_along first u [] (suc i) d h = absurd (omega arith)
last_along first u (w ∷ []) zero d h = absurd (omega arith)
last_along first u (w ∷ (x ∷ xs)) zero d h = absurd (omega arith)
last_along first u (w ∷ ws) (suc i) d h = last_along first w ws i d (omega arith)

pub next_ring : (ring : List Vertex) (i j : ℕ) (d : Segment) → j ≡ suc i → j < length (ring_edges ring)
    → (slice_index_or (ring_edges ring) i d).b ≡ (slice_index_or (ring_edges ring) j d).a
next_ring [] i j d e h = absurd (omega arith)
next_ring (v ∷ vs) i j d e h = rw e (next_along v v vs i d (omega arith))

pub last_ring : (ring : List Vertex) (i j : ℕ) (d : Segment) → i ≡ 0 → suc j ≡ length (ring_edges ring)
    → (slice_index_or (ring_edges ring) i d).a ≡ (slice_index_or (ring_edges ring) j d).b
last_ring [] i j d e h = absurd (omega arith)
last_ring (v ∷ vs) i j d e h = rw e (first_along v v vs d ∙ sym (last_along v v vs j d h))

pub own_ring : (ring : List Vertex) → MeetsInTurn ring → OwnMeets (ring_edges ring)
own_ring ring m e g p ce cg oe og n = elim (cases_lt ce.0 cg.0) [
  | inl less ↦ elim (m ce.0 cg.0 e p less cg.1 on_e on_g) [
    | inl t ↦ absurd (no_b p e n (ap (λ (f : Segment). is_at p f.b) (sym ce.2) ∙ t.1))
    | inr t ↦ absurd (no_a p e n (ap (λ (f : Segment). is_at p f.a) (sym ce.2) ∙ t.2))
  ]
  | inr same_or_more ↦ elim (cases_lt cg.0 ce.0) [
    | inl less ↦ elim (m cg.0 ce.0 e p less ce.1 on_g on_e) [
      | inl t ↦ absurd (no_a p e n (ap (λ (f : Segment). is_at p f.a)
          (sym ce.2) ∙ (ap (is_at p) (sym (next_ring ring cg.0 ce.0 e (omega (arith, t.0)) ce.1)) ∙ t.1)))
      | inr t ↦ absurd (no_b p e n (ap (λ (f : Segment). is_at p f.b)
          (sym ce.2) ∙ (ap (is_at p) (sym (last_ring ring cg.0 ce.0 e t.0 (omega (arith, t.1)))) ∙ t.2)))
    ]
    | inr other ↦ let q : cg.0 ≡ ce.0 = omega (arith, same_or_more, other)
        in sym is_g ∙ (ap (λ k. slice_index_or (ring_edges ring) k e) q ∙ ce.2)
  ]
]
  where
    is_g : slice_index_or (ring_edges ring) cg.0 e ≡ g
    is_g = other_default (ring_edges ring) cg.0 e g cg.1 ∙ cg.2

    on_e : on p (slice_index_or (ring_edges ring) ce.0 e) ≡ true
    on_e = ap (on p) ce.2 ∙ oe

    on_g : on p (slice_index_or (ring_edges ring) cg.0 e) ≡ true
    on_g = ap (on p) is_g ∙ og
