use Rattle.std.proofs.Common.{ℕ, ◌-◌, ◌<◌, length, refl, sym, ◌∙◌, subst, arith, List}
use Rattle.std.proofs.lemmas.Bool.{true≢false}
use Rattle.rd_plane.proofs.RingPlaces.{by_lt}
use Rattle.rd_plane.specs.Plane.{Vertex}
use Rattle.rd_plane.proofs.EdgeBoxes.{holds_edge}
use Rattle.ring_simple.specs.Faults.{MeetsBadly}
use Rattle.ring_simple.specs.Stretches.{MeetsSomeOf}
use Rattle.ring_simple.proofs.Along.{inside_ring}
use Rattle.ring_simple.proofs.pairs.meets_earlier.Goals as goal

-- an earlier edge is the one just before, or one before that
with_last : (ring : List Vertex) (j : ℕ) → 0 < j → (MeetsBadly ring (j - 1) j → ⊥) → MeetsSomeOf ring 0 (length ring) j → MeetsSomeOf ring 0 (j - 1) j
with_last ring j h n s = by_lt s.place (j - 1)
    (λ k. record { place = s.place; behind = s.behind; before = k; meets = s.meets })
    (λ k. absurd (n (subst (λ i. MeetsBadly ring i j) (omega (arith, h, k, s.meets.before)) s.meets)))

among_all : (ring : List Vertex) (j : ℕ) → MeetsSomeOf ring 0 (j - 1) j → MeetsSomeOf ring 0 (length ring) j
among_all ring j s = record {
  place = s.place;
  behind = s.behind;
  before = omega (arith, s.meets.before, inside_ring ring s.place j s.meets);
  meets = s.meets;
}

pub meets_some-requires-clause-own : goal.meets_some-requires-clause-own
meets_some-requires-clause-own c = holds_edge c.box_of_edge.result c.edge_at-f.result c.box_of_edge.ensures

pub returns-then-meets_badly : goal.returns-then-meets_badly
returns-then-meets_badly c = (
  λ _. let m = c.meets_badly.ensures.0 c.if-meets_badly.true in record {
    place = c.args.j - 1;
    behind = omega arith;
    before = omega (arith, c.requires.inside, c.requires.later);
    meets = m;
  },
  λ _. refl,
)

pub returns : goal.returns
returns c = (
  λ t. among_all c.args.points.now c.args.j (c.meets_some.ensures.0 t),
  λ s. c.meets_some.ensures.1
      (with_last c.args.points.now c.args.j c.requires.later (λ b. true≢false (sym (c.meets_badly.ensures.1 b) ∙ c.if-meets_badly.false)) s),
)
