-- One thing at most is said of a ring, and of a line.
use Rattle.std.proofs.Common.{◌≡◌, ◌≤◌, ◌<◌, ◌∷◌, ◌∙◌, ℕ, List, [], length, refl, sym, ap, arith, subst}
use Rattle.std.proofs.lemmas.List.{append_cancel_right}
use Rattle.rd_plane.specs.Plane.{Vertex}
use Rattle.rd_plane.specs.declared.turn.Turn.{Turn}
use Rattle.rd_plane.specs.declared.turn.Turn.TheVariants.{Left, Right}
use Rattle.message_text.specs.declared.limits.Limits.{Limits}
use Rattle.message_text.specs.declared.token.Token.{Token}
use Rattle.message_text.specs.declared.token.Token.TheVariants.{Outer}
use Rattle.message_text.specs.OuterLines.{IsRingLine}
use Rattle.message_text.specs.Spelling.{wide}
use Rattle.message_text.specs.Tokens.{IsLine}
use Rattle.message_text.proofs.LineLaws.{one_token}
use Rattle.ring_law.proofs.AtLeast.{one_turn}
use Rattle.part_shape.proofs.OneFault.{one_ring_fault, simple_no_fault}
use Rattle.ring_judge.specs.declared.verdict.Verdict.{Verdict}
use Rattle.ring_judge.specs.declared.verdict.Verdict.TheVariants.{Syntax, Limit, Faulty, Clockwise, Fine}
use Rattle.ring_judge.specs.Verdicts.{IsRingVerdict, IsVerdict}

-- ---- one ring
abbrev is_left : Turn → Type 0
is_left Left = Unit {0}
is_left _ = ⊥

left_not_right : Left ≡ Right → ⊥
left_not_right q = subst is_left q tt

pub one_ring_verdict : (ring : List Vertex) (verdict other : Verdict) → IsRingVerdict ring verdict → IsRingVerdict ring other
    → verdict ≡ other
one_ring_verdict ring Syntax other h k = absurd h
one_ring_verdict ring Limit other h k = absurd h
one_ring_verdict ring (Faulty what) Syntax h k = absurd k
one_ring_verdict ring (Faulty what) Limit h k = absurd k
one_ring_verdict ring (Faulty what) (Faulty that) h k = ap Faulty (one_ring_fault ring what that h k)
one_ring_verdict ring (Faulty what) Clockwise h k = absurd (simple_no_fault ring what k.0 h)
one_ring_verdict ring (Faulty what) Fine h k = absurd (simple_no_fault ring what k.0 h)
one_ring_verdict ring Clockwise Syntax h k = absurd k
one_ring_verdict ring Clockwise Limit h k = absurd k
one_ring_verdict ring Clockwise (Faulty what) h k = absurd (simple_no_fault ring what h.0 k)
one_ring_verdict ring Clockwise Clockwise h k = refl
one_ring_verdict ring Clockwise Fine h k = absurd (left_not_right (one_turn ring Left Right h.0.corners k.1 h.1))
one_ring_verdict ring Fine Syntax h k = absurd k
one_ring_verdict ring Fine Limit h k = absurd k
one_ring_verdict ring Fine (Faulty what) h k = absurd (simple_no_fault ring what h.0 k)
one_ring_verdict ring Fine Clockwise h k = absurd (left_not_right (one_turn ring Left Right h.0.corners h.1 k.1))
one_ring_verdict ring Fine Fine h k = refl

-- ---- one line
abbrev ring_of : Token → List Vertex
ring_of (Outer ring) = ring
ring_of _ = []

-- a line is that of one ring
one_ring : (line : List ℕ) (ring other : List Vertex) → IsRingLine line ring → IsRingLine line other → ring ≡ other
one_ring line ring other h k = ap ring_of (one_token h.body (Outer ring) (Outer other) h.says
    (subst (λ b. IsLine wide b (Outer other)) (append_cancel_right k.body h.body (10 ∷ []) (sym k.ends ∙ h.ends)) k.says))

-- a line that is that of a ring, not too long, of which this is said
abbrev Says : Limits → List ℕ → Verdict → Type 0
Says limits line verdict = (ring : List Vertex) × IsRingLine line ring × (length ring ≤ limits.ring_points) × IsRingVerdict ring verdict

both : (limits : Limits) (line : List ℕ) (verdict other : Verdict) → Says limits line verdict → Says limits line other → verdict ≡ other
both limits line verdict other h k = one_ring_verdict h.0 verdict other h.3
    (subst (λ r. IsRingVerdict r other) (one_ring line k.0 h.0 k.1 h.1) k.3)

long_or_not : (limits : Limits) (line : List ℕ) (verdict : Verdict)
    → ((ring : List Vertex) × IsRingLine line ring × (limits.ring_points < length ring)) → Says limits line verdict → ⊥
long_or_not limits line verdict h k = omega (arith, h.2, k.2, ap length (one_ring line h.0 k.0 h.1 k.1))

pub one_verdict : (limits : Limits) (line : List ℕ) (verdict other : Verdict) → IsVerdict limits line verdict → IsVerdict limits line other
    → verdict ≡ other
one_verdict limits line Syntax Syntax h k = refl
one_verdict limits line Syntax Limit h k = absurd (h k.0 k.1)
one_verdict limits line Syntax (Faulty what) h k = absurd (h k.0 k.1)
one_verdict limits line Syntax Clockwise h k = absurd (h k.0 k.1)
one_verdict limits line Syntax Fine h k = absurd (h k.0 k.1)
one_verdict limits line Limit Syntax h k = absurd (k h.0 h.1)
one_verdict limits line Limit Limit h k = refl
one_verdict limits line Limit (Faulty what) h k = absurd (long_or_not limits line (Faulty what) h k)
one_verdict limits line Limit Clockwise h k = absurd (long_or_not limits line Clockwise h k)
one_verdict limits line Limit Fine h k = absurd (long_or_not limits line Fine h k)
one_verdict limits line (Faulty what) Syntax h k = absurd (k h.0 h.1)
one_verdict limits line (Faulty what) Limit h k = absurd (long_or_not limits line (Faulty what) k h)
one_verdict limits line (Faulty what) (Faulty that) h k = both limits line (Faulty what) (Faulty that) h k
one_verdict limits line (Faulty what) Clockwise h k = both limits line (Faulty what) Clockwise h k
one_verdict limits line (Faulty what) Fine h k = both limits line (Faulty what) Fine h k
one_verdict limits line Clockwise Syntax h k = absurd (k h.0 h.1)
one_verdict limits line Clockwise Limit h k = absurd (long_or_not limits line Clockwise k h)
one_verdict limits line Clockwise (Faulty what) h k = both limits line Clockwise (Faulty what) h k
one_verdict limits line Clockwise Clockwise h k = refl
one_verdict limits line Clockwise Fine h k = both limits line Clockwise Fine h k
one_verdict limits line Fine Syntax h k = absurd (k h.0 h.1)
one_verdict limits line Fine Limit h k = absurd (long_or_not limits line Fine k h)
one_verdict limits line Fine (Faulty what) h k = both limits line Fine (Faulty what) h k
one_verdict limits line Fine Clockwise h k = both limits line Fine Clockwise h k
one_verdict limits line Fine Fine h k = refl
