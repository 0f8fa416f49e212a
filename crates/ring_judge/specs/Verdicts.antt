-- What is said of a line, and the line of the reply.
use Rattle.std.specs.Prelude.{◌≤◌, ◌<◌, ℕ, Bool, true, false, List, [], ◌∷◌, ◌++◌, length, codes}
use Rattle.std.specs.Fmt.{decimal}
use Rattle.rd_plane.specs.Plane.{Vertex}
use Rattle.rd_plane.specs.declared.turn.Turn.TheVariants.{Left, Right}
use Rattle.ring_simple.specs.declared.fault.RingFault.TheVariants.{Few, Repeat, Meets}
use Rattle.ring_simple.specs.Faults.{IsRingFault}
use Rattle.ring_law.specs.Turns.{TurnsAtLeast}
use Rattle.part_shape.specs.Faults.{IsSimple}
use Rattle.message_text.specs.declared.limits.Limits.{Limits}
use Rattle.message_text.specs.OuterLines.{IsRingLine}
use Rattle.ring_judge.specs.declared.verdict.Verdict.{Verdict}
use Rattle.ring_judge.specs.declared.verdict.Verdict.TheVariants.{Syntax, Limit, Faulty, Clockwise, Fine}

-- what is said of a ring that is not too long: why it is not simple, or else which way it turns at its least corner
abbrev pub IsRingVerdict : List Vertex → Verdict → Type 0
IsRingVerdict ring (Faulty what) = IsRingFault ring what
IsRingVerdict ring Clockwise = IsSimple ring × TurnsAtLeast ring Right
IsRingVerdict ring Fine = IsSimple ring × TurnsAtLeast ring Left
IsRingVerdict ring _ = ⊥

-- what is said of a line, its line feed with it: that it is no ring, that the ring is too long, or what is said of the ring
abbrev pub IsVerdict : Limits → (line : List ℕ) → Verdict → Type 0
IsVerdict limits line Syntax = (ring : List Vertex) → ¬ IsRingLine line ring
IsVerdict limits line Limit = (ring : List Vertex) × IsRingLine line ring × (limits.ring_points < length ring)
IsVerdict limits line verdict
    = (ring : List Vertex) × IsRingLine line ring × (length ring ≤ limits.ring_points) × IsRingVerdict ring verdict

abbrev pub is_fine : Verdict → Bool
is_fine Fine = true
is_fine _ = false

-- the words of the reply, and its line feed
abbrev pub verdict_line : Verdict → List ℕ
verdict_line Syntax = codes "SYNTAX" ++ 10 ∷ []
verdict_line Limit = codes "LIMIT" ++ 10 ∷ []
verdict_line (Faulty Few) = codes "few" ++ 10 ∷ []
verdict_line (Faulty (Repeat at)) = codes "repeat " ++ (decimal at ++ 10 ∷ [])
verdict_line (Faulty (Meets first second)) = codes "meets " ++ (decimal first ++ 32 ∷ (decimal second ++ 10 ∷ []))
verdict_line Clockwise = codes "CLOCKWISE" ++ 10 ∷ []
verdict_line Fine = codes "OK" ++ 10 ∷ []

-- the reply to the line with this number
abbrev pub reply_line : ℕ → Verdict → List ℕ
reply_line number verdict = decimal number ++ 32 ∷ verdict_line verdict
