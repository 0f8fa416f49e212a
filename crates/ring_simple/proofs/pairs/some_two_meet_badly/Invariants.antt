use Rattle.std.proofs.Common.{ℕ, ◌<◌, length}
use Rattle.ring_simple.specs.Stretches.{MeetsSomeOf}
use Rattle.ring_simple.proofs.pairs.some_two_meet_badly.Given as goal

abbrev pub invariant-loop-j : goal.invariant-loop-j
invariant-loop-j l = (m : ℕ) → m < l.j → MeetsSomeOf l.points 0 (length l.points) m → ⊥
