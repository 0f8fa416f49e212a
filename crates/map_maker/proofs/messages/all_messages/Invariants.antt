use Rattle.std.proofs.Common.{◌≡◌, ◌+◌, ◌∷◌, map}
use Rattle.map_maker.specs.Made.{below, first_message, next_message}
use Rattle.map_maker.proofs.messages.all_messages.Given as goal

abbrev pub invariant-loop-k : goal.invariant-loop-k
invariant-loop-k l = l.messages ≡ first_message l.n ∷ map (λ k. next_message l.n (k + 1)) (below l.k)
