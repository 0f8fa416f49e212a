-- Whole lines are cut off the front of an input.
use Rattle.std.proofs.Common.{◌≡◌, ◌<◌, ◌+◌, ◌++◌, ◌∷◌, ◌==◌, ◌∙◌, ℕ, List, [], true, length, take, drop, get_or, ap, sym}
use Rattle.std.proofs.lemmas.Bool.{eqb-true}
use Rattle.std.proofs.lemmas.List.{take_more}
use Rattle.message_text.proofs.Cutting.{Lacks, cut}
use Rattle.ring_judge.specs.Judging.{parts}

-- a line is in front
pub front_is : (bytes line behind : List ℕ) (n : ℕ) → n < length bytes → Lacks 10 bytes n → (get_or bytes n 0 == 10) ≡ true
    → line ≡ take (n + 1) bytes → behind ≡ drop (n + 1) bytes
    → (body : List ℕ) × (line ≡ body ++ 10 ∷ []) × (parts bytes ≡ body ∷ parts behind)
front_is bytes line behind n inside lacks here front back = (
  take n bytes,
  front ∙ (take_more bytes n 0 inside ∙ ap (λ (b : ℕ). take n bytes ++ b ∷ []) (eqb-true (get_or bytes n 0) 10 here)),
  cut 10 bytes n inside lacks here ∙ ap (λ (rest : List ℕ). take n bytes ∷ parts rest) (sym back),
)
