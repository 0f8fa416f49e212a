-- The lines of an input, judged one by one.
use Rattle.std.specs.Prelude.{◌≡◌, ◌==◌, ◌+◌, ℕ, Bool, List, [], ◌∷◌, ◌++◌, length, Option, MatchOption}
use Rattle.std.specs.Borrow.{Bor}
use Rattle.std.specs.List.{AllZip, list_all, slice_split}
use Rattle.message_text.specs.declared.limits.Limits.{Limits}
use Rattle.message_text.specs.Lines.{HasLines}
use Rattle.ring_judge.specs.declared.verdict.Verdict.{Verdict}
use Rattle.ring_judge.specs.Verdicts.{IsVerdict, is_fine, reply_line}

-- the replies to lines that are numbered from this one on
abbrev pub reply_lines : ℕ → List Verdict → List ℕ
reply_lines number [] = []
reply_lines number (verdict ∷ verdicts) = reply_line number verdict ++ reply_lines (number + 1) verdicts

-- this is said of each of the lines, which have their line feeds
abbrev pub AreVerdicts : Limits → List (List ℕ) → List Verdict → Type 0
AreVerdicts limits lines verdicts = AllZip (λ line verdict. IsVerdict limits (line ++ 10 ∷ []) verdict) lines verdicts

-- this is said of the whole lines of the input, and this tail follows the last of them
pub record AreJudged (limits : Limits) (input : List ℕ) (verdicts : List Verdict) (tail : List ℕ) : Type 0 where
  pub lines : List (List ℕ)
  pub cut : HasLines input lines tail
  pub each : AreVerdicts limits lines verdicts

-- these are the replies to the whole lines of the input, whether all rings are fine, and how many bytes follow the last line
pub record AreRepliesTo (limits : Limits) (input replies : List ℕ) (all_fine : Bool) (rest : ℕ) : Type 0 where
  pub verdicts : List Verdict
  pub tail : List ℕ
  pub judged : AreJudged limits input verdicts tail
  pub told : replies ≡ reply_lines 1 verdicts
  pub fine : all_fine ≡ list_all is_fine verdicts
  pub left : rest ≡ length tail

-- bytes, and the parts between their line feeds
abbrev pub parts : List ℕ → List (List ℕ)
parts bytes = slice_split (λ b. b == 10) bytes

-- a whole line is in front, its line feed with it, and these bytes behind it; or no line is whole
abbrev pub IsFrontLine : List ℕ → Option (Bor (List ℕ) × Bor (List ℕ)) → Type 0
IsFrontLine bytes found = MatchOption found (parts bytes ≡ bytes ∷ [])
    (λ r. (body : List ℕ) × (r.0.now ≡ body ++ 10 ∷ []) × (parts bytes ≡ body ∷ parts r.1.now))
