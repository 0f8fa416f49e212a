-- Rings judged by themselves: which words ask for it, and what is told of an input.
use Rattle.std.specs.Prelude.{◌≡◌, ◌≤◌, ◌<◌, ℕ, List, [], ◌∷◌, ◌++◌, length, take, codes, IsTrue}
use Rattle.std.specs.Borrow.{Bor}
use Rattle.std.specs.List.{list_all}
use Rattle.outside.specs.Outside.{Shown}
use Rattle.message_text.specs.declared.limits.Limits.{Limits}
use Rattle.message_text.specs.Fields.{contents}
use Rattle.ring_judge.specs.declared.verdict.Verdict.{Verdict}
use Rattle.ring_judge.specs.Judging.{AreJudged, reply_lines}
use Rattle.ring_judge.specs.Verdicts.{is_fine}
use Rattle.bgt_cli.specs.declared.status.Status.{Status}
use Rattle.bgt_cli.specs.declared.status.Status.TheVariants.{Good, Refused, ReadFault, WriteFault, NoMemory, InputLong}
use Rattle.bgt_cli.specs.Session.{tail_line}
use Rattle.bgt_cli.specs.Status.{status_at_end}
use Rattle.bgt_cli.specs.Stream.{Goes}

-- the one word `rings`
abbrev pub IsRings : List (Bor (List ℕ)) → Type 0
IsRings words = contents words ≡ codes "rings" ∷ []

-- a reply for each whole line, and the line of the tail
abbrev pub rings_text : List Verdict → (tail : List ℕ) → List ℕ
rings_text verdicts tail = reply_lines 1 verdicts ++ tail_line tail

-- each ring is fine, and no tail is left
abbrev pub AreAllFine : List Verdict → (tail : List ℕ) → Type 0
AreAllFine verdicts tail = IsTrue (list_all is_fine verdicts) × (tail ≡ [])

-- the input was read to its end, and this is said of its lines
pub record JudgedAll (limits : Limits) (input taken : List ℕ) (verdicts : List Verdict) (tail : List ℕ) : Type 0 where
  pub judged : AreJudged limits input verdicts tail
  pub whole : taken ≡ input
  pub short : length input < limits.input_bytes

-- how `rings` ends that took these bytes of the input and told these
abbrev pub EndsRings : Limits → (input taken told : List ℕ) → Status → Type 0
EndsRings limits input taken told Good
    = (verdicts : List Verdict) × (tail : List ℕ) × JudgedAll limits input taken verdicts tail × (told ≡ rings_text verdicts tail)
    × AreAllFine verdicts tail
EndsRings limits input taken told Refused
    = (verdicts : List Verdict) × (tail : List ℕ) × JudgedAll limits input taken verdicts tail × (told ≡ rings_text verdicts tail)
    × ¬ AreAllFine verdicts tail
EndsRings limits input taken told WriteFault
    = (verdicts : List Verdict) × (tail : List ℕ) × JudgedAll limits input taken verdicts tail
    × ((rest : List ℕ) × (rings_text verdicts tail ≡ told ++ rest))
EndsRings limits input taken told ReadFault = told ≡ []
EndsRings limits input taken told NoMemory = told ≡ []
EndsRings limits input taken told InputLong = (told ≡ []) × (length taken ≡ limits.input_bytes)
EndsRings limits input taken told _ = ⊥

-- how a run of `rings` ends: what it took of the input, and what it told
pub record JudgesRings (limits : Limits) (input : List ℕ) (status : Status) (old new : Shown) : Type 0 where
  pub n : ℕ
  pub told : List ℕ
  pub within : n ≤ length input
  pub goes : Goes n told old new
  pub ends : EndsRings limits input (take n input) told status

-- the text tells of the input, and the run that tells it ends so
pub record IsRingsText (limits : Limits) (input text : List ℕ) (status : Status) : Type 0 where
  pub verdicts : List Verdict
  pub tail : List ℕ
  pub judged : AreJudged limits input verdicts tail
  pub told : text ≡ rings_text verdicts tail
  pub ends : status ≡ status_at_end (list_all is_fine verdicts) (length tail)
