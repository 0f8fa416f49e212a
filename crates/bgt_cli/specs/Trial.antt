-- Test maps: which words ask for one, and what is told of it.
use Rattle.std.specs.Prelude.{◌≡◌, ℕ, Bool, true, false, List, [], ◌∷◌, ◌++◌, length, count_by, codes}
use Rattle.std.specs.Borrow.{Bor}
use Rattle.std.specs.Fmt.{decimal}
use Rattle.outside.specs.Outside.{Shown}
use Rattle.message_text.specs.declared.limits.Limits.{Limits}
use Rattle.message_text.specs.declared.message.Message.{Message}
use Rattle.message_text.specs.Fields.{contents}
use Rattle.version_history.specs.Versions.{is_current}
use Rattle.map_rules.specs.declared.refusal.Answer.{Answer}
use Rattle.map_rules.specs.declared.refusal.Answer.TheVariants.{Taken, Refused}
use Rattle.map_rules.specs.State.{State, opening}
use Rattle.map_rules.specs.Steps.{Step}
use Rattle.map_maker.specs.Made.{IsCount, made}
use Rattle.bgt_cli.specs.declared.status.Status.{Status}
use Rattle.bgt_cli.specs.Query.{TellsText}
use Rattle.bgt_cli.specs.Session.{is_taken}
use Rattle.bgt_cli.specs.Status.{IsWithoutFile}

-- the word is the size of a test map, in decimal without a leading zero
abbrev pub IsSize : (word : List ℕ) → ℕ → Type 0
IsSize word n = IsCount n × (word ≡ decimal n)

-- the words ask for the test map of this size
abbrev pub AsksTrial : List (Bor (List ℕ)) → ℕ → Type 0
AsksTrial words n = (word : List ℕ) × (contents words ≡ codes "trial" ∷ word ∷ []) × IsSize word n

-- the words ask for a test map
abbrev pub IsTrial : List (Bor (List ℕ)) → Type 0
IsTrial words = (n : ℕ) × AsksTrial words n

-- from old, the register answers these messages so, one after another, and goes on to new
unfoldable pub Steps : Limits → State → List Message → List Answer → State → Type 0
Steps limits old [] [] new = new ≡ old
Steps limits old (m ∷ messages) (answer ∷ answers) new
    = (mid : State) × Step limits old m answer mid × Steps limits mid messages answers new
Steps limits old _ _ new = ⊥

-- the empty register answers these messages, and goes on to this state, which counts those that were taken
pub record IsLeftBy (limits : Limits) (messages : List Message) (state : State) : Type 0 where
  pub answers : List Answer
  pub steps : Steps limits opening messages answers state
  pub counted : state.accepted ≡ count_by is_taken answers

abbrev pub is_refused : Answer → Bool
is_refused Taken = false
is_refused (Refused r) = true

-- a line of a word and a number, and what comes after it
abbrev pub count_line : (word : List ℕ) → (number : ℕ) → (rest : List ℕ) → List ℕ
count_line word number rest = word ++ 32 ∷ (decimal number ++ 10 ∷ rest)

-- the size, how many messages were accepted, how many refused, and how many current objects and versions there are at the end
abbrev pub trial_lines : ℕ → List Answer → State → List ℕ
trial_lines n answers s =
    count_line (codes "TRIAL") n
    (count_line (codes "ACCEPTED") (count_by is_taken answers)
    (count_line (codes "REFUSED") (count_by is_refused answers)
    (count_line (codes "OBJECTS") (count_by is_current s.versions)
    (count_line (codes "VERSIONS") (length s.versions) []))))

-- the text tells how the empty register answers the messages of the test map, and what it has after them
pub record IsTrialText (limits : Limits) (n : ℕ) (text : List ℕ) : Type 0 where
  pub answers : List Answer
  pub state : State
  pub steps : Steps limits opening (made n) answers state
  pub lines : text ≡ trial_lines n answers state

-- how a run ends that tells it: as one that tells a text and has no file
pub record EndsTrial (limits : Limits) (n : ℕ) (status : Status) (old new : Shown) : Type 0 where
  pub no_file : IsWithoutFile status
  pub told : TellsText (IsTrialText limits n) status old new
