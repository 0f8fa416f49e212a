-- The register over many texts: each is answered in turn, from the state that those before it left.
use Rattle.std.specs.Prelude.{◌≡◌, ◌⊎◌, ◌<◌, ◌≤◌, ℕ, List, [], ◌∷◌, length, Ok, Err}
use Rattle.message_text.specs.declared.limits.Limits.{Limits}
use Rattle.message_text.specs.declared.message.Message.{Message}
use Rattle.message_text.specs.declared.fault.TextFault.TheVariants as fault
use Rattle.message_text.specs.Reading.{Reads}
use Rattle.map_rules.specs.declared.refusal.Refusal.{Refusal}
use Rattle.map_rules.specs.declared.refusal.Refusal.TheVariants.{TooLong, Syntax, Arc, Limit}
use Rattle.map_rules.specs.declared.refusal.Answer.{Answer}
use Rattle.map_rules.specs.declared.refusal.Answer.TheVariants.{Refused}
use Rattle.map_rules.specs.State.{State}
use Rattle.map_rules.specs.Steps.{Step}

-- the text has no message, for this reason
abbrev pub IsUnread : Limits → List ℕ → Refusal → Type 0
IsUnread limits text TooLong = limits.message_bytes < length text
IsUnread limits text (Syntax line) = (length text ≤ limits.message_bytes) × Reads limits text (Err (fault.Syntax line))
IsUnread limits text (Arc line) = (length text ≤ limits.message_bytes) × Reads limits text (Err (fault.Arc line))
IsUnread limits text (Limit which) = (length text ≤ limits.message_bytes) × Reads limits text (Err (fault.Limit which))
IsUnread limits text _ = ⊥

-- the text is read as this message
abbrev pub IsRead : Limits → List ℕ → Message → Type 0
IsRead limits text m = (length text ≤ limits.message_bytes) × Reads limits text (Ok m)

-- from old, the register refuses a text that has no message, and stays as it is
pub record RefusesText (limits : Limits) (old : State) (text : List ℕ) (answer : Answer) (new : State) : Type 0 where
  pub refusal : Refusal
  pub unread : IsUnread limits text refusal
  pub answered : answer ≡ Refused refusal
  pub same : new ≡ old

-- from old, the register takes the step of the text's message
pub record StepsText (limits : Limits) (old : State) (text : List ℕ) (answer : Answer) (new : State) : Type 0 where
  pub message : Message
  pub read : IsRead limits text message
  pub step : Step limits old message answer new

-- from old, the register answers the text so and goes on to new
abbrev pub AnswersText : Limits → State → List ℕ → Answer → State → Type 0
AnswersText limits old text answer new = RefusesText limits old text answer new ⊎ StepsText limits old text answer new

-- from old, the register answers these texts so, one after another, and goes on to new
unfoldable pub Run : Limits → State → List (List ℕ) → List Answer → State → Type 0
Run limits old [] [] new = new ≡ old
Run limits old (text ∷ texts) (answer ∷ answers) new
    = (mid : State) × AnswersText limits old text answer mid × Run limits mid texts answers new
Run limits old _ _ new = ⊥
