-- Which messages a file stands for, and what makes one damaged.
use Rattle.std.specs.Prelude.{◌≡◌, ◌⊎◌, ℕ, List, [], ◌∷◌, Some, Ok, Err}
use Rattle.message_text.specs.declared.limits.Limits.{Limits}
use Rattle.message_text.specs.declared.message.Message.{Message}
use Rattle.message_text.specs.declared.fault.TextFault.{TextFault}
use Rattle.message_text.specs.Reading.{Reads}
use Rattle.message_text.specs.Texts.{IsCanonical}
use Rattle.map_rules.specs.declared.refusal.Refusal.{Refusal}
use Rattle.map_rules.specs.declared.refusal.Answer.TheVariants.{Taken}
use Rattle.map_rules.specs.State.{State, opening}
use Rattle.map_rules.specs.Steps.{Decision, Step}
use Rattle.gate_journal.specs.Journal.{StandsFor}
use Rattle.gate_journal.specs.Reading.{HasRecordAt, IsBehind, IsDamagedAt}

-- The payload is the canonical text of this message, is read as it, and the register takes it. The limit on the bytes of a text
-- is left aside.
pub record IsNextRecord (limits : Limits) (old : State) (payload : List ℕ) (m : Message) (new : State) : Type 0 where
  pub canonical : IsCanonical payload m
  pub read : Reads limits payload (Ok m)
  pub step : Step limits old m Taken new

-- the payloads are those of these messages, which the register takes one after another
unfoldable pub Holds : Limits → State → List (List ℕ) → List Message → State → Type 0
Holds limits old [] [] new = new ≡ old
Holds limits old (payload ∷ payloads) (m ∷ messages) new
    = (mid : State) × IsNextRecord limits old payload m mid × Holds limits mid payloads messages new
Holds limits old _ _ new = ⊥

-- the file stands for these messages, and this is the state that they leave
pub record Stands (limits : Limits) (file : List ℕ) (messages : List Message) (state : State) : Type 0 where
  pub payloads : List (List ℕ)
  pub gates : StandsFor file payloads
  pub holds : Holds limits opening payloads messages state

-- the file stands for no list of messages
abbrev pub StandsForNone : Limits → (file : List ℕ) → Type 0
StandsForNone limits file = (messages : List Message) (state : State) → ¬ Stands limits file messages state

-- the payload is no text of the grammar within the limits, or not the canonical text of its message, or the register refuses that
abbrev pub IsBad : Limits → State → (payload : List ℕ) → Type 0
IsBad limits state payload =
    ((fault : TextFault) × Reads limits payload (Err fault))
    ⊎ ((m : Message) × Reads limits payload (Ok m) × ((¬ IsCanonical payload m) ⊎ ((r : Refusal) × Decision limits state m (Some r))))

-- before this gate the file has messages that the register takes, and the open gate has no whole record, or a bad one
pub record IsSpoiltAt (limits : Limits) (file : List ℕ) (gate : ℕ) : Type 0 where
  pub payloads : List (List ℕ)
  pub messages : List Message
  pub state : State
  pub behind : IsBehind file gate payloads
  pub holds : Holds limits opening payloads messages state
  pub bad : IsDamagedAt file gate ⊎ ((payload : List ℕ) × HasRecordAt file gate payload × IsBad limits state payload)
