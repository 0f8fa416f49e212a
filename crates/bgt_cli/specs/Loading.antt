-- A run of texts whose messages are kept in a file: what was answered and kept, and what a crash leaves at any moment of it.
use Rattle.std.specs.Prelude.{◌≡◌, ◌⊎◌, ◌≤◌, ◌+◌, ◌==◌, ℕ, min, List, [], ◌∷◌, ◌++◌, length, take, count_by, Option, Some, None, is_none}
use Rattle.outside.specs.Outside.{Shown}
use Rattle.outside.specs.Crash.{IsDurable, LeavesOnly}
use Rattle.message_text.specs.declared.limits.Limits.{Limits}
use Rattle.message_text.specs.declared.message.Message.{Message}
use Rattle.map_rules.specs.declared.refusal.Answer.{Answer}
use Rattle.map_rules.specs.declared.refusal.Answer.TheVariants.{Taken, Refused}
use Rattle.map_rules.specs.State.{State}
use Rattle.map_rules.specs.After.{after}
use Rattle.map_rules.specs.Steps.{Decision}
use Rattle.map_rules.specs.Runs.{AnswersText, IsRead}
use Rattle.map_store.specs.Stands.{Stands}
use Rattle.bgt_cli.specs.Records.{AddedWithRoom}
use Rattle.bgt_cli.specs.Register.{RegisterView, IsKeptBy}
use Rattle.bgt_cli.specs.Stream.{GoesBy}

-- from old, the register answers these texts so and goes on to new; these are the messages that it takes
unfoldable pub Accepts : Limits → State → List (List ℕ) → List Answer → List Message → State → Type 0
Accepts limits old [] [] [] new = new ≡ old
Accepts limits old (text ∷ texts) (Taken ∷ answers) (m ∷ kept) new
    = IsRead limits text m × Decision limits old m None × Accepts limits (after old m) texts answers kept new
Accepts limits old (text ∷ texts) (Refused r ∷ answers) kept new
    = AnswersText limits old text (Refused r) old × Accepts limits old texts answers kept new
Accepts limits old _ _ _ new = ⊥

-- how many whole lines these bytes are
abbrev pub whole_lines : List ℕ → ℕ
whole_lines bytes = count_by (λ byte. byte == 10) bytes

-- With so many of these texts answered by a whole line, the image stands for the messages of the file and those that were taken
-- of the first so many texts, or of one text more; those have room in the file.
pub record HasAnswered (limits : Limits) (first : List Message) (old : State) (texts : List (List ℕ)) (lines : ℕ) (image : List ℕ) : Type 0
  where
    pub count : ℕ
    pub near : (count ≡ lines) ⊎ (count ≡ lines + 1)
    pub within : count ≤ length texts
    pub answers : List Answer
    pub kept : List Message
    pub new : State
    pub run : Accepts limits old (take count texts) answers kept new
    pub stands : Stands limits image (first ++ kept) new
    pub room : AddedWithRoom limits first kept

-- the same of what was told after these bytes
abbrev pub HasAnsweredSince : Limits → List Message → State → (before : List ℕ) → (texts : List (List ℕ)) → (told image : List ℕ) → Type 0
HasAnsweredSince limits first old before texts told image
    = (since : List ℕ) × (told ≡ before ++ since) × HasAnswered limits first old texts (whole_lines since) image

-- the same where the line of a tail may come after those of all texts, which is no reply
abbrev pub HasAnsweredAllSince : Limits → List Message → State → (before : List ℕ) → (texts : List (List ℕ)) → (told image : List ℕ)
    → Type 0
HasAnsweredAllSince limits first old before texts told image =
    (since : List ℕ) × (told ≡ before ++ since) × HasAnswered limits first old texts (min (whole_lines since) (length texts)) image

-- a file that stands for these messages, all of it on the disk
pub record BeginsWith (limits : Limits) (disk : Option (List ℕ)) (leaves : List ℕ → Type 0) (first : List Message) (old : State) : Type 0
  where
    pub file : List ℕ
    pub reads : disk ≡ Some file
    pub durable : IsDurable disk leaves
    pub stands : Stands limits file first old

-- From old to new n bytes of the input were taken and these texts were answered, by these lines; these messages of them were taken.
-- Where the file had messages it has these too, each added with room, and at each moment a crash left an image as above.
pub record Stretch {O : Type 0} (shown : O → Shown) (leaves : O → List ℕ → Type 0) (clock : O → ℕ) (left : O → ℕ → List ℕ → List ℕ → Type 0)
    (limits : Limits) (old_r : RegisterView) (old : O) (new_r : RegisterView) (new : O) (n : ℕ) (lines : List ℕ) (texts : List (List ℕ))
    (answers : List Answer) (kept : List Message) : Type 0 where
  pub run : Accepts limits old_r.state texts answers kept new_r.state
  pub whole : whole_lines lines ≡ length texts
  pub goes : GoesBy old_r n lines (shown old) (shown new)
  pub store : is_none new_r.store ≡ is_none old_r.store
  pub keeps : (first : List Message) → IsKeptBy old_r (shown old).disk (leaves old) first
      → IsKeptBy new_r (shown new).disk (leaves new) (first ++ kept)
  pub room : (first : List Message) → IsKeptBy old_r (shown old).disk (leaves old) first → AddedWithRoom limits first kept
  pub crash : (first : List Message) (before : List ℕ) → IsKeptBy old_r (shown old).disk (leaves old) first → (shown old).told ≡ Some before
      → LeavesOnly clock left old new (HasAnsweredSince limits first old_r.state before texts)
