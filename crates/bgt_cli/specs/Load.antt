-- How a run ends whose messages may be kept in a file, status by status, and what a crash leaves of it.
use Rattle.std.specs.Prelude.{◌≡◌, ◌⊎◌, ◌≤◌, ◌<◌, ◌+◌, ℕ, min, List, [], ◌∷◌, ◌++◌, length, take, map, Option, option_map, Some, None, codes}
use Rattle.std.specs.List.{All}
use Rattle.std.specs.Borrow.{Bor}
use Rattle.std.specs.Fmt.{decimal}
use Rattle.std.specs.Option.{ForSome}
use Rattle.outside.specs.Outside.{Shown}
use Rattle.outside.specs.Crash.{LeavesOnly, LeftSince}
use Rattle.line_feed.specs.Texts.{AreTexts}
use Rattle.message_text.specs.declared.limits.Limits.{Limits}
use Rattle.message_text.specs.declared.message.Message.{Message}
use Rattle.message_text.specs.Texts.{IsCanonical}
use Rattle.map_rules.specs.declared.refusal.Answer.{Answer}
use Rattle.map_rules.specs.declared.refusal.Answer.TheVariants.{Taken}
use Rattle.map_rules.specs.State.{State}
use Rattle.map_rules.specs.Steps.{Decision}
use Rattle.map_rules.specs.Runs.{IsRead}
use Rattle.map_core.specs.Replies.{IsReplyLine, AreReplies}
use Rattle.gate_journal.specs.Reading.{EndsAt, IsNoJournal}
use Rattle.map_store.specs.Stands.{Stands, StandsForNone, IsSpoiltAt}
use Rattle.bgt_cli.specs.declared.status.Status.{Status}
use Rattle.bgt_cli.specs.declared.status.Status.TheVariants.{Good, Refused, Usage, ReadFault, WriteFault, DiskFault, BadJournal, NoMemory, InputLong, JournalFull}
use Rattle.bgt_cli.specs.Clause.{IsAllGood}
use Rattle.bgt_cli.specs.Loading.{Accepts, BeginsWith, HasAnswered, HasAnsweredAllSince, whole_lines}
use Rattle.bgt_cli.specs.Records.{AddedWithRoom}
use Rattle.bgt_cli.specs.Register.{RegisterView, IsKeptBy}
use Rattle.bgt_cli.specs.Session.{tail_line}
use Rattle.bgt_cli.specs.Stream.{Goes, GoesBy, GoesWithDisk, TellsFront}

-- `load` and a file
abbrev pub IsLoad : List (Bor (List ℕ)) → Type 0
IsLoad words = (file : List ℕ) × (map (λ word. word.now) words ≡ codes "load" ∷ file ∷ [])

-- The bytes that were taken are cut into texts and a tail. The first of the texts were answered so, by these lines, from this
-- state on; these messages of them were taken; more texts come after them.
pub record AnsweredFrom (limits : Limits) (old : State) (taken lines : List ℕ) (answers : List Answer) (kept : List Message)
    (more : List (List ℕ)) (tail : List ℕ) (state : State) : Type 0 where
  pub texts : List (List ℕ)
  pub cut : AreTexts taken (texts ++ more) tail
  pub run : Accepts limits old texts answers kept state
  pub replies : AreReplies 1 answers lines

-- all texts were answered, and the input was read to its end
pub record LoadedAll (limits : Limits) (old : State) (input taken lines : List ℕ) (answers : List Answer) (kept : List Message)
    (tail : List ℕ) : Type 0 where
  pub state : State
  pub answered : AnsweredFrom limits old taken lines answers kept [] tail state
  pub whole : taken ≡ input
  pub short : length input < limits.input_bytes

-- the register takes this text's message, whose record would end past the limit on the file if its gate stood at this offset
pub record HasNoRoom (limits : Limits) (state : State) (gate : ℕ) (text : List ℕ) : Type 0 where
  pub message : Message
  pub payload : List ℕ
  pub read : IsRead limits text message
  pub accepted : Decision limits state message None
  pub canonical : IsCanonical payload message
  pub past : limits.journal_bytes < gate + 10 + length payload

-- the line that comes next: that of the next text, of which these messages are taken, or after the whole input that of the tail
abbrev pub IsNextAnswer : Limits → (input taken : List ℕ) → (number : ℕ) → (more : List (List ℕ)) → (tail : List ℕ) → State
    → (line : List ℕ) → (kept : List Message) → Type 0
IsNextAnswer limits input taken number [] tail state line kept = (taken ≡ input) × (line ≡ tail_line tail) × (kept ≡ [])
IsNextAnswer limits input taken number (text ∷ more) tail state line kept
    = (answer : Answer) × (new : State) × Accepts limits state (text ∷ []) (answer ∷ []) kept new × IsReplyLine number answer line

-- a front of the next line was told after the lines of the first texts, and what is taken of the next text is kept
pub record LoadCutShort (limits : Limits) (old : State) (input taken told : List ℕ) (kept : List Message) : Type 0 where
  pub answers : List Answer
  pub so_far : List Message
  pub next_kept : List Message
  pub more : List (List ℕ)
  pub tail : List ℕ
  pub state : State
  pub lines : List ℕ
  pub front : List ℕ
  pub rest : List ℕ
  pub answered : AnsweredFrom limits old taken lines answers so_far more tail state
  pub next : IsNextAnswer limits input taken (length answers + 1) more tail state (front ++ rest) next_kept
  pub told_is : told ≡ lines ++ front
  pub kept_is : kept ≡ so_far ++ next_kept

-- how a run ends that took these bytes of the input, told these, and kept these messages in a file whose first closed gate is here
abbrev pub EndsLoad : Limits → (old : State) → (input taken told : List ℕ) → (kept : List Message) → (gate : ℕ) → Status → Type 0
EndsLoad limits old input taken told kept gate Good
    = (answers : List Answer) × LoadedAll limits old input taken told answers kept [] × All (λ answer. answer ≡ Taken) answers
EndsLoad limits old input taken told kept gate Refused
    = (answers : List Answer) × (lines tail : List ℕ) × LoadedAll limits old input taken lines answers kept tail
    × (told ≡ lines ++ tail_line tail) × ¬ IsAllGood answers tail
EndsLoad limits old input taken told kept gate ReadFault
    = (answers : List Answer) × (tail : List ℕ) × (state : State) × AnsweredFrom limits old taken told answers kept [] tail state
EndsLoad limits old input taken told kept gate InputLong
    = (answers : List Answer) × (tail : List ℕ) × (state : State) × AnsweredFrom limits old taken told answers kept [] tail state
    × (length taken ≡ limits.input_bytes)
EndsLoad limits old input taken told kept gate NoMemory = (answers : List Answer) × (more : List (List ℕ)) × (tail : List ℕ)
    × (state : State) × AnsweredFrom limits old taken told answers kept more tail state
EndsLoad limits old input taken told kept gate DiskFault = (answers : List Answer) × (more : List (List ℕ)) × (tail : List ℕ)
    × (state : State) × AnsweredFrom limits old taken told answers kept more tail state
EndsLoad limits old input taken told kept gate JournalFull = (answers : List Answer) × (text : List ℕ) × (more : List (List ℕ))
    × (tail : List ℕ) × (state : State) × AnsweredFrom limits old taken told answers kept (text ∷ more) tail state
    × HasNoRoom limits state gate text
EndsLoad limits old input taken told kept gate WriteFault = LoadCutShort limits old input taken told kept
EndsLoad limits old input taken told kept gate Usage = ⊥
EndsLoad limits old input taken told kept gate BadJournal = ⊥

-- the file stands for these messages
pub record FileHas (limits : Limits) (disk : Option (List ℕ)) (messages : List Message) : Type 0 where
  pub file : List ℕ
  pub state : State
  pub reads : disk ≡ Some file
  pub stands : Stands limits file messages state

-- the first closed gate of the file is at this offset
pub record FileEnds (gate : ℕ) (disk : Option (List ℕ)) : Type 0 where
  pub file : List ℕ
  pub payloads : List (List ℕ)
  pub reads : disk ≡ Some file
  pub ends : EndsAt gate file payloads

-- after a failed call of the disk what a read gives is not known
abbrev pub FileStands : Limits → Status → (gate : ℕ) → (disk : Option (List ℕ)) → List Message → Type 0
FileStands limits DiskFault gate disk messages = Unit {0}
FileStands limits JournalFull gate disk messages = FileHas limits disk messages × FileEnds gate disk
FileStands limits _ gate disk messages = FileHas limits disk messages

-- How a run ends that began with this register. Where its file had messages, it has those too that were taken, none of them past
-- the limit on the file; and at each moment, with so many whole reply lines told since the beginning, a crash left a file that stands
-- for the messages from before and those that were taken of the first so many texts, or of one text more.
pub record IsAnswered {O : Type 0} (shown : O → Shown) (leaves : O → List ℕ → Type 0) (clock : O → ℕ)
    (left : O → ℕ → List ℕ → List ℕ → Type 0)
    (limits : Limits) (r : RegisterView) (input : List ℕ) (status : Status) (old new : O) : Type 0 where
  pub n : ℕ
  pub told : List ℕ
  pub kept : List Message
  pub gate : ℕ
  pub texts : List (List ℕ)
  pub tail : List ℕ
  pub within : n ≤ length input
  pub goes : GoesBy r n told (shown old) (shown new)
  pub cut : AreTexts (take n input) texts tail
  pub ends : EndsLoad limits r.state input (take n input) told kept gate status
  pub file : (first : List Message) → IsKeptBy r (shown old).disk (leaves old) first
      → FileStands limits status gate (shown new).disk (first ++ kept)
  pub room : (first : List Message) → IsKeptBy r (shown old).disk (leaves old) first → AddedWithRoom limits first kept
  pub crash : (first : List Message) (before : List ℕ) → IsKeptBy r (shown old).disk (leaves old) first → (shown old).told ≡ Some before
      → LeavesOnly clock left old new (HasAnsweredAllSince limits first r.state before texts)

-- How a run of `load` ends over a file that stands for these messages. What it adds ends within the limit on the file. At each moment
-- since its beginning, with so many whole reply lines told since then, a crash leaves a file that stands for the messages of the file at
-- entry and those that were taken of the first so many texts, or of one text more, none of them past that limit.
pub record IsLoaded {O : Type 0} (shown : O → Shown) (clock : O → ℕ) (left : O → ℕ → List ℕ → List ℕ → Type 0) (limits : Limits)
    (first : List Message) (state : State) (input : List ℕ) (status : Status) (old new : O) : Type 0 where
  pub n : ℕ
  pub told : List ℕ
  pub kept : List Message
  pub gate : ℕ
  pub texts : List (List ℕ)
  pub tail : List ℕ
  pub within : n ≤ length input
  pub goes : GoesWithDisk n told (shown old) (shown new)
  pub cut : AreTexts (take n input) texts tail
  pub ends : EndsLoad limits state input (take n input) told kept gate status
  pub stands : FileStands limits status gate (shown new).disk (first ++ kept)
  pub room : AddedWithRoom limits first kept
  pub crash : (told_then image : List ℕ) → LeftSince (λ (o : O). (shown o).told) clock left old new told_then image
      → HasAnswered limits first state texts (min (whole_lines told_then) (length texts)) image

-- the clause of `load`: what was known at entry, and how the run ends then
abbrev pub MeetsLoad : {O : Type 0} → (O → Shown) → (O → List ℕ → Type 0) → (O → ℕ) → (O → ℕ → List ℕ → List ℕ → Type 0) → Limits → O → O
    → Status → Type 0
MeetsLoad {O} shown leaves clock left limits old new status =
    (input before : List ℕ) → (shown old).input ≡ Some input → (shown old).told ≡ Some before
    → (first : List Message) (state : State) → BeginsWith limits (shown old).disk (leaves old) first state
    → IsLoaded shown clock left limits first state input status old new

abbrev pub not_journal_line : List ℕ
not_journal_line = codes "NOTJOURNAL" ++ 10 ∷ []

abbrev pub damaged_line : ℕ → List ℕ
damaged_line gate = codes "DAMAGED " ++ (decimal gate ++ 10 ∷ [])

-- the one line of a file that stands for no list
abbrev pub IsBadLine : Limits → (file line : List ℕ) → Type 0
IsBadLine limits file line
    = (IsNoJournal file × (line ≡ not_journal_line)) ⊎ ((gate : ℕ) × IsSpoiltAt limits file gate × (line ≡ damaged_line gate))

-- how a run ends over such a file whose line this is
abbrev pub EndsRefused : (line : List ℕ) → Status → Shown → Shown → Type 0
EndsRefused line BadJournal old new = Goes 0 line old new
EndsRefused line WriteFault old new = TellsFront line old new
EndsRefused line NoMemory old new = new ≡ old
EndsRefused line _ old new = ⊥

-- at most this many bytes of the input were taken
abbrev pub TakesAtMostBy : RegisterView → ℕ → Shown → Shown → Type 0
TakesAtMostBy r limit old new = (n : ℕ) × (told : List ℕ) × (n ≤ limit) × GoesBy r n told old new

-- the same, and the file may have changed
abbrev pub TakesAtMostWithDisk : ℕ → Shown → Shown → Type 0
TakesAtMostWithDisk limit old new = (n : ℕ) × (told : List ℕ) × (n ≤ limit) × GoesWithDisk n told old new

-- that line was told, and the disk is as it was
abbrev pub IsRefusedJournal : Limits → (old new : Shown) → Type 0
IsRefusedJournal limits old new = ForSome old.disk
    (λ file. (line : List ℕ) × IsBadLine limits file line × (new ≡ record old { told = option_map (λ told. told ++ line) old.told }))

-- how a run ends over a file that stands for no list: with its line, or a front of it, or before it; the disk is as it was
abbrev pub EndsWithoutList : Limits → (file : List ℕ) → Status → Shown → Shown → Type 0
EndsWithoutList limits file BadJournal old new = (line : List ℕ) × IsBadLine limits file line × Goes 0 line old new
EndsWithoutList limits file WriteFault old new = (line : List ℕ) × IsBadLine limits file line × TellsFront line old new
EndsWithoutList limits file NoMemory old new = new ≡ old
EndsWithoutList limits file DiskFault old new = new ≡ old
EndsWithoutList limits file _ old new = ⊥

-- so it ends where the file is known
abbrev pub MeetsNoList : Limits → Status → (old new : Shown) → Type 0
MeetsNoList limits status old new = ForSome old.disk (λ file. StandsForNone limits file → EndsWithoutList limits file status old new)
