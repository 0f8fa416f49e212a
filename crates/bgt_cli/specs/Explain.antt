-- How a run of `explain` ends, status by status: each text has its reply line, and after one that says that a map is not tiled comes
-- a line that says why.
use Rattle.std.specs.Prelude.{◌≡◌, ◌≤◌, ◌<◌, ◌+◌, ℕ, Bool, true, false, List, [], ◌∷◌, ◌++◌, length, take, map, Some, codes}
use Rattle.std.specs.Bool.{if◌then◌else◌}
use Rattle.std.specs.List.{All}
use Rattle.std.specs.Borrow.{Bor}
use Rattle.std.specs.Fmt.{decimal, signed_decimal}
use Rattle.rd_plane.specs.Frac.{Frac}
use Rattle.outside.specs.Outside.{Shown}
use Rattle.line_feed.specs.Texts.{AreTexts}
use Rattle.message_text.specs.declared.limits.Limits.{Limits}
use Rattle.message_text.specs.declared.message.Message.{Message}
use Rattle.local_check.specs.Maps.{ground_of}
use Rattle.map_rules.specs.declared.refusal.Answer.{Answer}
use Rattle.map_rules.specs.declared.refusal.Answer.TheVariants as answer_is
use Rattle.map_rules.specs.declared.refusal.Refusal.TheVariants as refusal
use Rattle.map_rules.specs.After.{after}
use Rattle.map_rules.specs.Runs.{AnswersText, IsRead}
use Rattle.map_rules.specs.State.{State, map_now}
use Rattle.map_core.specs.Replies.{IsEdgeText, IsReplyLine}
use Rattle.map_store.specs.Stands.{Stands}
use Rattle.fault_point.specs.declared.fault.Fault.{Fault}
use Rattle.fault_point.specs.declared.fault.Fault.TheVariants as fault
use Rattle.fault_point.specs.Faults.{Explains}
use Rattle.bgt_cli.specs.declared.status.Status.{Status}
use Rattle.bgt_cli.specs.declared.status.Status.TheVariants.{Good, Refused, Usage, ReadFault, WriteFault, DiskFault, BadJournal, NoMemory, InputLong, JournalFull}
use Rattle.bgt_cli.specs.Clause.{IsAllGood}
use Rattle.bgt_cli.specs.Session.{tail_line}
use Rattle.bgt_cli.specs.Stream.{Goes}

-- `explain` and a file
abbrev pub IsExplain : List (Bor (List ℕ)) → Type 0
IsExplain words = (file : List ℕ) × (map (λ word. word.now) words ≡ codes "explain" ∷ file ∷ [])

-- ---- what is told of one text
-- inside the area or outside
abbrev pub side_word : Bool → List ℕ
side_word inside = if inside then codes "in" else codes "out"

-- a point in millimetres, its x as a fraction and its y in halves; in how many parts it lies; and whether it lies in the area
abbrev pub point_line : Frac → ℕ → Bool → List ℕ
point_line at parts inside = codes "POINT " ++ (signed_decimal at.x_num ++ 47 ∷ (signed_decimal at.x_den ++ 32 ∷ (signed_decimal at.y_half
    ++ (codes "/2 " ++ (decimal parts ++ 32 ∷ (side_word inside ++ 10 ∷ []))))))

-- the line of what is wrong with a map
abbrev pub IsFaultLine : Fault → List ℕ → Type 0
IsFaultLine (fault.Crossing first second) line = (a : List ℕ) × (b : List ℕ) × IsEdgeText a first × IsEdgeText b second ×
    (line ≡ codes "CROSS " ++ (a ++ 32 ∷ (b ++ 10 ∷ [])))
IsFaultLine (fault.Point at parts inside) line = line ≡ point_line at parts inside

-- the line says why the map that the message would leave its holder is not tiled
abbrev pub IsExplanation : State → Message → List ℕ → Type 0
IsExplanation s m line = (found : Fault)
    × Explains (map_now m.holder (after s m)).area (ground_of (map_now m.holder (after s m)).parts) (Some found) × IsFaultLine found line

-- the answer is that a map is not tiled
abbrev pub is_untiled : Answer → Bool
is_untiled (answer_is.Refused (refusal.Tiled edge)) = true
is_untiled _ = false

-- the reply line of this number; after one that says that a map is not tiled comes what explains it, and after another nothing
pub record IsReplyWith (Explanation : List ℕ → Type 0) (number : ℕ) (answer : Answer) (told : List ℕ) : Type 0 where
  pub line : List ℕ
  pub more : List ℕ
  pub reply : IsReplyLine number answer line
  pub plain : is_untiled answer ≡ false → more ≡ []
  pub explained : is_untiled answer ≡ true → Explanation more
  pub told_is : told ≡ line ++ more

-- so it is with the reply to a text, explained by its message
abbrev pub IsExplainedReply : Limits → State → (number : ℕ) → (text : List ℕ) → Answer → (told : List ℕ) → Type 0
IsExplainedReply limits s number text answer told
    = IsReplyWith (λ more. (m : Message) × IsRead limits text m × IsExplanation s m more) number answer told

-- ---- a run of texts
-- from old, the register answers these texts so and goes on to new, and this is told of them, the first with this number
unfoldable pub Tells : Limits → State → (number : ℕ) → (texts : List (List ℕ)) → List Answer → (told : List ℕ) → State → Type 0
Tells limits old number [] [] told new = (new ≡ old) × (told ≡ [])
Tells limits old number (text ∷ texts) (answer ∷ answers) told new
    = (mid : State) × (reply : List ℕ) × (rest : List ℕ) × AnswersText limits old text answer mid
    × IsExplainedReply limits old number text answer reply × Tells limits mid (number + 1) texts answers rest new × (told ≡ reply ++ rest)
Tells limits old number _ _ told new = ⊥

-- The bytes that were taken are cut into texts and a tail. The first of the texts were answered so from this state on, and this was
-- told of them; more texts come after them.
pub record TellsFrom (limits : Limits) (old : State) (taken told : List ℕ) (answers : List Answer) (more : List (List ℕ)) (tail : List ℕ)
    (state : State) : Type 0 where
  pub texts : List (List ℕ)
  pub cut : AreTexts taken (texts ++ more) tail
  pub tells : Tells limits old 1 texts answers told state

-- all texts were answered, and the input was read to its end
pub record TellsAll (limits : Limits) (old : State) (input taken told : List ℕ) (answers : List Answer) (tail : List ℕ) : Type 0 where
  pub state : State
  pub tells : TellsFrom limits old taken told answers [] tail state
  pub whole : taken ≡ input
  pub short : length input < limits.input_bytes

-- what comes next: the reply to the next text, or after the whole input the line of the tail
abbrev pub IsNextReply : Limits → (input taken : List ℕ) → (number : ℕ) → (more : List (List ℕ)) → (tail : List ℕ) → State → List ℕ → Type 0
IsNextReply limits input taken number [] tail state reply = (taken ≡ input) × (reply ≡ tail_line tail)
IsNextReply limits input taken number (text ∷ more) tail state reply
    = (answer : Answer) × (new : State) × AnswersText limits state text answer new × IsExplainedReply limits state number text answer reply

-- a front of what comes next was told after the replies to the first texts
pub record TellsCutShort (limits : Limits) (old : State) (input taken told : List ℕ) : Type 0 where
  pub answers : List Answer
  pub more : List (List ℕ)
  pub tail : List ℕ
  pub state : State
  pub lines : List ℕ
  pub front : List ℕ
  pub rest : List ℕ
  pub tells : TellsFrom limits old taken lines answers more tail state
  pub next : IsNextReply limits input taken (length answers + 1) more tail state (front ++ rest)
  pub told_is : told ≡ lines ++ front

-- how a run ends that took these bytes of the input and told these; where a call of the disk failed it had not begun
abbrev pub EndsExplain : Limits → (old : State) → (input taken told : List ℕ) → Status → Type 0
EndsExplain limits old input taken told Good
    = (answers : List Answer) × TellsAll limits old input taken told answers [] × All (λ answer. answer ≡ answer_is.Taken) answers
EndsExplain limits old input taken told Refused
    = (answers : List Answer) × (lines tail : List ℕ) × TellsAll limits old input taken lines answers tail
    × (told ≡ lines ++ tail_line tail) × ¬ IsAllGood answers tail
EndsExplain limits old input taken told ReadFault
    = (answers : List Answer) × (tail : List ℕ) × (state : State) × TellsFrom limits old taken told answers [] tail state
EndsExplain limits old input taken told InputLong
    = (answers : List Answer) × (tail : List ℕ) × (state : State) × TellsFrom limits old taken told answers [] tail state
    × (length taken ≡ limits.input_bytes)
EndsExplain limits old input taken told NoMemory = (answers : List Answer) × (more : List (List ℕ)) × (tail : List ℕ) × (state : State)
    × TellsFrom limits old taken told answers more tail state
EndsExplain limits old input taken told WriteFault = TellsCutShort limits old input taken told
EndsExplain limits old input taken told DiskFault = (taken ≡ []) × (told ≡ [])
EndsExplain limits old input taken told Usage = ⊥
EndsExplain limits old input taken told BadJournal = ⊥
EndsExplain limits old input taken told JournalFull = ⊥

-- how a run from this state on ends: what it took of the input, and what it told; the file reads as before
pub record IsTried (limits : Limits) (state : State) (input : List ℕ) (status : Status) (old new : Shown) : Type 0 where
  pub n : ℕ
  pub told : List ℕ
  pub within : n ≤ length input
  pub goes : Goes n told old new
  pub ends : EndsExplain limits state input (take n input) told status

-- the clause of `explain`: over a file that stands for messages the input is tried from the state that they leave
abbrev pub MeetsExplain : Limits → Status → (old new : Shown) → Type 0
MeetsExplain limits status old new = (input file : List ℕ) → old.input ≡ Some input → old.disk ≡ Some file
    → (messages : List Message) (state : State) → Stands limits file messages state → IsTried limits state input status old new
