-- What a query asks of the register that a file keeps, and how a run ends that answers it.
use Rattle.std.specs.Prelude.{◌≡◌, ℕ, List, [], ◌∷◌, codes}
use Rattle.std.specs.Borrow.{Bor}
use Rattle.std.specs.Option.{ForSome}
use Rattle.rd_plane.specs.Plane.{Vertex}
use Rattle.outside.specs.Crash.{LeavesOnly, NoneNew}
use Rattle.outside.specs.Outside.{Shown}
use Rattle.field_text.specs.declared.coordinate.Axis.TheVariants.{X, Y}
use Rattle.message_text.specs.declared.limits.Limits.{Limits}
use Rattle.message_text.specs.declared.message.Message.{Message}
use Rattle.message_text.specs.Fields.{contents}
use Rattle.message_text.specs.Spelling.{wide, HasCoordinate, HasIdent, HasMoment}
use Rattle.map_rules.specs.State.{State}
use Rattle.map_store.specs.Stands.{Stands}
use Rattle.moment_query.specs.Exports.{IsExportText}
use Rattle.moment_query.specs.Points.{IsPointText}
use Rattle.moment_query.specs.Queries.{IsHistoryText, IsStateText}
use Rattle.bgt_cli.specs.declared.query.Query.{Query}
use Rattle.bgt_cli.specs.declared.query.Query.TheVariants.{StateAt, HistoryOf, PointAt, ExportAt}
use Rattle.bgt_cli.specs.declared.status.Status.{Status}
use Rattle.bgt_cli.specs.declared.status.Status.TheVariants.{Good, WriteFault, DiskFault, BadJournal, NoMemory}
use Rattle.bgt_cli.specs.Stream.{Goes, TellsFront}

-- the words are the coordinates of this point, each within the bounds of its axis
abbrev pub HasPoint : (x y : List ℕ) → Vertex → Type 0
HasPoint x y p = HasCoordinate wide X x p.x × HasCoordinate wide Y y p.y

-- the words ask this: a command, any word for the file, and the fields of the query
abbrev pub Asks : List (Bor (List ℕ)) → Query → Type 0
Asks words (StateAt moment) = (file at : List ℕ) × (contents words ≡ codes "state" ∷ file ∷ at ∷ []) × HasMoment wide at moment
Asks words (HistoryOf ident) = (file id : List ℕ) × (contents words ≡ codes "history" ∷ file ∷ id ∷ []) × HasIdent id ident
Asks words (PointAt p moment) = (file x y at : List ℕ) × (contents words ≡ codes "point" ∷ file ∷ x ∷ y ∷ at ∷ []) × HasPoint x y p × HasMoment wide at moment
Asks words (ExportAt moment) = (file at : List ℕ) × (contents words ≡ codes "export" ∷ file ∷ at ∷ []) × HasMoment wide at moment

-- the words ask something
abbrev pub IsQuery : List (Bor (List ℕ)) → Type 0
IsQuery words = (query : Query) × Asks words query

-- the text answers the query from this state
abbrev pub IsAnswer : Query → State → List ℕ → Type 0
IsAnswer (StateAt moment) s text = IsStateText s moment text
IsAnswer (HistoryOf ident) s text = IsHistoryText s ident text
IsAnswer (PointAt p moment) s text = IsPointText s moment p text
IsAnswer (ExportAt moment) s text = IsExportText s moment text

-- bytes were told, and nothing else was done: no input was taken, and the file reads as before
abbrev pub TellsOnly : Shown → Shown → Type 0
TellsOnly old new = (told : List ℕ) × Goes 0 told old new

-- how a run ends that tells a text: all of it, or a front where a write failed, or else nothing, and the file reads as before
abbrev pub TellsText : (IsText : List ℕ → Type 0) → Status → Shown → Shown → Type 0
TellsText IsText Good old new = (text : List ℕ) × IsText text × Goes 0 text old new
TellsText IsText WriteFault old new = (text : List ℕ) × IsText text × TellsFront text old new
TellsText IsText NoMemory old new = new ≡ old
TellsText IsText DiskFault old new = new ≡ old
TellsText IsText _ old new = ⊥

-- over a file that stands for messages, the answer from the state that they leave is told
abbrev pub MeetsQuery : Limits → Query → Status → (old new : Shown) → Type 0
MeetsQuery limits query status old new
    = ForSome old.disk (λ file. (messages : List Message) (state : State) → Stands limits file messages state
    → TellsText (IsAnswer query state) status old new)

-- how a query ends, whatever its file has
abbrev pub EndsQuery : Status → (old new : Shown) → Type 0
EndsQuery Good old new = TellsOnly old new
EndsQuery WriteFault old new = TellsOnly old new
EndsQuery BadJournal old new = TellsOnly old new
EndsQuery NoMemory old new = new ≡ old
EndsQuery DiskFault old new = new ≡ old
EndsQuery _ old new = ⊥

-- at no moment of the run might a crash leave a file that it might not have left before, and neither at its end
pub record LeavesNothingNew {O : Type 0} (leaves : O → List ℕ → Type 0) (clock : O → ℕ) (left : O → ℕ → List ℕ → List ℕ → Type 0)
    (old new : O) : Type 0 where
  pub throughout : LeavesOnly clock left old new (λ told image. leaves old image)
  pub at_end : NoneNew (leaves old) (leaves new)
