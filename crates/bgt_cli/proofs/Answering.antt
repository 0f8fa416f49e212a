-- How a query ends, from the file at entry on.
use Rattle.std.proofs.Common.{◌≡◌, ◌∙◌, ℕ, List, Option, Some, None, refl, ap, subst}
use Rattle.std.specs.Prelude.{option_map}
use Rattle.std.specs.Option.{ForSome}
use Rattle.outside.specs.Outside.{Shown, Faults, Rose}
use Rattle.message_text.specs.declared.limits.Limits.{Limits}
use Rattle.message_text.specs.declared.message.Message.{Message}
use Rattle.map_rules.specs.State.{State}
use Rattle.gate_journal.specs.declared.mode.Mode.TheVariants.{Reading}
use Rattle.gate_journal.specs.Settled.{begun_file}
use Rattle.map_store.specs.Stands.{Stands}
use Rattle.bgt_cli.specs.declared.query.Query.{Query}
use Rattle.bgt_cli.specs.declared.status.Status.{Status}
use Rattle.bgt_cli.specs.declared.status.Status.TheVariants.{Good, Refused, Usage, ReadFault, WriteFault}
use Rattle.bgt_cli.specs.declared.status.Status.TheVariants.{DiskFault, BadJournal, NoMemory, InputLong, JournalFull}
use Rattle.bgt_cli.specs.Complete.{IsGoodOrWant, NoneRose}
use Rattle.bgt_cli.specs.Load.{MeetsNoList}
use Rattle.bgt_cli.specs.Query.{IsAnswer, MeetsQuery, TellsText}
use Rattle.bgt_cli.specs.Stream.{Goes, TellsFront}

same_file : (disk : Option (List ℕ)) → option_map (begun_file Reading) disk ≡ disk
same_file None = refl
same_file (Some file) = refl

-- all is as before where the file is begun for reading
pub as_before : (old new : Shown) → new ≡ record old { disk = new.disk } → new.disk ≡ option_map (begun_file Reading) old.disk → new ≡ old
as_before old new told disk = told ∙ ap (λ (d : Option (List ℕ)). record old { disk = d }) (disk ∙ same_file old.disk)

-- the file stands for messages that leave this state
abbrev pub StandsWith : Limits → Option (List ℕ) → State → Type 0
StandsWith limits disk t = ForSome disk (λ file. (messages : List Message) × Stands limits file messages t)

-- the file stands for messages, so nothing is said of one that stands for none
pub is_no_bad : (limits : Limits) (t : State) (status : Status) (old new : Shown) → StandsWith limits old.disk t
    → MeetsNoList limits status old new
is_no_bad limits t status old new stands = λ file reads none. let s = stands file reads in absurd (none s.0 t s.1)

-- the file has one list of messages, whose state the answer is from
module _ (limits : Limits) (query : Query) (t : State) (text : List ℕ) (old mid new : Shown) (same : mid ≡ old)
    (stands : StandsWith limits old.disk t)
    (one : (limits : Limits) (file : List ℕ) (messages others : List Message) (s u : State) → Stands limits file messages s
    → Stands limits file others u → (messages ≡ others) × (s ≡ u))
    (is : IsAnswer query t text) where
  answers : (file : List ℕ) → old.disk ≡ Some file → (messages : List Message) (state : State) → Stands limits file messages state
      → IsAnswer query state text
  answers file reads messages state others =
      let s = stands file reads in
      subst (λ (x : State). IsAnswer query x text) (one limits file s.0 messages t state s.1 others).1 is

  -- all of it was told
  pub told_all : Goes 0 text mid new → MeetsQuery limits query Good old new
  told_all goes = λ file reads messages state others.
      (text, answers file reads messages state others, subst (λ (s : Shown). Goes 0 text s new) same goes)

  -- a front of it was told
  pub told_front : TellsFront text mid new → MeetsQuery limits query WriteFault old new
  told_front front = λ file reads messages state others.
      (text, answers file reads messages state others, subst (λ (s : Shown). TellsFront text s new) same front)

-- where no call failed it ends with its answer, or for lack of memory
pub whole_query : (IsText : List ℕ → Type 0) (status : Status) (old new : Shown) (before now : Faults) → NoneRose before now
    → TellsText IsText status old new
    → (status ≡ WriteFault → Rose before.writes now.writes) → (status ≡ DiskFault → Rose before.disks now.disks) → IsGoodOrWant status
whole_query IsText Good old new before now none h write disk = tt
whole_query IsText NoMemory old new before now none h write disk = tt
whole_query IsText WriteFault old new before now none h write disk = none.writes (write refl)
whole_query IsText DiskFault old new before now none h write disk = none.disks (disk refl)
whole_query IsText Refused old new before now none h write disk = h
whole_query IsText Usage old new before now none h write disk = h
whole_query IsText ReadFault old new before now none h write disk = h
whole_query IsText BadJournal old new before now none h write disk = h
whole_query IsText InputLong old new before now none h write disk = h
whole_query IsText JournalFull old new before now none h write disk = h
