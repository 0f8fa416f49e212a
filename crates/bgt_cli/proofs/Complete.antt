-- A run in which no call failed answers the whole of a short input, or ends for lack of memory or of room in the file.
use Rattle.std.proofs.Common.{◌≡◌, ◌≤◌, ◌<◌, ℕ, List, length, take, refl, arith}
use Rattle.std.proofs.lemmas.List.{length-take-le}
use Rattle.outside.specs.Outside.{Faults, Rose, Shown}
use Rattle.message_text.specs.declared.limits.Limits.{Limits}
use Rattle.message_text.specs.declared.message.Message.{Message}
use Rattle.map_rules.specs.State.{State, opening}
use Rattle.bgt_cli.specs.declared.status.Status.{Status}
use Rattle.bgt_cli.specs.declared.status.Status.TheVariants.{Good, Refused, Usage, ReadFault, WriteFault, DiskFault, BadJournal, NoMemory, InputLong, JournalFull}
use Rattle.bgt_cli.specs.Clause.{EndsCheck, IsChecked}
use Rattle.std.proofs.Common.{Option, subst, ◌++◌}
use Rattle.bgt_cli.specs.Complete.{NoneRose, IsGoodOrWant, IsWholeOrFull, IsWholeOrWant}
use Rattle.bgt_cli.specs.Room.{AllTaken, HasRoom}
use Rattle.bgt_cli.specs.Load.{EndsLoad, FileStands, IsLoaded}

-- a part that is as long as the limit is not taken of a shorter whole
pub no_long : (n limit : ℕ) (input : List ℕ) → n ≤ length input → length input < limit → length (take n input) ≡ limit → ⊥
no_long n limit input within short full = omega (arith, length-take-le n input within, full)

module _ (limits : Limits) (n : ℕ) (input told : List ℕ) (within : n ≤ length input) (short : length input < limits.input_bytes)
    (before now : Faults) (none : NoneRose before now) where
  check_ends : (status : Status) → EndsCheck limits input (take n input) told status → (status ≡ ReadFault → Rose before.reads now.reads)
      → (status ≡ WriteFault → Rose before.writes now.writes) → IsWholeOrWant status
  check_ends Good h read write = tt
  check_ends Refused h read write = tt
  check_ends NoMemory h read write = tt
  check_ends Usage h read write = h
  check_ends ReadFault h read write = none.reads (read refl)
  check_ends WriteFault h read write = none.writes (write refl)
  check_ends DiskFault h read write = h
  check_ends BadJournal h read write = h
  check_ends InputLong h read write = no_long n limits.input_bytes input within short h.4
  check_ends JournalFull h read write = h

  load_ends : (state : State) (kept : List Message) (gate : ℕ) (status : Status)
      → EndsLoad limits state input (take n input) told kept gate status → (status ≡ ReadFault → Rose before.reads now.reads)
      → (status ≡ WriteFault → Rose before.writes now.writes) → (status ≡ DiskFault → Rose before.disks now.disks) → IsWholeOrFull status
  load_ends state kept gate Good h read write disk = tt
  load_ends state kept gate Refused h read write disk = tt
  load_ends state kept gate NoMemory h read write disk = tt
  load_ends state kept gate JournalFull h read write disk = tt
  load_ends state kept gate Usage h read write disk = h
  load_ends state kept gate ReadFault h read write disk = none.reads (read refl)
  load_ends state kept gate WriteFault h read write disk = none.writes (write refl)
  load_ends state kept gate DiskFault h read write disk = none.disks (disk refl)
  load_ends state kept gate BadJournal h read write disk = h
  load_ends state kept gate InputLong h read write disk = no_long n limits.input_bytes input within short h.4

pub whole_check : (limits : Limits) (input : List ℕ) (status : Status) (old new : Shown) (before now : Faults)
    → length input < limits.input_bytes → NoneRose before now → IsChecked limits input status old new
    → (status ≡ ReadFault → Rose before.reads now.reads) → (status ≡ WriteFault → Rose before.writes now.writes) → IsWholeOrWant status
whole_check limits input status old new before now short none c read write
    = check_ends limits c.n input c.told c.within short before now none status c.ends read write

pub whole_load : {O : Type 0} (shown : O → Shown) (clock : O → ℕ) (left : O → ℕ → List ℕ → List ℕ → Type 0) (limits : Limits)
    (first : List Message) (state : State) (input : List ℕ) (status : Status) (old new : O) (before now : Faults)
    → length input < limits.input_bytes → NoneRose before now
    → IsLoaded shown clock left limits first state input status old new → (status ≡ ReadFault → Rose before.reads now.reads)
    → (status ≡ WriteFault → Rose before.writes now.writes) → (status ≡ DiskFault → Rose before.disks now.disks) → IsWholeOrFull status
whole_load shown clock left limits first state input status old new before now short none l read write disk
    = load_ends limits l.n input l.told l.within short before now none state l.kept l.gate status l.ends read write disk

not_full : (status : Status) → IsWholeOrFull status → (status ≡ JournalFull → ⊥) → IsWholeOrWant status
not_full Good h never = tt
not_full Refused h never = tt
not_full NoMemory h never = tt
not_full JournalFull h never = never refl
not_full Usage h never = h
not_full ReadFault h never = h
not_full WriteFault h never = h
not_full DiskFault h never = h
not_full BadJournal h never = h
not_full InputLong h never = h

not_refused : (status : Status) → IsWholeOrWant status → (status ≡ Refused → ⊥) → IsGoodOrWant status
not_refused Good h never = tt
not_refused Refused h never = never refl
not_refused NoMemory h never = tt
not_refused JournalFull h never = h
not_refused Usage h never = h
not_refused ReadFault h never = h
not_refused WriteFault h never = h
not_refused DiskFault h never = h
not_refused BadJournal h never = h
not_refused InputLong h never = h

module _ {O : Type 0} (shown : O → Shown) (clock : O → ℕ) (left : O → ℕ → List ℕ → List ℕ → Type 0) (limits : Limits) (first : List Message)
    (state : State) (input : List ℕ) (status : Status) (old new : O) (l : IsLoaded shown clock left limits first state input status old new)
  where
    -- and where all records have room, not for lack of it
    pub with_room : ((limits : Limits) (state : State) (first kept : List Message) (input told : List ℕ) (n gate : ℕ) (disk : Option (List ℕ))
        → EndsLoad limits state input (take n input) told kept gate JournalFull → FileStands limits JournalFull gate disk (first ++ kept)
        → HasRoom limits state first input → ⊥)
        → HasRoom limits state first input → IsWholeOrFull status → IsWholeOrWant status
    with_room never room h = not_full status h (λ e.
        never limits state first l.kept input l.told l.n l.gate (shown new).disk
        (subst (λ (x : Status). EndsLoad limits state input (take l.n input) l.told l.kept l.gate x) e l.ends)
        (subst (λ (x : Status). FileStands limits x l.gate (shown new).disk (first ++ l.kept)) e l.stands) room)

    -- and where each text is taken, with 0
    pub with_all : ((limits : Limits) (state : State) (kept : List Message) (input told : List ℕ) (n gate : ℕ)
        → EndsLoad limits state input (take n input) told kept gate Refused → AllTaken limits state input → ⊥) → AllTaken limits state input
        → IsWholeOrWant status → IsGoodOrWant status
    with_all never all h = not_refused status h (λ e. never limits state l.kept input l.told l.n l.gate
        (subst (λ (x : Status). EndsLoad limits state input (take l.n input) l.told l.kept l.gate x) e l.ends) all)

-- the same of `check`: where each text is taken, with 0
pub good_check : ((limits : Limits) (input told : List ℕ) (n : ℕ) → EndsCheck limits input (take n input) told Refused
    → AllTaken limits opening input → ⊥)
    → (limits : Limits) (input : List ℕ) (status : Status) (old new : Shown) → IsChecked limits input status old new
    → AllTaken limits opening input → IsWholeOrWant status → IsGoodOrWant status
good_check never limits input status old new c all h =
    not_refused status h
    (λ e. never limits input c.told c.n (subst (λ (x : Status). EndsCheck limits input (take c.n input) c.told x) e c.ends) all)
