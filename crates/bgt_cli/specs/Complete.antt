-- Runs in which no call failed.
use Rattle.outside.specs.Outside.{Faults, Rose}
use Rattle.bgt_cli.specs.declared.status.Status.{Status}
use Rattle.bgt_cli.specs.declared.status.Status.TheVariants.{Good, Refused, NoMemory, JournalFull}

-- no count rose
pub record NoneRose (before now : Faults) : Type 0 where
  pub reads : ¬ Rose before.reads now.reads
  pub writes : ¬ Rose before.writes now.writes
  pub disks : ¬ Rose before.disks now.disks

-- the whole input was answered, or there was no memory
abbrev pub IsWholeOrWant : Status → Type 0
IsWholeOrWant Good = Unit {0}
IsWholeOrWant Refused = Unit {0}
IsWholeOrWant NoMemory = Unit {0}
IsWholeOrWant _ = ⊥

-- or the file was full
abbrev pub IsWholeOrFull : Status → Type 0
IsWholeOrFull JournalFull = Unit {0}
IsWholeOrFull status = IsWholeOrWant status

-- all messages were accepted and no tail is left, or there was no memory
abbrev pub IsGoodOrWant : Status → Type 0
IsGoodOrWant Good = Unit {0}
IsGoodOrWant NoMemory = Unit {0}
IsGoodOrWant _ = ⊥
