-- A journal that may be written to, and what a crash leaves of it.
use Rattle.std.specs.Prelude.{◌≡◌, ◌⊎◌, ℕ, nat_le, List, [], ◌∷◌, ◌++◌, length, Option, Some, IfSome}
use Rattle.std.specs.Bool.{if◌then◌else◌}
use Rattle.outside.specs.Crash.{IsDurable}
use Rattle.gate_journal.specs.declared.mode.Mode.{Mode}
use Rattle.gate_journal.specs.declared.mode.Mode.TheVariants.{Reading, Writing}
use Rattle.gate_journal.specs.Journal.{mark, StandsFor}
use Rattle.gate_journal.specs.Reading.{EndsAt}

-- the file has these payloads and its first closed gate at this offset, and all of it is on the disk
pub record IsSettled (disk : Option (List ℕ)) (leaves : List ℕ → Type 0) (gate : ℕ) (payloads : List (List ℕ)) : Type 0 where
  pub file : List ℕ
  pub reads : disk ≡ Some file
  pub durable : IsDurable disk leaves
  pub ends : EndsAt gate file payloads

-- where the disk is told, the file is settled
abbrev pub IsSettledIfTold : Option (List ℕ) → (List ℕ → Type 0) → ℕ → Type 0
IsSettledIfTold disk leaves gate = IfSome disk (λ _. (payloads : List (List ℕ)) × IsSettled disk leaves gate payloads)

-- the image stands for the payloads, with one more or without it
abbrev pub IsBeforeOrAfter : List (List ℕ) → List ℕ → (image : List ℕ) → Type 0
IsBeforeOrAfter payloads payload image = StandsFor image payloads ⊎ StandsFor image (payloads ++ payload ∷ [])

-- each image stands for the payloads
abbrev pub AllStandFor : (List ℕ → Type 0) → List (List ℕ) → Type 0
AllStandFor leaves payloads = (image : List ℕ) → leaves image → StandsFor image payloads

-- the file once a journal is begun on it: for writing, one of at most nine bytes is made a new one
abbrev pub begun_file : Mode → List ℕ → List ℕ
begun_file Reading file = file
begun_file Writing file = if nat_le (length file) 9 then mark ++ 0 ∷ [] else file
