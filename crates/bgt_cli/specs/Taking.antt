-- The whole input, taken before anything is told.
use Rattle.std.specs.Prelude.{◌≡◌, ◌≤◌, ◌<◌, ◌++◌, ℕ, List, length}
use Rattle.std.specs.Option.{ForSome}
use Rattle.outside.specs.Outside.{Shown}
use Rattle.message_text.specs.declared.limits.Limits.{Limits}
use Rattle.bgt_cli.specs.declared.status.Status.{Status}
use Rattle.bgt_cli.specs.declared.status.Status.TheVariants.{ReadFault, NoMemory, InputLong}
use Rattle.bgt_cli.specs.Stops.{TakesPiece}

-- so many bytes were taken, and stand behind those that were taken before
abbrev pub TakesMore : (before now : List ℕ) → Shown → Shown → ℕ → Type 0
TakesMore before now old new n = (bytes : List ℕ) × (length bytes ≡ n) × TakesPiece bytes old new × (now ≡ before ++ bytes)

-- these bytes were taken, and they are the whole input
pub record TakesWhole (limits : Limits) (bytes : List ℕ) (old new : Shown) : Type 0 where
  pub taken : TakesPiece bytes old new
  pub short : length bytes < limits.input_bytes
  pub whole : ForSome old.input (λ input. bytes ≡ input)

-- why the end of the input was not met, once these bytes were taken
abbrev pub IsStop : Limits → (bytes : List ℕ) → Status → Type 0
IsStop limits bytes ReadFault = Unit {0}
IsStop limits bytes NoMemory = Unit {0}
IsStop limits bytes InputLong = length bytes ≡ limits.input_bytes
IsStop limits bytes _ = ⊥

-- some bytes were taken, and the run ends as the status says
pub record StopsTaking (limits : Limits) (old new : Shown) (status : Status) : Type 0 where
  pub bytes : List ℕ
  pub taken : TakesPiece bytes old new
  pub few : length bytes ≤ limits.input_bytes
  pub stop : IsStop limits bytes status
