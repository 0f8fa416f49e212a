-- One holder's messages alone, taken again from the beginning.
use Rattle.std.specs.Prelude.{◌≡◌, ℕ, ℤ, Bool, List, filter, fold, Some, None, Result, Ok, Err}
use Rattle.std.specs.List.{position_from}
use Rattle.std.specs.Str.{bytes_eq}
use Rattle.message_text.specs.declared.limits.Limits.{Limits}
use Rattle.message_text.specs.declared.message.Message.{Message}
use Rattle.version_history.specs.declared.version.Version.{Version}
use Rattle.map_rules.specs.After.{after}
use Rattle.map_rules.specs.State.{State, map_at, opening}
use Rattle.alone_law.specs.Agreeing.{is_area_version, is_foreign}
use Rattle.alone_law.specs.Folding.{Replays}
use Rattle.alone_law.specs.Judging.{Judged}
use Rattle.alone_law.specs.Running.{is_message_of}

-- the message is taken
abbrev pub Takes : Limits → State → Message → Type 0
Takes limits s m = Judged limits s m None

-- the messages are taken, one after another
abbrev pub IsReplay : Limits → State → List Message → Type 0
IsReplay limits s ms = Replays (Takes limits) after s ms

-- what they leave
abbrev pub replayed : State → List Message → State
replayed s ms = fold after s ms

-- the holder's messages among these
abbrev pub own_messages : List ℕ → List Message → List Message
own_messages holder ms = filter (is_message_of holder) ms

-- the version is the holder's
abbrev pub is_version_of : List ℕ → Version → Bool
is_version_of holder v = bytes_eq v.holder holder

-- what is seen of a holder: its map at each moment, its versions and the versions of its area
pub record LookAlike (holder : List ℕ) (s t : State) : Type 0 where
  pub maps : (moment : ℤ) → map_at moment holder s ≡ map_at moment holder t
  pub versions : filter (is_version_of holder) s.versions ≡ filter (is_version_of holder) t.versions
  pub areas : filter (is_area_version holder) s.areas ≡ filter (is_area_version holder) t.areas

-- what opening the records for one holder gives: the place of the first foreign message, counted from 1, else what the holder's own leave
abbrev pub Opens : List Message → List ℕ → Result State ℕ → Type 0
Opens ms holder (Err at) = position_from (is_foreign holder) 1 ms ≡ Some at
Opens ms holder (Ok s) = (position_from (is_foreign holder) 1 ms ≡ None) × (s ≡ replayed opening (own_messages holder ms))

-- what that says, where the messages can be taken again
pub record IsHolderAlone (limits : Limits) (ms : List Message) (holder : List ℕ) (s : State) : Type 0 where
  pub replay : IsReplay limits opening (own_messages holder ms)
  pub is : s ≡ replayed opening (own_messages holder ms)
  pub same : LookAlike holder (replayed opening ms) s
