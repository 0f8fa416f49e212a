-- The exported messages of a map, taken from the beginning.
use Rattle.std.specs.Prelude.{◌≡◌, ◌≤◌, ℕ, ℤ, List, length, map, filter, replicate, None}
use Rattle.std.specs.List.{All}
use Rattle.message_text.specs.declared.limits.Limits.{Limits}
use Rattle.message_text.specs.declared.message.Message.{Message}
use Rattle.message_text.specs.Reading.{passed_limit}
use Rattle.version_history.specs.declared.version.Version.{Version}
use Rattle.version_history.specs.Moments.{rising, versions_at}
use Rattle.version_history.specs.Versions.{is_current}
use Rattle.area_book.specs.Areas.{area_of}
use Rattle.map_rules.specs.declared.refusal.Answer.TheVariants.{Taken}
use Rattle.map_rules.specs.Runs.{Run}
use Rattle.map_rules.specs.State.{State, area_at, opening}
use Rattle.moment_query.specs.Exports.{AreTexts, exported, named}

-- these are the texts of the exported messages, and none passes a limit on texts
pub record AreExported (limits : Limits) (s : State) (moment : ℤ) (texts : List (List ℕ)) : Type 0 where
  pub are : AreTexts texts (exported s moment)
  pub short : All (λ (text : List ℕ). length text ≤ limits.message_bytes) texts
  pub within : All (λ (m : Message). passed_limit limits m ≡ None) (exported s moment)

-- The current objects are those that the other state had at the moment: the same holders, identifications and items, by rising
-- identification. The current area of each holder is the one that it had then. And at the moment the same is exported again.
pub record IsMapThen (s : State) (moment : ℤ) (new : State) : Type 0 where
  pub objects : map named (rising (λ (v : Version). v.ident) (filter is_current new.versions)) ≡ map named (versions_at moment s.versions)
  pub areas : (holder : List ℕ) → area_of holder new.areas ≡ area_at moment holder s.areas
  pub again : exported new moment ≡ exported s moment

-- from the opening state each of the texts is taken, and the map that they leave is that of the moment
pub record LoadsBack (limits : Limits) (s : State) (moment : ℤ) (texts : List (List ℕ)) : Type 0 where
  pub new : State
  pub run : Run limits opening texts (replicate (length texts) Taken) new
  pub same : IsMapThen s moment new
