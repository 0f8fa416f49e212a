-- What each state has that texts lead to from the opening state.
use Rattle.std.specs.Prelude.{◌≡◌, ◌≤◌, ◌≤ℤ◌, ℕ, ℤ, List, length}
use Rattle.std.specs.List.{All}
use Rattle.imgeo_types.specs.Fields.{holder_of}
use Rattle.message_text.specs.declared.limits.Limits.{Limits}
use Rattle.version_history.specs.declared.version.Version.{Version}
use Rattle.map_rules.specs.Good.{IsSound}
use Rattle.map_rules.specs.Rules.{day_of}
use Rattle.map_rules.specs.State.{State, parts_at}

-- the identification begins with the code of the version's holder
abbrev pub IsAtHome : Version → Type 0
IsAtHome v = holder_of v.ident ≡ v.holder

-- the object began no later than the day on which the version was registered
abbrev pub BeganInTime : Version → Type 0
BeganInTime v = v.item.begin ≤ℤ day_of v.since

-- All is right at every moment and each item by the catalogue. Identifications name their holders, and no object began later than it
-- was registered. At no moment a holder has more objects than it may, and no more holders than may be have an accepted message.
pub record IsKept (limits : Limits) (s : State) : Type 0 where
  pub sound : IsSound limits s
  pub home : All IsAtHome s.versions
  pub began : All BeganInTime s.versions
  pub few : (moment : ℤ) (holder : List ℕ) → length (parts_at moment holder s.versions) ≤ limits.objects
  pub few_holders : length s.last ≤ limits.holders
