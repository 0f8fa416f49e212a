-- What two states have in common of one holder, and which messages keep to their own holder's objects.
use Rattle.std.specs.Prelude.{◌≡◌, ℕ, Bool, not, ◌||◌, List, filter}
use Rattle.std.specs.Bool.{if◌then◌else◌}
use Rattle.std.specs.List.{All, list_any}
use Rattle.std.specs.Str.{bytes_eq}
use Rattle.imgeo_types.specs.Fields.{holder_of}
use Rattle.message_text.specs.declared.message.Message.{Message}
use Rattle.message_text.specs.declared.message.Mutation.{Mutation}
use Rattle.message_text.specs.declared.message.Mutation.TheVariants.{Add, Change, End}
use Rattle.version_history.specs.declared.version.Version.{Version}
use Rattle.map_rules.specs.Rules.{ident_of}
use Rattle.map_rules.specs.State.{State, moment_of}
use Rattle.area_book.specs.declared.version.AreaVersion.{AreaVersion}

-- the version is the holder's, or of an identification with the holder's code
abbrev pub concerns : List ℕ → Version → Bool
concerns holder v = bytes_eq (holder_of v.ident) holder || bytes_eq v.holder holder

-- the version of an area is the holder's
abbrev pub is_area_version : List ℕ → AreaVersion → Bool
is_area_version holder a = bytes_eq a.holder holder

-- the same versions of the holder and of its identifications, current and ended, the same versions of its area, the same last moment
pub record AgreeOn (holder : List ℕ) (s t : State) : Type 0 where
  pub versions : filter (concerns holder) s.versions ≡ filter (concerns holder) t.versions
  pub areas : filter (is_area_version holder) s.areas ≡ filter (is_area_version holder) t.areas
  pub last : moment_of holder s.last ≡ moment_of holder t.last

-- a version is the holder's exactly where its identification has the holder's code
abbrev pub IsAtHome : List ℕ → Version → Type 0
IsAtHome holder v = bytes_eq (holder_of v.ident) holder ≡ bytes_eq v.holder holder

-- so it is with all versions of the state
abbrev pub AreAtHome : List ℕ → State → Type 0
AreAtHome holder s = All (IsAtHome holder) s.versions

-- ---- messages
-- the mutation names an identification without the holder's code
abbrev pub names_other : List ℕ → Mutation → Bool
names_other holder x = not (bytes_eq (holder_of (ident_of x)) holder)

-- the mutation begins an object whose identification has the holder's code
abbrev pub begins_one : List ℕ → Mutation → Bool
begins_one holder (Add ident item) = bytes_eq (holder_of ident) holder
begins_one holder (Change ident was item) = Bool.false
begins_one holder (End ident was day) = Bool.false

-- the holder's message names an identification with another code, or another's message begins one with the holder's code
abbrev pub is_foreign : List ℕ → Message → Bool
is_foreign holder m
    = if bytes_eq m.holder holder then list_any (names_other holder) m.mutations else list_any (begins_one holder) m.mutations

-- the message is not foreign to the holder
abbrev pub IsLocal : List ℕ → Message → Type 0
IsLocal holder m = is_foreign holder m ≡ Bool.false
