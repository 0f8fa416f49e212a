-- What a message leaves where it is taken.
use Rattle.std.specs.Prelude.{◌+◌, ℕ, ℤ, List, [], ◌∷◌, ◌++◌, map, fold, Option, Some, None}
use Rattle.std.specs.Bool.{if◌then◌else◌}
use Rattle.std.specs.List.{flat_map}
use Rattle.std.specs.Str.{bytes_eq}
use Rattle.rd_plane.specs.Plane.{Vertex}
use Rattle.message_text.specs.declared.message.Message.{Message}
use Rattle.message_text.specs.declared.message.Mutation.{Mutation}
use Rattle.message_text.specs.declared.message.Mutation.TheVariants.{Add, Change, End}
use Rattle.version_history.specs.declared.version.Version.{Version}
use Rattle.version_history.specs.Versions.{ended_if, new_version}
use Rattle.area_book.specs.declared.version.AreaVersion.{AreaVersion}
use Rattle.area_book.specs.Areas.{areas_with}
use Rattle.map_rules.specs.declared.last.LastMessage.{LastMessage}
use Rattle.map_rules.specs.State.{State}

-- what one mutation does to a version that is there: the version that it names ends
abbrev pub touched : ℤ → Mutation → Version → Version
touched moment (Add ident item) v = v
touched moment (Change ident was item) v = ended_if ident moment None v
touched moment (End ident was day) v = ended_if ident moment (Some day) v

-- what all of these do to it, one after another
abbrev pub touched_by : ℤ → List Mutation → Version → Version
touched_by moment mutations v = fold (λ (w : Version) (mutation : Mutation). touched moment mutation w) v mutations

-- the version that a mutation begins
abbrev pub begun : List ℕ → ℤ → Mutation → List Version
begun holder moment (Add ident item) = new_version holder ident item moment ∷ []
begun holder moment (Change ident was item) = new_version holder ident item moment ∷ []
begun holder moment (End ident was day) = []

-- the versions that there were, those that are named ended, and after them those that begin
abbrev pub versions_after : List ℕ → ℤ → List Mutation → List Version → List Version
versions_after holder moment mutations versions = map (touched_by moment mutations) versions ++ flat_map (begun holder moment) mutations

-- the area block replaces the holder's area
abbrev pub areas_after : List ℕ → ℤ → Option (List (List (List Vertex))) → List AreaVersion → List AreaVersion
areas_after holder moment None areas = areas
areas_after holder moment (Some shapes) areas = areas_with holder moment shapes areas

-- the moment becomes that of the holder's last message
abbrev pub last_after : List ℕ → ℤ → List LastMessage → List LastMessage
last_after holder moment [] = record { holder = holder; moment = moment } ∷ []
last_after holder moment (l ∷ last)
    = if bytes_eq l.holder holder then record l { moment = moment } ∷ last else l ∷ last_after holder moment last

-- the state that a message leaves where it is taken
abbrev pub after : State → Message → State
after s m = record {
  versions = versions_after m.holder m.moment m.mutations s.versions;
  areas = areas_after m.holder m.moment m.area s.areas;
  last = last_after m.holder m.moment s.last;
  accepted = s.accepted + 1;
}
