-- What holds of the register at every moment, and what is known of a message that is taken.
use Rattle.std.specs.Prelude.{◌≡◌, ◌≢◌, ℕ, ℤ, ◌≤◌, ◌<ℤ◌, ◌≤ℤ◌, length, List, Option, Some, None, IfSome}
use Rattle.std.specs.List.{All, AllPairs, Contains}
use Rattle.rd_plane.specs.Covering.{AreApart}
use Rattle.rd_plane.specs.Plane.{Vertex}
use Rattle.rd_plane.specs.Shapes.{IsSoundShape}
use Rattle.message_text.specs.declared.limits.Limits.{Limits}
use Rattle.message_text.specs.declared.message.Message.{Message}
use Rattle.message_text.specs.declared.message.Mutation.{Mutation}
use Rattle.message_text.specs.declared.message.Mutation.TheVariants.{Add, Change, End}
use Rattle.version_history.specs.declared.version.Version.{Version}
use Rattle.map_rules.specs.Rules.{ident_of}
use Rattle.map_rules.specs.SoundVersions.{HasRightItem}
use Rattle.map_rules.specs.Dated.{IsDated, IsDatedArea}
use Rattle.map_rules.specs.State.{State, area_at, map_at, map_now, moment_of, parts_now}
use Rattle.area_book.specs.declared.version.AreaVersion.{AreaVersion}
use Rattle.area_book.specs.Areas.{newest_area}
use Rattle.area_book.specs.Rule.{KeepsAreas}
use Rattle.area_book.specs.Throughout.{HasEndedBy, IsSoundBook}
use Rattle.local_check.specs.MapRules.{IsRightMap}
use Rattle.map_rules.specs.After.{after}

-- ---- at every moment
-- versions of one identification, in order of making: the earlier has ended where the later begins
abbrev pub Follows : Version → Version → Type 0
Follows v w = v.ident ≡ w.ident → HasEndedBy w.since v.until

-- the version ends after it begins
abbrev pub EndsLater : Version → Type 0
EndsLater v = IfSome v.until (λ u. v.since <ℤ u)

-- all that holds of a state at every moment: its maps are right and its areas apart, its shapes sound, its versions in turn
pub record Good (s : State) : Type 0 where
  pub maps : (t : ℤ) (holder : List ℕ) → IsRightMap (map_at t holder s)
  pub apart : (t : ℤ) (h g : List ℕ) → h ≢ g → AreApart (area_at t h s.areas) (area_at t g s.areas)
  pub shapes : All (λ (v : Version). IsSoundShape v.item.rings) s.versions
  pub in_turn : AllPairs Follows s.versions
  pub spans : All EndsLater s.versions
  pub dated : All (λ (v : Version). IsDated s.last v.holder v.since v.until) s.versions
  pub areas_dated : All (IsDatedArea s.last) s.areas
  pub book : IsSoundBook s.areas

-- what holds of each state that the register reaches: all of that, each item right by the catalogue, and no holder with more current
-- objects than it may have
pub record IsSound (limits : Limits) (s : State) : Type 0 where
  pub good : Good s
  pub items : All HasRightItem s.versions
  pub few : (holder : List ℕ) → length (parts_now holder s.versions) ≤ limits.objects

-- ---- a message that is taken
-- the current version of the identification, which is the holder's
pub record IsOwn (versions : List Version) (holder ident : List ℕ) : Type 0 where
  pub version : Version
  pub of : Contains versions version
  pub ident_is : version.ident ≡ ident
  pub current : version.until ≡ None
  pub own : version.holder ≡ holder

-- what begins is new, what changes or ends is current and the holder's, and shapes are sound
abbrev pub IsFine : List Version → List ℕ → Mutation → Type 0
IsFine versions holder (Add ident item) = ((v : Version) → Contains versions v → v.ident ≢ ident) × IsSoundShape item.rings
IsFine versions holder (Change ident was item) = IsOwn versions holder ident × IsSoundShape item.rings
IsFine versions holder (End ident was day) = IsOwn versions holder ident

-- the area block is not earlier than the last one of any holder, and keeps the rules of areas
abbrev pub IsFineArea : List AreaVersion → List ℕ → ℤ → Option (List (List (List Vertex))) → Type 0
IsFineArea areas holder moment None = Unit {0}
IsFineArea areas holder moment (Some shapes) = IfSome (newest_area areas) (λ t. t ≤ℤ moment) × KeepsAreas areas holder shapes

-- what the rules say of a message that they do not refuse
pub record IsTaken (s : State) (m : Message) : Type 0 where
  pub later : IfSome (moment_of m.holder s.last) (λ t. t <ℤ m.moment)
  pub once : AllPairs (λ x y. ident_of x ≢ ident_of y) m.mutations
  pub fine : All (IsFine s.versions m.holder) m.mutations
  pub area : IsFineArea s.areas m.holder m.moment m.area
  pub right : IsRightMap (map_now m.holder (after s m))
