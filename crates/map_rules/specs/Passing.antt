-- A message that no rule refuses.
use Rattle.std.specs.Prelude.{◌≡◌, [], List, Option, Some, None}
use Rattle.rd_plane.specs.Plane.{Vertex}
use Rattle.message_text.specs.declared.message.Message.{Message}
use Rattle.map_rules.specs.Rules.{MutationsRule, earlier, not_later}
use Rattle.map_rules.specs.State.{State, map_now, moment_of}
use Rattle.area_book.specs.declared.version.AreaVersion.{AreaVersion}
use Rattle.area_book.specs.Areas.{newest_area}
use Rattle.area_book.specs.Rule.{KeepsAreas}
use Rattle.local_check.specs.MapRules.{MapRule}
use Rattle.map_rules.specs.After.{after}

-- the area block, where there is one, is not stale, and the rule of areas refuses nothing
abbrev pub AreaPasses : List AreaVersion → Message → Option (List (List (List Vertex))) → Type 0
AreaPasses areas m None = Unit {0}
AreaPasses areas m (Some shapes) = (earlier m.moment (newest_area areas) ≡ None) × KeepsAreas areas m.holder shapes

-- no rule of moments, mutations, areas and maps refuses the message; room is not spoken of
pub record Passes (s : State) (m : Message) : Type 0 where
  pub fresh : not_later m.moment (moment_of m.holder s.last) ≡ None
  pub mutations : MutationsRule s.versions m [] m.mutations None
  pub area : AreaPasses s.areas m m.area
  pub map : MapRule (map_now m.holder (after s m)) None
