-- The rules in a row, as the code asks them.
use Rattle.std.specs.Prelude.{◌≡◌, Option, Some, None, IfNone}
use Rattle.std.specs.List.{All}
use Rattle.rd_plane.specs.Covering.{IsSoundArea}
use Rattle.rd_plane.specs.Rule.{Rule}
use Rattle.rd_plane.specs.Shapes.{IsSoundShape}
use Rattle.message_text.specs.declared.limits.Limits.{Limits}
use Rattle.message_text.specs.declared.message.Message.{Message}
use Rattle.local_check.specs.Maps.{IsRightChange, changed, ground_of}
use Rattle.map_rules.specs.After.{after}
use Rattle.map_rules.specs.Changes.{change_of}
use Rattle.map_rules.specs.Rules.{MapRules}
use Rattle.map_rules.specs.State.{State, map_now}
use Rattle.map_rules.specs.Steps.{Decision}
use Rattle.map_rules.specs.declared.refusal.Refusal.{Refusal}

-- a further rule of the row: what the rules before it found stays, and where that is nothing the rule is asked
unfoldable pub Further : Option Refusal → Rule Refusal → Rule Refusal
Further None rule result = rule result
Further (Some r) rule result = result ≡ Some r

-- the change that the message makes of its holder's map may be tried, and the changed map has sound shapes
pub record IsTryable (s : State) (m : Message) : Type 0 where
  pub change : IsRightChange (map_now m.holder s) (change_of m)
  pub area : IsSoundArea (changed (change_of m) (map_now m.holder s)).area
  pub sound : All IsSoundShape (ground_of (changed (change_of m) (map_now m.holder s)).parts)

-- where the rules up to that of the map found this, the rules of the map give the decision; and where they found nothing, the
-- message's change may be tried
pub record LeadsToMap (limits : Limits) (s : State) (m : Message) (found : Option Refusal) : Type 0 where
  pub gives : (answer : Option Refusal) → Further found (MapRules (map_now m.holder (after s m))) answer → Decision limits s m answer
  pub tryable : IfNone found (IsTryable s m)
