-- Why a message is refused, over all rules, in the order in which the reasons are tried.
use Rattle.std.specs.Prelude.{◌≡◌, ℕ, nat_le, nat_lt, ◌&&◌, List, [], length, count_by, Option, Some, None, is_none, is_some}
use Rattle.std.specs.Bool.{if◌then◌else◌}
use Rattle.rd_plane.specs.Plane.{Vertex}
use Rattle.rd_plane.specs.Rule.{Rule, ◌then◌, Is, when}
use Rattle.message_text.specs.declared.limits.Limits.{Limits}
use Rattle.message_text.specs.declared.message.Message.{Message}
use Rattle.map_rules.specs.declared.refusal.FullName.TheVariants.{Holders, Objects}
use Rattle.map_rules.specs.declared.refusal.Refusal.{Refusal}
use Rattle.map_rules.specs.declared.refusal.Refusal.TheVariants as refusal
use Rattle.map_rules.specs.Rules.{MutationsRule, earlier, not_later}
use Rattle.map_rules.specs.State.{State, is_object_of, map_now, moment_of}
use Rattle.area_book.specs.declared.fault.AreaFault.{AreaFault}
use Rattle.area_book.specs.declared.fault.AreaFault.TheVariants as fault
use Rattle.area_book.specs.declared.version.AreaVersion.{AreaVersion}
use Rattle.area_book.specs.Areas.{newest_area}
use Rattle.area_book.specs.Rule.{IsAreaFault, KeepsAreas}
use Rattle.local_check.specs.declared.fault.MapFault.{MapFault}
use Rattle.local_check.specs.MapRules.{MapRule}
use Rattle.map_rules.specs.After.{after}

-- by a rule of mutations or of room, by the rule of areas, or by the new map
pub data Cause : Type 0 where
  by_rule : Refusal → Cause
  by_area : AreaFault → Cause
  by_map : MapFault → Cause

-- the rule, told in the words of another
abbrev pub Through : {R S : Type 0} → (R → S) → Rule R → Rule S
Through {R} {S} told rule None = rule None
Through {R} {S} told rule (Some cause) = (r : R) × rule (Some r) × (cause ≡ told r)

-- there is an area block, and the moment is earlier than that of the last area block of any holder
abbrev pub stale_area : List AreaVersion → Message → Option Refusal
stale_area areas m = if is_some m.area then earlier m.moment (newest_area areas) else None

-- moments, and then each mutation
abbrev pub MessageRule : State → Message → Rule Refusal
MessageRule s m
    = Is (not_later m.moment (moment_of m.holder s.last)) then Is (stale_area s.areas m) then MutationsRule s.versions m [] m.mutations

-- as many holders as may be have an accepted message
abbrev pub no_holder_more : Cause
no_holder_more = by_rule (refusal.Full Holders)

-- a new holder where that is so
abbrev pub full_holders : Limits → State → Message → Option Cause
full_holders limits s m = when (is_none (moment_of m.holder s.last) && nat_le limits.holders (length s.last)) no_holder_more None

-- more current objects of the holder than may be
abbrev pub full_objects : Limits → State → Message → Option Cause
full_objects limits s m
    = when (nat_lt limits.objects (count_by (is_object_of m.holder) (after s m).versions)) (by_rule (refusal.Full Objects)) None

-- the shapes are an area that keeps apart from the others, or they are refused; never for lack of memory
abbrev pub ShapesRule : List AreaVersion → List ℕ → List (List (List Vertex)) → Rule AreaFault
ShapesRule areas holder shapes None = KeepsAreas areas holder shapes
ShapesRule areas holder shapes (Some fault.NoMemory) = ⊥
ShapesRule areas holder shapes (Some r) = IsAreaFault areas holder shapes r

-- so for an area block, where there is one
abbrev pub AreaRule : List AreaVersion → List ℕ → Option (List (List (List Vertex))) → Rule AreaFault
AreaRule areas holder None = Is None
AreaRule areas holder (Some shapes) = ShapesRule areas holder shapes

-- what is asked after the room for holders
abbrev pub LaterRule : Limits → State → Message → Rule Cause
LaterRule limits s m = Is (full_objects limits s m) then Through by_area (AreaRule s.areas m.holder m.area) then Through by_map
    (MapRule (map_now m.holder (after s m)))

-- all rules
abbrev pub Judged : Limits → State → Message → Rule Cause
Judged limits s m = Through by_rule (MessageRule s m) then Is (full_holders limits s m) then LaterRule limits s m
