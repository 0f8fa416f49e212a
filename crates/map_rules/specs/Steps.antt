-- One message, one step of the register.
use Rattle.std.specs.Prelude.{◌≡◌, [], Some, None}
use Rattle.rd_plane.specs.Rule.{Rule, ◌then◌, Is}
use Rattle.message_text.specs.declared.limits.Limits.{Limits}
use Rattle.message_text.specs.declared.message.Message.{Message}
use Rattle.map_rules.specs.declared.refusal.Refusal.{Refusal}
use Rattle.map_rules.specs.declared.refusal.Answer.{Answer}
use Rattle.map_rules.specs.declared.refusal.Answer.TheVariants.{Taken, Refused}
use Rattle.map_rules.specs.declared.refusal.Refusal.TheVariants as refusal
use Rattle.local_check.specs.MapRules.{LevelRule, NodeRule}
use Rattle.map_rules.specs.State.{State, edges_of, map_now}
use Rattle.map_rules.specs.After.{after}
use Rattle.map_rules.specs.Rules.{stale_message, stale_area, MutationsRule, full_holders, full_objects, AreaRule, TiledRule}

-- the rules in their order but for the last, and then this one
abbrev pub RulesThen : Rule Refusal → Limits → State → Message → Rule Refusal
RulesThen last limits s m = Is (stale_message s.last m)
    then Is (stale_area s.areas m)
    then MutationsRule s.versions m [] m.mutations
    then Is (full_holders limits s.last m)
    then Is (full_objects limits (after s m).versions m)
    then AreaRule s.areas m.holder m.area
    then LevelRule refusal.Levels (map_now m.holder (after s m)).parts
    then NodeRule refusal.Node (edges_of (map_now m.holder (after s m)))
    then last

-- all rules, the tiling of the holder's new map last: why the register refuses the message, or that it does not
unfoldable pub Decision : Limits → State → Message → Rule Refusal
Decision limits s m = RulesThen (TiledRule (map_now m.holder (after s m))) limits s m

-- from old, the register answers the message so and goes on to new
abbrev pub Step : Limits → State → Message → Answer → State → Type 0
Step limits old m Taken new = Decision limits old m None × (new ≡ after old m)
Step limits old m (Refused r) new = Decision limits old m (Some r) × (new ≡ old)
