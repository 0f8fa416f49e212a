-- The promise of the register, in a surveyor's words.
use Rattle.std.specs.Prelude.{◌≡◌, ◌⊎◌, ◌↔◌, ℕ, ℤ, List, [], ◌∷◌, None, IsTrue}
use Rattle.std.specs.Bool.{if◌then◌else◌}
use Rattle.rd_plane.specs.Covering.{IsTiled, cover_count, covers_any}
use Rattle.rd_plane.specs.Plane.{Point, off}
use Rattle.rd_plane.specs.Rule.{Is}
use Rattle.local_check.specs.Maps.{ground_of}
use Rattle.message_text.specs.declared.limits.Limits.{Limits}
use Rattle.message_text.specs.declared.message.Message.{Message}
use Rattle.map_rules.specs.declared.refusal.Answer.{Answer}
use Rattle.map_rules.specs.declared.refusal.Answer.TheVariants.{Taken}
use Rattle.map_rules.specs.After.{after}
use Rattle.map_rules.specs.Runs.{IsRead, RefusesText}
use Rattle.map_rules.specs.State.{State, area_at, edges_of, map_at, map_now, parts_at}
use Rattle.map_rules.specs.Steps.{RulesThen, Step}

-- For each holder, each moment and each point of the plane that is on no edge of the holder's map then: the number of the
-- holder's ground parts in which the point lies is 1 where the point lies in the holder's area, and 0 elsewhere.
abbrev pub TiledThroughout : State → Type 0
TiledThroughout s = (holder : List ℕ) (moment : ℤ) (p : Point) → IsTrue (off p (edges_of (map_at moment holder s)))
    → cover_count p (ground_of (parts_at moment holder s.versions)) ≡ (if covers_any p (area_at moment holder s.areas) then 1 else 0)

-- no rule but that of the tiling refuses the message
abbrev pub PassesOthers : Limits → State → Message → Type 0
PassesOthers limits s m = RulesThen (Is None) limits s m None

-- the holder's whole new map, as the message would leave it, tiles the holder's area
abbrev pub LeavesTiled : State → Message → Type 0
LeavesTiled s m = IsTiled (map_now m.holder (after s m)).area (ground_of (map_now m.holder (after s m)).parts)

-- a message that breaks no other rule is accepted exactly where its holder's whole new map is tiled
abbrev pub IsExact : Limits → State → Message → Answer → Type 0
IsExact limits s m answer = PassesOthers limits s m → (answer ≡ Taken) ↔ LeavesTiled s m

-- the text has no message and is refused for that; or its message is answered by the rules, and exactly
abbrev pub AnswersExactly : Limits → State → List ℕ → Answer → State → Type 0
AnswersExactly limits s text answer next = RefusesText limits s text answer next
    ⊎ ((m : Message) × IsRead limits text m × Step limits s m answer next × IsExact limits s m answer)

-- From this state on the texts are answered so, each message exactly; and before the first of them and after each, the maps of the
-- register tile their areas at every moment.
unfoldable pub StaysTiled : Limits → State → List (List ℕ) → List Answer → Type 0
StaysTiled limits s [] [] = TiledThroughout s
StaysTiled limits s (text ∷ texts) (answer ∷ answers) = (next : State) × TiledThroughout s × AnswersExactly limits s text answer next
    × StaysTiled limits next texts answers
StaysTiled limits s _ _ = ⊥
