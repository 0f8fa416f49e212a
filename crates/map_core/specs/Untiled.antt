-- A message that is refused because its map is not tiled.
use Rattle.std.specs.Prelude.{Some}
use Rattle.rd_plane.specs.Plane.{Segment}
use Rattle.message_text.specs.declared.limits.Limits.{Limits}
use Rattle.message_text.specs.declared.message.Message.{Message}
use Rattle.map_rules.specs.declared.refusal.Refusal.TheVariants as refusal
use Rattle.map_rules.specs.State.{State}
use Rattle.map_rules.specs.Steps.{Decision}

-- the register refuses the message because the map that it would leave its holder is not tiled
abbrev pub IsUntiled : Limits → State → Message → Type 0
IsUntiled limits s m = (edge : Segment) × Decision limits s m (Some (refusal.Tiled edge))
