-- What a message costs the half-edges of its holder's map.
use Rattle.std.specs.Prelude.{◌+◌, ℕ}
use Rattle.message_text.specs.declared.message.Message.{Message}
use Rattle.local_check.specs.Borders.{edges_in, edges_out}
use Rattle.map_rules.specs.Changes.{change_of}
use Rattle.map_rules.specs.State.{State, map_now}

-- how many border edges the message takes out of its holder's map and puts in: those of the ground parts that leave and that come, and
-- with an area block those of the old area and of the new one
abbrev pub edges_changed : State → Message → ℕ
edges_changed s m = edges_out (change_of m) (map_now m.holder s) + edges_in (change_of m)
