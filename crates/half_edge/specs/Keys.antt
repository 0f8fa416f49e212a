-- Which slot an edge has, now and at the last `keep`.
use Rattle.std.specs.Prelude.{◌≡◌, ◌≢◌, Option}
use Rattle.rd_plane.specs.Plane.{Segment}
use Rattle.edge_arena.specs.declared.arena.Slot.{Slot}
use Rattle.half_edge.specs.KeyMap.{KeyMap, slot_in, undo_keys}

-- the slot of the edge, where it stands
abbrev pub slot_at : KeyMap → Segment → Option Slot
slot_at k e = slot_in k.entries e

-- the slot that it had at the last `keep`
abbrev pub kept_at : KeyMap → Segment → Option Slot
kept_at k e = undo_keys k.log e (slot_at k e)

-- the edge has that, and every other edge what it had
pub record ChangesKey (old new : KeyMap) (e : Segment) (slot : Option Slot) : Type 0 where
  pub there : slot_at new e ≡ slot
  pub elsewhere : (f : Segment) → f ≢ e → slot_at new f ≡ slot_at old f
