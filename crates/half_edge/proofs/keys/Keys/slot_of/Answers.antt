use Rattle.std.proofs.Common.{Some, None, ap, ◌∙◌}
use Rattle.half_edge.specs.KeyMap.{slot_among}
use Rattle.half_edge.proofs.KeyWays.{found_here}
use Rattle.half_edge.proofs.keys.Keys.slot_of.Goals as goal

pub returns-in-Some : goal.returns-in-Some
returns-in-Some c = rw (← c.self.view_is) (c.slot_among.ensures ∙ ap (slot_among (Some c.in-Some.ways.now)) c.is_back.ensures
    ∙ found_here _ c.args.edge (Some c.in-Some.ways.now) (rw c.of.ensures at c.in-Some.ensures.value))

pub returns-in-None : goal.returns-in-None
returns-in-None c = rw (← c.self.view_is) (found_here _ c.args.edge None (rw c.of.ensures at c.in-None.ensures.value))
