use Rattle.std.proofs.Common.{Some, None, ap, not, ◌∙◌}
use Rattle.half_edge.specs.KeyMap.{slot_among}
use Rattle.half_edge.proofs.KeyWays.{found_beside}
use Rattle.half_edge.proofs.keys.slot_back.Goals as goal

pub returns-in-Some : goal.returns-in-Some
returns-in-Some c = c.slot_among.ensures ∙ ap (λ b. slot_among (Some c.in-Some.ways.now) (not b)) c.is_back.ensures
    ∙ found_beside _ c.args.edge (Some c.in-Some.ways.now) (rw c.of.ensures at c.in-Some.ensures.value)

pub returns-in-None : goal.returns-in-None
returns-in-None c = found_beside _ c.args.edge None (rw c.of.ensures at c.in-None.ensures.value)
