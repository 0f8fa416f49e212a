use Rattle.std.proofs.Common.{Some, None, ap, not, sym, ◌∙◌}
use Rattle.half_edge.specs.KeyMap.{slot_among}
use Rattle.half_edge.proofs.KeyWays.{beside, found_here, found_beside}
use Rattle.half_edge.proofs.keys.Keys.both.Goals as goal

pub returns-in-Some-clause-here : goal.returns-in-Some-clause-here
returns-in-Some-clause-here g c = rw (← c.self.view_is) (c.slot_among.ensures
    ∙ ap (slot_among (Some c.in-Some.ways.now)) c.is_back-back.ensures
    ∙ found_here _ c.args.edge (Some c.in-Some.ways.now) (rw c.of.ensures at c.in-Some.ensures.value))

pub returns-in-Some-clause-back : goal.returns-in-Some-clause-back
returns-in-Some-clause-back g c = rw (← c.self.view_is) (c.slot_among-in-Some.ensures
    ∙ ap (λ b. slot_among (Some c.in-Some.ways.now) (not b)) c.is_back-back.ensures
    ∙ found_beside _ c.args.edge (Some c.in-Some.ways.now) (rw c.of.ensures at c.in-Some.ensures.value)
    ∙ sym (beside _ c.args.edge c.requires.ends))

pub returns-in-None-clause-here : goal.returns-in-None-clause-here
returns-in-None-clause-here g c
    = rw (← c.self.view_is) (found_here _ c.args.edge None (rw c.of.ensures at c.in-None.ensures.value))

pub returns-in-None-clause-back : goal.returns-in-None-clause-back
returns-in-None-clause-back g c = rw (← c.self.view_is) (found_beside _ c.args.edge None (rw c.of.ensures at c.in-None.ensures.value)
    ∙ sym (beside _ c.args.edge c.requires.ends))
