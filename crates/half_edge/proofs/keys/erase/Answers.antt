use Rattle.std.proofs.Common.{Some, None, ap, sym, ◌∙◌}
use Rattle.half_edge.specs.KeyMap.{slot_among}
use Rattle.half_edge.proofs.KeyWays.{found_here, found_beside, written, written_none}
use Rattle.half_edge.proofs.keys.erase.Goals as goal

pub returns-in_err-ways-clause-slot : goal.returns-in_err-ways-clause-slot
returns-in_err-ways-clause-slot c = c.from_residual.ensures
    ∙ found_here _ c.args.edge None (rw c.of-key.ensures at (sym c.in_err-ways.was ∙ c.copied.ensures ∙ c.get.ensures.value))

pub returns-in_err-ways-clause-now : goal.returns-in_err-ways-clause-now
returns-in_err-ways-clause-now c = written_none _ c.args.edge (sym (found_here _ c.args.edge None
    (rw c.of-key.ensures at (sym c.in_err-ways.was ∙ c.copied.ensures ∙ c.get.ensures.value))))

pub returns-clause-slot : goal.returns-clause-slot
returns-clause-slot c =
    let found = rw c.of-key.ensures at (sym c.in_ok-ways.was ∙ c.copied.ensures ∙ c.get.ensures.value) in
    c.slot_among.ensures ∙ ap (slot_among (Some c.in_ok-ways.ways)) c.is_back-back.ensures
    ∙ found_here _ c.args.edge (Some c.in_ok-ways.ways) found

pub returns-clause-now : goal.returns-clause-now
returns-clause-now c =
    let found = rw c.of-key.ensures at (sym c.in_ok-ways.was ∙ c.copied.ensures ∙ c.get.ensures.value) in
    written _ _ c.args.edge None c.without.result (rw c.of-key.ensures at c.overwrite.ensures.now)
    (rw c.is_back-back.ensures at c.without.ensures.gone)
    ((rw c.is_back-back.ensures at c.without.ensures.other) ∙ found_beside _ c.args.edge (Some c.in_ok-ways.ways) found)
