use Rattle.std.proofs.Common.{sym, ◌∙◌}
use Rattle.message_text.proofs.OuterLemmas.{ring_of_line}
use Rattle.message_text.proofs.outer_line.read_ring.Goals as goal

pub returns : goal.returns
returns c =
    ring_of_line c.args.line.now c.in-Some.body.now c.in-Some-2.token c.ring_of.result c.in-Some.ensures
    (rw c.in-Some-2.is at c.in_ok-token.ensures)
    (sym c.is_arc.ensures ∙ c.if-is_arc.false) c.ring_of.ensures
