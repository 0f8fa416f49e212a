use Rattle.map_core.proofs.Counting.{counted}
use Rattle.map_rows.proofs.messages.message_of.Goals as goal

pub returns-in-Ok : goal.returns-in-Ok
returns-in-Ok c
    = counted c.standard-limits.result c.args.text.now c.in-Ok.message c.standard-limits.ensures.valid c.in-Ok.ensures.printable
    (c.in-Ok.ensures.reads (λ e. cc))
