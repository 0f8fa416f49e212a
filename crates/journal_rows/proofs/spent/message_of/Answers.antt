use Rattle.map_core.proofs.Counting.{unpassed}
use Rattle.journal_rows.proofs.spent.message_of.Goals as goal

pub returns-in-Ok-clause-limits : goal.returns-in-Ok-clause-limits
returns-in-Ok-clause-limits c = unpassed c.args.limits.now c.args.text.now c.in-Ok.message (c.in-Ok.ensures.reads (λ e. cc))
