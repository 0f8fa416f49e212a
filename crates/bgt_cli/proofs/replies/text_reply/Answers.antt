use Rattle.map_core.proofs.Counting.{counted}
use Rattle.bgt_cli.proofs.replies.text_reply.Goals as goal

pub message_reply-requires-clause-counted : goal.message_reply-requires-clause-counted
message_reply-requires-clause-counted c
    = counted c.args.limits.now c.args.text.now c.in-Ok.message c.requires.valid c.in-Ok.ensures.printable (c.in-Ok.ensures.reads (λ e. cc))
