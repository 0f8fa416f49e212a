use Rattle.bgt_cli.proofs.Quiet.{none_yet, while_telling}
use Rattle.bgt_cli.proofs.trial.trial.Goals as goal

pub returns-in_default-clause-nothing_new : goal.returns-in_default-clause-nothing_new
returns-in_default-clause-nothing_new g c =
    none_yet g.O.Outside.leaves g.O.Outside.clock g.O.Outside.left (g.O.Outside.shown c.args.outside.now).told c.args.outside.now
    (λ told image was. g.met.O.Outside.only_now c.args.outside.now told image was)

pub returns-in-Ok-tell-clause-nothing_new : goal.returns-in-Ok-tell-clause-nothing_new
returns-in-Ok-tell-clause-nothing_new g c =
    while_telling g.O.Outside.leaves g.O.Outside.clock g.O.Outside.left (g.O.Outside.shown c.args.outside.now).told c.as_bytes.result.now _
    c.args.outside.now c.tell.new.outside c.tell.ensures.images c.tell.ensures.moments

pub returns-clause-nothing_new : goal.returns-clause-nothing_new
returns-clause-nothing_new g c =
    while_telling g.O.Outside.leaves g.O.Outside.clock g.O.Outside.left (g.O.Outside.shown c.args.outside.now).told c.as_bytes.result.now _
    c.args.outside.now c.tell.new.outside c.tell.ensures.images c.tell.ensures.moments
