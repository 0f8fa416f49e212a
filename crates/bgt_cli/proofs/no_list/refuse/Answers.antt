use Rattle.bgt_cli.proofs.Quiet.{while_telling}
use Rattle.bgt_cli.proofs.no_list.refuse.Goals as goal

pub returns-in-Ok-clause-nothing_new : goal.returns-in-Ok-clause-nothing_new
returns-in-Ok-clause-nothing_new g c =
    while_telling g.O.Outside.leaves g.O.Outside.clock g.O.Outside.left (g.O.Outside.shown c.args.outside.now).told c.args.line.now _
    c.args.outside.now c.tell.new.outside c.tell.ensures.images c.tell.ensures.moments

pub returns-in-Err-clause-nothing_new : goal.returns-in-Err-clause-nothing_new
returns-in-Err-clause-nothing_new g c =
    while_telling g.O.Outside.leaves g.O.Outside.clock g.O.Outside.left (g.O.Outside.shown c.args.outside.now).told c.args.line.now _
    c.args.outside.now c.tell.new.outside c.tell.ensures.images c.tell.ensures.moments
