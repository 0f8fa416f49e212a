use Rattle.bgt_cli.proofs.Quiet.{none_yet}
use Rattle.bgt_cli.proofs.no_list.refuse_gate.Goals as goal

pub returns-in_default-clause-nothing_new : goal.returns-in_default-clause-nothing_new
returns-in_default-clause-nothing_new g c =
    none_yet g.O.Outside.leaves g.O.Outside.clock g.O.Outside.left (g.O.Outside.shown c.args.outside.now).told c.args.outside.now
    (λ told image was. g.met.O.Outside.only_now c.args.outside.now told image was)
