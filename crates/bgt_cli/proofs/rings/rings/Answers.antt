use Rattle.bgt_cli.proofs.Quiet.{none_yet}
use Rattle.bgt_cli.proofs.RingsTold.{not_begun, not_begun_taken, stopped, stopped_listed, stopped_taken, stopped_without_file}
use Rattle.bgt_cli.proofs.rings.rings.Goals as goal

-- no room for a piece
pub returns-in_default-clause-rings : goal.returns-in_default-clause-rings
returns-in_default-clause-rings g c = λ input e. not_begun c.args.limits.now input (g.O.Outside.shown c.args.outside.now)

pub returns-in_default-clause-taken : goal.returns-in_default-clause-taken
returns-in_default-clause-taken g c = not_begun_taken c.args.limits.now.input_bytes (g.O.Outside.shown c.args.outside.now)

pub returns-in_default-clause-nothing_new : goal.returns-in_default-clause-nothing_new
returns-in_default-clause-nothing_new g c =
    none_yet g.O.Outside.leaves g.O.Outside.clock g.O.Outside.left (g.O.Outside.shown c.args.outside.now).told c.args.outside.now
    (λ told image was. g.met.O.Outside.only_now c.args.outside.now told image was)

-- the end of the input was not met
pub returns-in-Err-clause-rings : goal.returns-in-Err-clause-rings
returns-in-Err-clause-rings g c =
    stopped c.args.limits.now c.in-Err.status (g.O.Outside.shown c.args.outside.now) (g.O.Outside.shown c.take_all.new.outside)
    c.in-Err.ensures.stopped

pub returns-in-Err-clause-taken : goal.returns-in-Err-clause-taken
returns-in-Err-clause-taken g c =
    stopped_taken c.args.limits.now c.in-Err.status (g.O.Outside.shown c.args.outside.now) (g.O.Outside.shown c.take_all.new.outside)
    c.in-Err.ensures.stopped

pub returns-in-Err-clause-listed : goal.returns-in-Err-clause-listed
returns-in-Err-clause-listed g c =
    stopped_listed c.args.limits.now c.in-Err.status (g.O.Outside.shown c.args.outside.now) (g.O.Outside.shown c.take_all.new.outside)
    c.in-Err.ensures.stopped

pub returns-in-Err-clause-no_file : goal.returns-in-Err-clause-no_file
returns-in-Err-clause-no_file g c =
    stopped_without_file c.args.limits.now c.in-Err.status (g.O.Outside.shown c.args.outside.now) (g.O.Outside.shown c.take_all.new.outside)
    c.in-Err.ensures.stopped
