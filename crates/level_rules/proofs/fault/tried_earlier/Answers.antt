use Rattle.std.proofs.Common.{arith, sym}
use Rattle.level_rules.proofs.Searched.{earlier}
use Rattle.level_rules.proofs.Spoken.{boxes_index}
use Rattle.level_rules.proofs.fault.tried_earlier.Goals as goal

pub tried_mates-requires : goal.tried_mates-requires
tried_mates-requires c = boxes_index c.args.items.now c.args.own.now c.args.i (omega (arith, c.requires.inside)) c.requires.own

pub returns-clause-least : goal.returns-clause-least
returns-clause-least c
    = earlier c.args.items.now c.args.own.now c.new-none.result.keys c.args.i c.index-items-i.result c.args.least c.in_ok-found.found
    c.requires.inside (sym c.index-items-i.is) c.requires.own c.new-none.ensures.empty c.in_ok-found.ensures
