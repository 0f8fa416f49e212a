use Rattle.map_core.proofs.Holding.{given_up, is_tried}
use Rattle.map_core.specs.Tried.{next_state, state_of}
use Rattle.map_core.proofs.held.Held.give_up.Goals as goal

pub give_up_map-requires : goal.give_up_map-requires
give_up_map-requires c = rw c.roll_back.ensures.maps
    (is_tried (state_of c.args.self.now) (next_state c.args.self.now c.args.tried.now) c.args.self.now.maps c.args.tried.now.header.holder
    c.requires)

pub returns-clause-maps : goal.returns-clause-maps
returns-clause-maps c = given_up (state_of c.args.self.now) (next_state c.args.self.now c.args.tried.now) c.args.self.now.maps
    c.give_up_map.new.maps c.args.tried.now.header.holder
    c.requires (rw c.roll_back.ensures.maps at c.give_up_map.ensures)
