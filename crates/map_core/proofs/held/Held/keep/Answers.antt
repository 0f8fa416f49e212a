use Rattle.map_core.proofs.Holding.{kept}
use Rattle.map_core.specs.Tried.{next_state, state_of}
use Rattle.map_core.proofs.held.Held.keep.Goals as goal

pub returns-clause-maps : goal.returns-clause-maps
returns-clause-maps c = kept (state_of c.args.self.now) (next_state c.args.self.now c.args.tried) c.args.self.now.maps c.keep_map.new.maps
    c.args.tried.header.holder
    c.requires.maps c.keep_map.ensures
