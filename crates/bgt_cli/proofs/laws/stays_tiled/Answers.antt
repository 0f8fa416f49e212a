use Rattle.map_rules.specs.State.{opening}
use Rattle.bgt_cli.specs.Stream.{Goes, GoesWithDisk}
use Rattle.bgt_cli.proofs.Headlines.{by_check, by_load, held_good}
use Rattle.bgt_cli.proofs.laws.stays_tiled.Goals as goal

pub returns-clause-check : goal.returns-clause-check
returns-clause-check c = λ limits input told n ends old new within g e.
    by_check limits (c.run_stays_tiled.ensures limits) input n within (λ k t. Goes k t old new) c.opening_is_good.ensures told ends g e

pub returns-clause-load : goal.returns-clause-load
returns-clause-load c = λ limits file first kept state input told n gate ends old new stands within g e.
    by_load limits (c.run_stays_tiled.ensures limits) input n within (λ k t. GoesWithDisk k t old new) state
    (held_good c.step_is_good.ensures limits opening stands.payloads first state c.opening_is_good.ensures stands.holds) told kept gate ends
    g e
