use Rattle.map_rules.proofs.Checked.{refused, taken}
use Rattle.map_rules.proofs.laws.checked_is_ruled.Goals as goal

pub returns-clause-taken : goal.returns-clause-taken
returns-clause-taken c = taken c.cancel_implies_tiled.ensures

pub returns-clause-refused : goal.returns-clause-refused
returns-clause-refused c = refused c.tiled_implies_cancel.ensures
