use Rattle.export_law.proofs.Keeping.{kept_after, kept_opening}
use Rattle.export_law.proofs.laws.step_is_kept.Goals as goal

pub returns-clause-opening : goal.returns-clause-opening
returns-clause-opening c = kept_opening

pub returns-clause-step : goal.returns-clause-step
returns-clause-step c = kept_after
