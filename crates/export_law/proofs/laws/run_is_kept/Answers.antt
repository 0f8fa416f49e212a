use Rattle.export_law.proofs.Keeping.{reached_kept}
use Rattle.export_law.proofs.laws.run_is_kept.Goals as goal

pub returns : goal.returns
returns c = reached_kept
