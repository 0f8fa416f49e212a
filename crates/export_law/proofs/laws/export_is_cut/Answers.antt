use Rattle.export_law.proofs.Cutting.{export_cut}
use Rattle.export_law.proofs.laws.export_is_cut.Goals as goal

pub returns : goal.returns
returns c = export_cut
