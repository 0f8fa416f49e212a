use Rattle.export_law.proofs.Loading.{kept_loads_back as loads}
use Rattle.export_law.proofs.laws.kept_loads_back.Goals as goal

pub returns : goal.returns
returns c = loads
