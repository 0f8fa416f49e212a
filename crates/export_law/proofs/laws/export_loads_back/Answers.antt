use Rattle.export_law.proofs.Loading.{loads_back}
use Rattle.export_law.proofs.laws.export_loads_back.Goals as goal

pub returns : goal.returns
returns c = loads_back
