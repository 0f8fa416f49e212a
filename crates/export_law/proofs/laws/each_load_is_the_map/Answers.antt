use Rattle.export_law.proofs.Loading.{each_load}
use Rattle.export_law.proofs.laws.each_load_is_the_map.Goals as goal

pub returns : goal.returns
returns c = each_load c.one_run.ensures
