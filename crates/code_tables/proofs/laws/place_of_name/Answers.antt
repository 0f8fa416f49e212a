use Rattle.code_tables.proofs.Rising.{same_place}
use Rattle.code_tables.proofs.laws.place_of_name.Goals as goal

pub returns : goal.returns
returns c = same_place
