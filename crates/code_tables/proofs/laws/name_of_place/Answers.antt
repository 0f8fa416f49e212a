use Rattle.code_tables.proofs.Places.{stands}
use Rattle.code_tables.proofs.laws.name_of_place.Goals as goal

pub returns : goal.returns
returns c = stands
