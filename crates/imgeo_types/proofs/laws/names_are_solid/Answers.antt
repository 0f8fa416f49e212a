use Rattle.imgeo_types.proofs.Words.{solid_word}
use Rattle.imgeo_types.proofs.laws.names_are_solid.Goals as goal

pub returns-clause-kind : goal.returns-clause-kind
returns-clause-kind c = solid_word
