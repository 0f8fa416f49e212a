use Rattle.map_rules.proofs.Stepping.{map_sound}
use Rattle.map_rules.proofs.laws.ruled_map_is_sound.Goals as goal

pub returns : goal.returns
returns c = map_sound
