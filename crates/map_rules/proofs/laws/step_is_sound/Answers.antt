use Rattle.map_rules.proofs.Items.{sound_after, sound_opening}
use Rattle.map_rules.proofs.laws.step_is_sound.Goals as goal

pub returns-clause-opening : goal.returns-clause-opening
returns-clause-opening c = sound_opening

pub returns-clause-step : goal.returns-clause-step
returns-clause-step c = sound_after
