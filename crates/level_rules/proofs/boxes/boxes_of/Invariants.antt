use Rattle.level_rules.specs.Levels.{HasBoxes}
use Rattle.level_rules.proofs.boxes.boxes_of.Given as goal

abbrev pub invariant-loop-i : goal.invariant-loop-i
invariant-loop-i l = HasBoxes l.items l.index l.i
