use Rattle.std.proofs.Common.{◌<◌, ℕ, get_or}
use Rattle.level_rules.specs.declared.item.LevelItem.{LevelItem}
use Rattle.level_rules.specs.Levels.{IsLevelled}
use Rattle.local_check.specs.Kept.{FindsNear}
use Rattle.local_check.proofs.boxes.near_levelled.Given as goal

abbrev pub invariant-loop-part : goal.invariant-loop-part
invariant-loop-part l = (k : ℕ) (d : LevelItem) → k < l.part-index → IsLevelled (get_or l.parts k d)
    → FindsNear l.boxes l.near.keys (get_or l.parts k d).shape
