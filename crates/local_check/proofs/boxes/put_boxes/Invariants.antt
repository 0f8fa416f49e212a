use Rattle.std.proofs.Common.{◌≡◌, ◌+◌, ◌<◌, ℕ, get_or}
use Rattle.std.specs.FinMap as map
use Rattle.level_rules.specs.declared.item.LevelItem.{LevelItem}
use Rattle.local_check.specs.Kept.{HasBox}
use Rattle.local_check.proofs.boxes.put_boxes.Given as goal

abbrev pub invariant-loop-i : goal.invariant-loop-i
invariant-loop-i l = record {
  here : (k : ℕ) (d : LevelItem) → k < l.i → HasBox l.boxes (l.from + k) (get_or l.parts k d);
  before : (q : ℕ) → q < l.from → map.get l.boxes q ≡ map.get l.initial.boxes q;
}
