use Rattle.std.proofs.Common.{◌≡◌, ◌<◌, ℕ, true, get_or}
use Rattle.std.specs.List.{Contains}
use Rattle.level_rules.specs.declared.item.LevelItem.{LevelItem}
use Rattle.local_check.specs.Kept.{FindsNear}
use Rattle.local_check.specs.Maps.{is_ground}
use Rattle.local_check.proofs.near.add_near_ground.Given as goal

abbrev pub invariant-loop-part : goal.invariant-loop-part
invariant-loop-part l = record {
  here : (k : ℕ) (d : LevelItem) → k < l.part-index → is_ground (get_or l.parts k d) ≡ true
      → FindsNear l.boxes l.near.keys (get_or l.parts k d).shape;
  kept : (q : ℕ) → Contains l.initial.near.keys q → Contains l.near.keys q;
}
