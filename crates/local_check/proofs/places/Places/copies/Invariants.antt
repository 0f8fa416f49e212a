use Rattle.std.proofs.Common.{◌≡◌, ℕ}
use Rattle.std.specs.Prelude.{◌⊎◌, Some}
use Rattle.std.specs.List.{Contains}
use Rattle.level_rules.specs.declared.item.LevelItem.{LevelItem}
use Rattle.local_check.specs.Placed.{at_place, present}
use Rattle.local_check.proofs.places.Places.copies.Given as goal

abbrev pub invariant-loop-place : goal.invariant-loop-place
invariant-loop-place l = record {
  those : (p : LevelItem) → Contains l.list p → Contains (present l.self.slots.items) p;
  all : (k : ℕ) (p : LevelItem) → Contains l.initial.place-iterator k → at_place l.self.slots.items k ≡ Some p
      → Contains l.list p ⊎ Contains l.place-iterator k;
}
