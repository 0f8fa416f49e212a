use Rattle.std.proofs.Common.{ℕ}
use Rattle.std.specs.List.{Contains}
use Rattle.box_index.specs.declared.grid.Filed.{Filed}
use Rattle.box_index.proofs.Filed.{AreSought}
use Rattle.box_index.proofs.grid.add_column.Given as goal

abbrev pub invariant-loop-place : goal.invariant-loop-place
invariant-loop-place l = record {
  sought : AreSought (λ (p : Filed). p.slot) l.bounds l.initial.place-iterator l.place-iterator l.slots.keys;
  kept : (s : ℕ) → Contains l.initial.slots.keys s → Contains l.slots.keys s;
}
