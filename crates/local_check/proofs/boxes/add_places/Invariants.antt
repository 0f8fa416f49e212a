use Rattle.std.proofs.Common.{◌<◌, ℕ, get_or}
use Rattle.std.specs.List.{Contains}
use Rattle.local_check.proofs.boxes.add_places.Given as goal

abbrev pub invariant-loop-place : goal.invariant-loop-place
invariant-loop-place l = record {
  here : (k : ℕ) (d : ℕ) → k < l.place-index → Contains l.near.keys (get_or l.places k d);
  kept : (q : ℕ) → Contains l.initial.near.keys q → Contains l.near.keys q;
}
