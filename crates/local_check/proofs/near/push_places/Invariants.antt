use Rattle.std.proofs.Common.{ℕ}
use Rattle.std.specs.Prelude.{◌⊎◌}
use Rattle.std.specs.List.{Contains}
use Rattle.rd_plane.specs.Plane.{Segment}
use Rattle.rd_plane.specs.Shapes.{all_edges}
use Rattle.local_check.specs.Maps.{ground_of, staying}
use Rattle.local_check.specs.Nearby.{own_at}
use Rattle.local_check.specs.Placed.{present}
use Rattle.local_check.proofs.near.push_places.Given as goal

abbrev pub invariant-loop-place : goal.invariant-loop-place
invariant-loop-place l = record {
  kept : (e : Segment) → Contains l.initial.edges e → Contains l.edges e;
  here : (k : ℕ) (e : Segment) → Contains l.initial.place-iterator k → Contains (own_at l.leaving l.slots k) e
      → Contains l.edges e ⊎ Contains l.place-iterator k;
  those : (e : Segment) → Contains l.edges e
      → Contains l.initial.edges e ⊎ Contains (all_edges (ground_of (staying l.leaving (present l.slots)))) e;
}
