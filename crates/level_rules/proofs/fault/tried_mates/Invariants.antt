use Rattle.std.proofs.Common.{◌≤◌, length}
use Rattle.rd_plane.specs.Improving.{Improves}
use Rattle.level_rules.specs.Levels.{pair_cmp}
use Rattle.level_rules.proofs.Searched.{PairsNear}
use Rattle.level_rules.proofs.fault.tried_mates.Given as goal

abbrev pub invariant-loop-slot : goal.invariant-loop-slot
invariant-loop-slot l = record {
  best : Improves pair_cmp (PairsNear l.item l.mates l.slot-items l.leaving.keys l.slot-index) l.fn.least l.found;
  inside :
      l.slot-index ≤ length l.slot-items;
}
