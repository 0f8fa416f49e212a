use Rattle.std.proofs.Common.{◌≤◌, length}
use Rattle.std.specs.Prelude.{None}
use Rattle.rd_plane.specs.Improving.{Improves}
use Rattle.level_rules.specs.Levels.{HasBoxes, pair_cmp}
use Rattle.level_rules.proofs.Searched.{PairsBefore}
use Rattle.level_rules.proofs.fault.level_fault.Given as goal

abbrev pub invariant-loop-i : goal.invariant-loop-i
invariant-loop-i l = record {
  best : Improves pair_cmp (PairsBefore l.items l.mates l.index l.gone.keys l.i) None l.least;
  own : HasBoxes l.items l.own
      l.i;
  inside : l.i ≤ length l.items;
}
