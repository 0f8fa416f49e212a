use Rattle.std.proofs.Common.{◌≡◌, ◌+◌, length}
use Rattle.outside.specs.Outside.{NoneFell}
use Rattle.bgt_cli.specs.Query.{LeavesNothingNew}
use Rattle.bgt_cli.specs.Stops.{TakesPiece}
use Rattle.bgt_cli.proofs.taking.take_all.Given as goal

abbrev pub invariant-loop-left : goal.invariant-loop-left
invariant-loop-left g l = record {
  taken : TakesPiece l.input.items (g.O.Outside.shown l.initial.outside) (g.O.Outside.shown l.outside);
  size : length l.input.items + l.left ≡ l.limits.input_bytes;
  quiet : LeavesNothingNew g.O.Outside.leaves g.O.Outside.clock g.O.Outside.left l.initial.outside l.outside;
  counts : NoneFell (g.O.Outside.faults l.initial.outside) (g.O.Outside.faults l.outside);
}

abbrev pub decreases-loop-left : goal.decreases-loop-left
decreases-loop-left g l = l.left
