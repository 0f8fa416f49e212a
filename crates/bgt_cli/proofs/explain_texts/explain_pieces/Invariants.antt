use Rattle.std.proofs.Common.{◌≤◌, ◌+◌, length}
use Rattle.outside.specs.Outside.{NoneFell, Shown}
use Rattle.line_feed.specs.Texts.{HasNoText}
use Rattle.map_rules.specs.State.{State}
use Rattle.bgt_cli.specs.Query.{LeavesNothingNew}
use Rattle.bgt_cli.specs.Trying.{IsReady, UnderWay}
use Rattle.bgt_cli.proofs.explain_texts.explain_pieces.Given as goal

abbrev pub invariant-loop-left : goal.invariant-loop-left
invariant-loop-left g l = record {
  ready : IsReady l.limits l.session l.core;
  few : l.session.answered + length l.session.feed.left + l.left ≤ l.limits.input_bytes;
  none : HasNoText l.session.feed.left (length l.session.feed.left);
  under_way : (start : State) (first : Shown)
      → UnderWay l.limits start first l.limits.input_bytes l.initial.session l.initial.core.state (g.O.Outside.shown l.initial.outside)
      → UnderWay l.limits start first l.left l.session l.core.state (g.O.Outside.shown l.outside);
  quiet : LeavesNothingNew g.O.Outside.leaves g.O.Outside.clock g.O.Outside.left l.initial.outside l.outside;
  counts : NoneFell (g.O.Outside.faults l.initial.outside) (g.O.Outside.faults l.outside);
}

abbrev pub decreases-loop-left : goal.decreases-loop-left
decreases-loop-left g l = l.left
