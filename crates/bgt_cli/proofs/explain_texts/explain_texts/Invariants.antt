use Rattle.std.proofs.Common.{ℕ, ◌≤◌, ◌+◌, length}
use Rattle.std.specs.Bool.{OnFalse, if◌then◌else◌}
use Rattle.outside.specs.Outside.{NoneFell, Shown}
use Rattle.line_feed.specs.Texts.{HasNoText}
use Rattle.map_rules.specs.State.{State}
use Rattle.bgt_cli.specs.Query.{LeavesNothingNew}
use Rattle.bgt_cli.specs.Trying.{IsReady, UnderWay}
use Rattle.bgt_cli.proofs.explain_texts.explain_texts.Given as goal

abbrev pub invariant-loop-more : goal.invariant-loop-more
invariant-loop-more g l = record {
  ready : IsReady l.limits l.session l.core;
  few : l.session.answered + length l.session.feed.left ≤ l.initial.session.answered + length l.initial.session.feed.left;
  none : OnFalse l.more (HasNoText l.session.feed.left (length l.session.feed.left));
  under_way : (start : State) (first : Shown) (may : ℕ)
      → UnderWay l.limits start first may l.initial.session l.initial.core.state (g.O.Outside.shown l.initial.outside)
      → UnderWay l.limits start first may l.session l.core.state (g.O.Outside.shown l.outside);
  quiet : LeavesNothingNew g.O.Outside.leaves g.O.Outside.clock g.O.Outside.left l.initial.outside l.outside;
  counts : NoneFell (g.O.Outside.faults l.initial.outside) (g.O.Outside.faults l.outside);
}

abbrev pub decreases-loop-more : goal.decreases-loop-more
decreases-loop-more g l = length l.session.feed.left + (if l.more then 1 else 0)
