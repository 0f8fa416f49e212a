use Rattle.std.proofs.Common.{◌≡◌, ◌∙◌, ◌≤◌, ap, arith, length, length-append, length-take}
use Rattle.bgt_cli.proofs.Quiet.{none_yet, quiet_on, while_reading}
use Rattle.bgt_cli.proofs.Telling.{at_its_end, ends_long, fed, unfed}
use Rattle.bgt_cli.proofs.explain_texts.explain_pieces.Goals as goal

pub loop-left-init : goal.loop-left-init
loop-left-init g c = record {
  ready = c.requires.ready;
  few = omega (arith, c.requires.empty);
  none = c.requires.none;
  under_way = λ start first u. u;
  quiet
      = none_yet g.O.Outside.leaves g.O.Outside.clock g.O.Outside.left (g.O.Outside.shown c.args.outside.now).told c.args.outside.now
      (g.met.O.Outside.only_now c.args.outside.now);
  counts = record { reads = omega arith; writes = omega arith; disks = omega arith };
}

pub returns-in-Err-clause-ended : goal.returns-in-Err-clause-ended
returns-in-Err-clause-ended g c = λ start first u.
    unfed c.args.limits.now start first c.loop-left.left c.loop-left.session c.loop-left.core.state (g.O.Outside.shown c.loop-left.outside)
    (c.loop-left.invariant.under_way start first u) c.loop-left.invariant.none
    _ (g.O.Outside.shown c.take_piece.new.outside) c.in-Err.status c.in-Err.ensures.failed
    (omega (arith, length-take c.min-most.result c.loop-left.piece, c.min-most.ensures))

pub returns-then-n-eq0-clause-whole : goal.returns-then-n-eq0-clause-whole
returns-then-n-eq0-clause-whole g c = λ start first u.
    at_its_end c.args.limits.now start first c.loop-left.left c.loop-left.session c.loop-left.core.state
    (g.O.Outside.shown c.loop-left.outside) (c.loop-left.invariant.under_way start first u) c.loop-left.invariant.none
    c.in-Ok.n c.take_piece.new.session (g.O.Outside.shown c.take_piece.new.outside) (omega arith) c.if-n-eq0.true c.in-Ok.ensures.fed
    (c.in-Ok.ensures.at_end c.if-n-eq0.true)

pub explain_texts-requires-clause-ready : goal.explain_texts-requires-clause-ready
explain_texts-requires-clause-ready g c =
    let fed = c.in-Ok.ensures.fed in
    let was = c.loop-left.invariant in
    let n = c.in-Ok.n in
    let within : n ≤ c.loop-left.left
    = omega (arith, length-take c.min-most.result c.loop-left.piece, c.min-most.ensures, c.in-Ok.ensures.bound) in
    record {
      untried = was.ready.untried;
      core_limits = was.ready.core_limits;
      feed_limit = fed.3.limit ∙ was.ready.feed_limit;
      accepted = omega (arith, was.ready.accepted, fed.3.answered);
      few = omega (arith, was.few, within, fed.1, fed.3.answered, ap length fed.3.left, length-append c.loop-left.session.feed.left fed.0);
    }

pub returns-in-Err-explain_texts-clause-ended : goal.returns-in-Err-explain_texts-clause-ended
returns-in-Err-explain_texts-clause-ended g c = λ start first u.
    let n = c.in-Ok.n in
    let within : n ≤ c.loop-left.left
    = omega (arith, length-take c.min-most.result c.loop-left.piece, c.min-most.ensures, c.in-Ok.ensures.bound) in
    c.in-Err-explain_texts.ensures.ended start first _
    (fed c.args.limits.now start first c.loop-left.left c.loop-left.session c.loop-left.core.state
    (g.O.Outside.shown c.loop-left.outside) (c.loop-left.invariant.under_way start first u) c.loop-left.invariant.none
    n c.take_piece.new.session (g.O.Outside.shown c.take_piece.new.outside) within c.in-Ok.ensures.fed)

pub loop-left-preserved : goal.loop-left-preserved
loop-left-preserved g c =
    let was = c.loop-left.invariant in
    let piece = c.in-Ok.ensures.fed in
    let n = c.in-Ok.n in
    let within : n ≤ c.loop-left.left
    = omega (arith, length-take c.min-most.result c.loop-left.piece, c.min-most.ensures, c.in-Ok.ensures.bound) in
    let done = c.in_default.ensures in
    let taking = while_reading g.O.Outside.leaves g.O.Outside.clock g.O.Outside.left (g.O.Outside.shown c.loop-left.outside).told
    c.loop-left.outside c.take_piece.new.outside c.take_piece.ensures.images c.take_piece.ensures.moments in
    record {
      ready = done.ready;
      few = omega (
        arith,
        was.few,
        within,
        piece.1,
        done.few,
        piece.3.answered,
        ap length piece.3.left,
        length-append c.loop-left.session.feed.left piece.0,
      );
      none = done.none;
      under_way = λ start first u. done.under_way start first _
          (fed c.args.limits.now start first c.loop-left.left c.loop-left.session c.loop-left.core.state
          (g.O.Outside.shown c.loop-left.outside) (was.under_way start first u) was.none n c.take_piece.new.session
          (g.O.Outside.shown c.take_piece.new.outside) within piece);
      quiet
          = quiet_on g.O.Outside.leaves g.O.Outside.clock g.O.Outside.left c.args.outside.now c.take_piece.new.outside
          c.explain_texts.new.outside
          (quiet_on g.O.Outside.leaves g.O.Outside.clock g.O.Outside.left c.args.outside.now c.loop-left.outside c.take_piece.new.outside
          was.quiet taking) c.explain_texts.ensures.nothing_new;
      counts = record {
        reads = omega (arith, was.counts.reads, c.in-Ok.ensures.counts.reads, done.counts.reads);
        writes = omega (arith, was.counts.writes, c.in-Ok.ensures.counts.writes, done.counts.writes);
        disks = omega (arith, was.counts.disks, c.in-Ok.ensures.counts.disks, done.counts.disks);
      };
    }

pub returns-clause-ended : goal.returns-clause-ended
returns-clause-ended g c = λ start first u.
    let none : c.loop-left.left ≡ 0 = omega arith in
    ends_long c.args.limits.now start first c.loop-left.left c.loop-left.session c.loop-left.core.state
    (g.O.Outside.shown c.loop-left.outside) (c.loop-left.invariant.under_way start first u) c.loop-left.invariant.none none
