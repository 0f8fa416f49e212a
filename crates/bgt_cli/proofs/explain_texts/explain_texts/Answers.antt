use Rattle.std.proofs.Common.{arith, ap, Bool, ℕ}
use Rattle.std.specs.Bool.{if◌then◌else◌}
use Rattle.bgt_cli.proofs.Quiet.{none_yet, quiet_on}
use Rattle.bgt_cli.proofs.explain_texts.explain_texts.Goals as goal

pub loop-more-smaller : goal.loop-more-smaller
loop-more-smaller g c = omega (arith, c.in-Ok.ensures.fewer, ap {B = ℕ} (λ (b : Bool). if b then 1 else 0) c.loop-more-test.true)

pub loop-more-init : goal.loop-more-init
loop-more-init g c = record {
  ready = c.requires.ready;
  few = omega arith;
  none = tt;
  under_way = λ start first may u. u;
  quiet
      = none_yet g.O.Outside.leaves g.O.Outside.clock g.O.Outside.left (g.O.Outside.shown c.args.outside.now).told c.args.outside.now
      (g.met.O.Outside.only_now c.args.outside.now);
  counts = record { reads = omega arith; writes = omega arith; disks = omega arith };
}

pub loop-more-preserved : goal.loop-more-preserved
loop-more-preserved g c =
    let before = c.loop-more.invariant in
    let done = c.in-Ok.ensures in
    record {
      ready = done.ready;
      few = omega (arith, done.few, before.few);
      none = done.none;
      under_way = λ start first may u. done.under_way start first may (before.under_way start first may u);
      quiet
          = quiet_on g.O.Outside.leaves g.O.Outside.clock g.O.Outside.left c.args.outside.now c.loop-more.outside c.explain_next.new.outside
          before.quiet c.explain_next.ensures.nothing_new;
      counts = record {
        reads = omega (arith, done.counts.reads, before.counts.reads);
        writes = omega (arith, done.counts.writes, before.counts.writes);
        disks = omega (arith, done.counts.disks, before.counts.disks);
      };
    }

pub returns-in-Err-clause-ended : goal.returns-in-Err-clause-ended
returns-in-Err-clause-ended g c
    = λ start first may u. c.in-Err.ensures.ended start first may (c.loop-more.invariant.under_way start first may u)

pub returns-in-Err-clause-nothing_new : goal.returns-in-Err-clause-nothing_new
returns-in-Err-clause-nothing_new g c =
    quiet_on g.O.Outside.leaves g.O.Outside.clock g.O.Outside.left c.args.outside.now c.loop-more.outside c.explain_next.new.outside
    c.loop-more.invariant.quiet c.explain_next.ensures.nothing_new
