use Rattle.std.proofs.Common.{◌≡◌, ◌+◌, ℕ, List, length, sym, ap, subst, arith, length-take}
use Rattle.bgt_cli.specs.Stops.{TakesPiece}
use Rattle.bgt_cli.specs.Taking.{TakesMore}
use Rattle.bgt_cli.proofs.Quiet.{none_yet, quiet_on, while_reading}
use Rattle.bgt_cli.proofs.Taken.{all_taken, fails, long_taken, more_length, more_taken, none_taken}
use Rattle.bgt_cli.proofs.taking.take_all.Goals as goal

pub loop-left-init : goal.loop-left-init
loop-left-init g c =
    let before = g.O.Outside.shown c.args.outside.now in
    record {
      taken = subst (λ (l : List ℕ). TakesPiece l before before) (sym c.requires.empty) (none_taken before);
      size = omega (arith, ap length c.requires.empty);
      quiet = none_yet g.O.Outside.leaves g.O.Outside.clock g.O.Outside.left before.told c.args.outside.now
          (λ told image was. g.met.O.Outside.only_now c.args.outside.now told image was);
      counts = record { reads = omega arith; writes = omega arith; disks = omega arith };
    }

pub returns-in-Err-clause-stopped : goal.returns-in-Err-clause-stopped
returns-in-Err-clause-stopped g c =
    let i = c.loop-left.invariant in
    fails c.args.limits.now _ c.loop-left.input.items c.loop-left.left (g.O.Outside.shown c.args.outside.now)
    (g.O.Outside.shown c.loop-left.outside)
    (g.O.Outside.shown c.take_more.new.outside) c.in-Err.status i.taken i.size c.in-Err.ensures.failed
    (omega (arith, length-take c.min-most.result c.loop-left.piece, c.min-most.ensures))

pub returns-in-Err-clause-nothing_new : goal.returns-in-Err-clause-nothing_new
returns-in-Err-clause-nothing_new g c =
    quiet_on g.O.Outside.leaves g.O.Outside.clock g.O.Outside.left c.args.outside.now c.loop-left.outside c.take_more.new.outside
    c.loop-left.invariant.quiet
    (while_reading g.O.Outside.leaves g.O.Outside.clock g.O.Outside.left (g.O.Outside.shown c.loop-left.outside).told
    c.loop-left.outside c.take_more.new.outside
    c.in-Err.ensures.images c.in-Err.ensures.moments)

pub returns-then-n-eq0-clause-whole : goal.returns-then-n-eq0-clause-whole
returns-then-n-eq0-clause-whole g c =
    let i = c.loop-left.invariant in
    let before = c.loop-left.input.items in
    let now = c.take_more.new.input.items in
    let mid = g.O.Outside.shown c.loop-left.outside in
    let after = g.O.Outside.shown c.take_more.new.outside in
    let more = subst (λ (n : ℕ). TakesMore before now mid after n) c.if-n-eq0.true c.in-Ok.ensures.taken in
    all_taken c.args.limits.now before c.loop-left.left (g.O.Outside.shown c.args.outside.now) mid after now i.taken i.size (omega arith)
    more
    (c.in-Ok.ensures.at_end c.if-n-eq0.true)

pub returns-then-n-eq0-clause-nothing_new : goal.returns-then-n-eq0-clause-nothing_new
returns-then-n-eq0-clause-nothing_new g c =
    quiet_on g.O.Outside.leaves g.O.Outside.clock g.O.Outside.left c.args.outside.now c.loop-left.outside c.take_more.new.outside
    c.loop-left.invariant.quiet
    (while_reading g.O.Outside.leaves g.O.Outside.clock g.O.Outside.left (g.O.Outside.shown c.loop-left.outside).told
    c.loop-left.outside c.take_more.new.outside
    c.in-Ok.ensures.images c.in-Ok.ensures.moments)

pub loop-left-preserved : goal.loop-left-preserved
loop-left-preserved g c =
    let i = c.loop-left.invariant in
    let more = c.in-Ok.ensures.taken in
    let size
    = more_length c.loop-left.input.items c.take_more.new.input.items (g.O.Outside.shown c.loop-left.outside)
    (g.O.Outside.shown c.take_more.new.outside) c.in-Ok.n more in
    record {
      taken
          = more_taken c.loop-left.input.items c.take_more.new.input.items (g.O.Outside.shown c.args.outside.now)
          (g.O.Outside.shown c.loop-left.outside)
          (g.O.Outside.shown c.take_more.new.outside) c.in-Ok.n i.taken more;
      size = omega (arith, i.size, size, length-take c.min-most.result c.loop-left.piece, c.min-most.ensures, c.in-Ok.ensures.bound);
      quiet
          = quiet_on g.O.Outside.leaves g.O.Outside.clock g.O.Outside.left c.args.outside.now c.loop-left.outside c.take_more.new.outside
          i.quiet
          (while_reading g.O.Outside.leaves g.O.Outside.clock g.O.Outside.left (g.O.Outside.shown c.loop-left.outside).told
          c.loop-left.outside c.take_more.new.outside
          c.in-Ok.ensures.images c.in-Ok.ensures.moments);
      counts = record {
        reads = omega (arith, c.in-Ok.ensures.counts.reads);
        writes = omega (arith, c.in-Ok.ensures.counts.writes);
        disks = omega (arith, c.in-Ok.ensures.counts.disks);
      };
    }

pub returns-clause-stopped : goal.returns-clause-stopped
returns-clause-stopped g c =
    let i = c.loop-left.invariant in
    let none : c.loop-left.left ≡ 0 = omega arith in
    let size = subst (λ (may : ℕ). length c.loop-left.input.items + may ≡ c.args.limits.now.input_bytes) none i.size in
    long_taken c.args.limits.now c.loop-left.input.items (g.O.Outside.shown c.args.outside.now) (g.O.Outside.shown c.loop-left.outside)
    i.taken size
