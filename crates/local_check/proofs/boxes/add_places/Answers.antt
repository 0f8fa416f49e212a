use Rattle.std.proofs.Common.{arith}
use Rattle.local_check.proofs.Keeping.{each_place, place_more}
use Rattle.local_check.proofs.boxes.add_places.Goals as goal

pub loop-place-init : goal.loop-place-init
loop-place-init c = record { here = λ k d l. absurd (omega (arith, l)); kept = λ q k. k }

pub loop-place-preserved : goal.loop-place-preserved
loop-place-preserved c = record {
  here = place_more c.loop-place.near.keys c.add_place.new.near.keys c.args.places.now c.loop-place.place-index
      c.loop-place-test.true c.in_ok-add_place.ensures.here c.in_ok-add_place.ensures.kept
      c.loop-place.invariant.here;
  kept = λ q k. c.in_ok-add_place.ensures.kept q (c.loop-place.invariant.kept q k);
}

pub returns-clause-here : goal.returns-clause-here
returns-clause-here c = each_place c.loop-place.near.keys c.args.places.now c.loop-place.place-index
    (omega (arith, c.loop-place-test.false)) c.loop-place.invariant.here
