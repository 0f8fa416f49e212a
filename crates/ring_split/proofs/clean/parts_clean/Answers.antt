use Rattle.std.proofs.Common.{arith}
use Rattle.rd_plane.proofs.RingPlaces.{length-ring}
use Rattle.ring_simple.proofs.Corners.{in_turn_from}
use Rattle.ring_split.proofs.clean.parts_clean.Goals as goal

pub clean_parts-requires-clause-places : goal.clean_parts-requires-clause-places
clean_parts-requires-clause-places c = rw c.as_slice.ensures.value c.in_ok-places.ensures.inside

pub returns : goal.returns
returns c = λ t. in_turn_from c.args.points.now (λ i j b. (rw c.as_slice.ensures.value at (c.in_ok-clean.ensures t)) i j
    (c.in_ok-places.ensures.all i (omega (arith, b.before, b.inside, length-ring c.args.points.now)))
    (c.in_ok-places.ensures.all j (omega (arith, b.inside, length-ring c.args.points.now))) b)
