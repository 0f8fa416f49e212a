use Rattle.std.proofs.Common.{sym}
use Rattle.ring_simple.proofs.Corners.{next_shared, around_shared, parted_next, parted_around}
use Rattle.ring_simple.proofs.pairs.go_off.Goals as goal

pub goes_off-requires : goal.goes_off-requires
goes_off-requires c = next_shared c.args.points.now c.args.i c.args.j c.args.e c.args.f
    (record {
      three = c.requires.corners.three;
      before = c.requires.before;
      inside = c.requires.inside;
      first = c.requires.first;
      second = c.requires.second;
    }) c.if-j-i.true

pub returns-then-j-i : goal.returns-then-j-i
returns-then-j-i c = λ t. parted_next c.args.points.now c.args.i c.args.j c.args.e c.args.f
    (record {
      three = c.requires.corners.three;
      before = c.requires.before;
      inside = c.requires.inside;
      first = c.requires.first;
      second = c.requires.second;
    }) c.if-j-i.true (c.goes_off.ensures t)

pub goes_off-requires-then-j-points : goal.goes_off-requires-then-j-points
goes_off-requires-then-j-points c = sym (around_shared c.args.points.now c.args.i c.args.j c.args.e c.args.f
    (record {
      three = c.requires.corners.three;
      before = c.requires.before;
      inside = c.requires.inside;
      first = c.requires.first;
      second = c.requires.second;
    }) c.if-i-eq0.true c.if-j-points.true)

pub returns-then-j-points : goal.returns-then-j-points
returns-then-j-points c = λ t. parted_around c.args.points.now c.args.i c.args.j c.args.e c.args.f
    (record {
      three = c.requires.corners.three;
      before = c.requires.before;
      inside = c.requires.inside;
      first = c.requires.first;
      second = c.requires.second;
    }) c.if-i-eq0.true c.if-j-points.true (c.goes_off-then-j-points.ensures t)
