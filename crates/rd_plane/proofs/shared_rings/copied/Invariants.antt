use Rattle.std.proofs.Common.{◌≡◌, take}
use Rattle.rd_plane.proofs.shared_rings.copied.Given as goal

abbrev pub invariant-loop-ring : goal.invariant-loop-ring
invariant-loop-ring l = l.copy ≡ take l.ring-index l.fn.rings
