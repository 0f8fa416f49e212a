use Rattle.std.proofs.Common.{◌≡◌, ◌++◌, length}
use Rattle.std.specs.Prelude.{reverse}
use Rattle.local_check.proofs.map.copies_back.Given as goal

abbrev pub invariant-loop-last : goal.invariant-loop-last
invariant-loop-last l = l.rest ++ reverse l.list.items ≡ l.parts

abbrev pub decreases-loop-last : goal.decreases-loop-last
decreases-loop-last l = length l.rest
