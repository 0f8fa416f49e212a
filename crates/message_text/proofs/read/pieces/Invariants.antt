use Rattle.std.proofs.Common.{◌≡◌, ◌++◌, length}
use Rattle.message_text.specs.Cuts.{parts}
use Rattle.message_text.specs.Fields.{contents}
use Rattle.message_text.proofs.read.pieces.Given as goal

abbrev pub invariant-loop-line : goal.invariant-loop-line
invariant-loop-line l = contents l.pieces.items ++ parts 10 l.rest ≡ parts 10 l.text

abbrev pub decreases-loop-line : goal.decreases-loop-line
decreases-loop-line l = length l.rest
