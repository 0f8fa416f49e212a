use Rattle.std.proofs.Common.{◌∙◌, ap, arith}
use Rattle.imgeo_types.specs.Kinds.{word_of}
use Rattle.imgeo_types.proofs.Words.{listed}
use Rattle.imgeo_types.proofs.kind.Kind.read.Goals as goal

pub returns : goal.returns
returns c = λ k same. let at = listed k in c.loop-kind.invariant at.0 k (omega arith) (ap word_of at.2 ∙ same)
