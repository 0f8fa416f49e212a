use Rattle.std.proofs.Common.{◌≢◌, ℕ, ◌<◌, get_or}
use Rattle.imgeo_types.specs.declared.kind.Kind.{Kind}
use Rattle.imgeo_types.specs.Kinds.{word_of}
use Rattle.imgeo_types.proofs.kind.Kind.read.Given as goal

abbrev pub invariant-loop-kind : goal.invariant-loop-kind
invariant-loop-kind l = (j : ℕ) (d : Kind) → j < l.kind-index → word_of (get_or l.kind-items j d) ≢ l.word
