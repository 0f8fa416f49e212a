use Rattle.std.proofs.Common.{◌++◌, length, ap}
use Rattle.std.proofs.lemmas.List.{drop-replicate}
use Rattle.imgeo_types.proofs.code.filled_to_64.Goals as goal

-- src/code.rt:43:1
pub returns : goal.returns
returns c = rw c.copy_from_slice.ensures.after (ap (λ t. c.args.field.now ++ t) (drop-replicate (length c.args.field.now) 64 0))
