use Rattle.box_index.proofs.FoundBoxes.{none_found}
use Rattle.box_index.proofs.index.BoxIndex.new.Goals as goal

pub invariant_of-result : goal.invariant_of-result
invariant_of-result c = none_found c.new-2.result _ c.new.ensures.empty
