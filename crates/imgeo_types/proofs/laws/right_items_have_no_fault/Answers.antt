use Rattle.imgeo_types.proofs.RightItems.{right_has_none, none_is_right}
use Rattle.imgeo_types.proofs.laws.right_items_have_no_fault.Goals as goal

pub returns-clause-right : goal.returns-clause-right
returns-clause-right c = right_has_none c.name_of_place.ensures

pub returns-clause-no_fault : goal.returns-clause-no_fault
returns-clause-no_fault c = none_is_right c.name_of_place.ensures
