use Rattle.point_law.proofs.Covered.{none_of_others, none_outside, one_area, one_part}
use Rattle.point_law.proofs.laws.one_area_and_one_part.Goals as goal

pub returns-clause-area : goal.returns-clause-area
returns-clause-area c = one_area

pub returns-clause-part : goal.returns-clause-part
returns-clause-part c = one_part

pub returns-clause-others : goal.returns-clause-others
returns-clause-others c = none_of_others

pub returns-clause-outside : goal.returns-clause-outside
returns-clause-outside c = none_outside
