use Rattle.std.proofs.Common.{ap, ◌∙◌}
use Rattle.std.specs.FinMap as map
use Rattle.local_check.proofs.Keeping.{put_elsewhere, put_here}
use Rattle.local_check.proofs.boxes.put_box.Goals as goal

pub returns-clause-here : goal.returns-clause-here
returns-clause-here c = put_here c.drop_box.new.boxes c.insert.new.self c.args.place c.bounds.result c.args.part.now c.in-Ok.ensures.ok c.bounds.ensures

pub returns-clause-others : goal.returns-clause-others
returns-clause-others c = λ q n. put_elsewhere c.drop_box.new.boxes c.insert.new.self c.args.place c.bounds.result c.in-Ok.ensures.ok
    q n ∙ c.drop_box.ensures q n

pub returns-in_default-clause-others : goal.returns-in_default-clause-others
returns-in_default-clause-others c = λ q n. ap (λ m. map.get m q) c.in_default.ensures.err ∙ c.drop_box.ensures q n
