use Rattle.std.proofs.Common.{ap}
use Rattle.std.specs.FinMap as map
use Rattle.local_check.proofs.Keeping.{drop_elsewhere}
use Rattle.local_check.proofs.boxes.drop_box.Goals as goal

pub returns : goal.returns
returns c = drop_elsewhere c.args.boxes.now c.remove.new.self c.args.place c.in-Ok.ensures.ok

pub returns-in_default : goal.returns-in_default
returns-in_default c = λ q n. ap (λ m. map.get m q) c.in_default.ensures.err
