use Rattle.level_rules.proofs.Spoken.{boxes_more}
use Rattle.level_rules.proofs.boxes.put_box.Goals as goal

pub returns : goal.returns
returns c = boxes_more c.args.items.now c.args.index.now c.insert.new.self c.args.i c.index-items-i.result c.bounds.result c.requires.inside
    c.requires.levelled c.bounds.ensures c.in-Ok.ensures.ok c.requires.before
