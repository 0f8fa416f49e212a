use Rattle.std.proofs.Common.{sym}
use Rattle.std.proofs.lemmas.Bool.{both_ways}
use Rattle.level_rules.proofs.Spoken.{boxes_begin, boxes_skip}
use Rattle.level_rules.proofs.boxes.boxes_of.Goals as goal

pub loop-i-init : goal.loop-i-init
loop-i-init c = boxes_begin c.args.items.now c.new-index.result c.new-index.ensures

pub loop-i-preserved-then-not-is_levelled : goal.loop-i-preserved-then-not-is_levelled
loop-i-preserved-then-not-is_levelled c
    = boxes_skip c.args.items.now c.loop-i.index c.loop-i.i c.index-items-i.result (sym c.index-items-i.is)
    (λ l. both_ways c.is_levelled.result c.if-not-is_levelled.true (c.is_levelled.ensures.1 l)) c.loop-i.invariant
