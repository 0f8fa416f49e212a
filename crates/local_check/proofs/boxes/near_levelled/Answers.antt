use Rattle.std.proofs.Common.{arith, sym}
use Rattle.std.proofs.lemmas.Bool.{both_ways}
use Rattle.level_rules.specs.declared.item.LevelItem.{LevelItem}
use Rattle.level_rules.specs.Levels.{IsLevelled}
use Rattle.local_check.proofs.Keeping.{near_all, near_more}
use Rattle.local_check.proofs.boxes.near_levelled.Goals as goal

pub loop-part-preserved-then-not-is_levelled : goal.loop-part-preserved-then-not-is_levelled
loop-part-preserved-then-not-is_levelled c = near_more
    (λ (p : LevelItem). p.shape) IsLevelled c.args.boxes.now c.loop-part.near.keys c.loop-part.near.keys c.args.parts.now
    c.loop-part.part-index c.part-item.result
    c.loop-part-test.true (sym c.part-item.is)
    (λ s. absurd (both_ways c.is_levelled.result c.if-not-is_levelled.true (c.is_levelled.ensures.1 s))) (λ q k. k)
    c.loop-part.invariant

pub loop-part-preserved : goal.loop-part-preserved
loop-part-preserved c = near_more
    (λ (p : LevelItem). p.shape) IsLevelled c.args.boxes.now c.loop-part.near.keys c.add_near.new.near.keys c.args.parts.now
    c.loop-part.part-index c.part-item.result
    c.loop-part-test.true (sym c.part-item.is) (λ s. c.in_ok-add_near.ensures.here) c.in_ok-add_near.ensures.kept c.loop-part.invariant

pub returns : goal.returns
returns c = near_all (λ (p : LevelItem). p.shape) IsLevelled c.args.boxes.now c.loop-part.near.keys c.args.parts.now
    c.loop-part.part-index (omega (arith, c.loop-part-test.false)) c.loop-part.invariant
