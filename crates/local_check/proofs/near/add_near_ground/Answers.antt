use Rattle.std.proofs.Common.{◌≡◌, true, arith, sym, ◌∙◌}
use Rattle.std.proofs.lemmas.Bool.{both_ways}
use Rattle.level_rules.specs.declared.item.LevelItem.{LevelItem}
use Rattle.local_check.specs.Maps.{is_ground}
use Rattle.local_check.proofs.Keeping.{near_all, near_more}
use Rattle.local_check.proofs.near.add_near_ground.Goals as goal

pub loop-part-init : goal.loop-part-init
loop-part-init c = record { here = λ k d l g. absurd (omega (arith, l)); kept = λ q k. k }

pub loop-part-preserved-then-not-is_ground : goal.loop-part-preserved-then-not-is_ground
loop-part-preserved-then-not-is_ground c = record {
  here = near_more (λ (p : LevelItem). p.shape)
      (λ p. is_ground p ≡ true) c.args.boxes.now c.loop-part.near.keys c.loop-part.near.keys c.args.parts.now c.loop-part.part-index
      c.part-item.result c.loop-part-test.true (sym c.part-item.is)
      (λ s. absurd (both_ways c.is_ground.result c.if-not-is_ground.true (c.is_ground.ensures ∙ s))) (λ q k. k) c.loop-part.invariant.here;
  kept = c.loop-part.invariant.kept;
}

pub loop-part-preserved : goal.loop-part-preserved
loop-part-preserved c = record {
  here = near_more (λ (p : LevelItem). p.shape)
      (λ p. is_ground p ≡ true) c.args.boxes.now c.loop-part.near.keys c.add_near.new.near.keys c.args.parts.now c.loop-part.part-index
      c.part-item.result c.loop-part-test.true (sym c.part-item.is)
      (λ s. c.in_ok-add_near.ensures.here) c.in_ok-add_near.ensures.kept c.loop-part.invariant.here;
  kept = λ q k. c.in_ok-add_near.ensures.kept q (c.loop-part.invariant.kept q k);
}

pub returns-clause-here : goal.returns-clause-here
returns-clause-here c = near_all (λ (p : LevelItem). p.shape)
    (λ p. is_ground p ≡ true) c.args.boxes.now c.loop-part.near.keys c.args.parts.now c.loop-part.part-index
    (omega (arith, c.loop-part-test.false)) c.loop-part.invariant.here

pub returns-clause-kept : goal.returns-clause-kept
returns-clause-kept c = c.loop-part.invariant.kept
