use Rattle.std.proofs.Common.{sym, subst, ◌∙◌}
use Rattle.std.specs.Prelude.{Some}
use Rattle.std.proofs.lemmas.Bool.{both_ways}
use Rattle.rd_plane.specs.Improving.{Improves}
use Rattle.level_rules.specs.Levels.{pair_cmp}
use Rattle.level_rules.specs.Pairs.{IsPairOf}
use Rattle.rd_plane.proofs.Improving.{none, first, lesser}
use Rattle.level_rules.proofs.PairOrder.{pair_total}
use Rattle.level_rules.proofs.fault.tried.Goals as goal

pub returns-then-not-branch : goal.returns-then-not-branch
returns-then-not-branch c
    = none pair_total c.args.least (λ p t. both_ways c.in_ok-breaks.field-0 c.if-not-branch.true (c.in_ok-breaks.ensures.1 t.breaks))

pub returns-in_default : goal.returns-in_default
returns-in_default c
    = subst (λ a. Improves pair_cmp (IsPairOf c.args.x.now c.args.y.now) a (Some c.pair_of-pair.result)) (sym c.in_default.is)
    (first {T = IsPairOf c.args.x.now c.args.y.now} pair_total c.pair_of-pair.result
    (record { breaks = c.in_ok-breaks.ensures.0 c.if-not-branch.false; is = c.pair_of-pair.ensures })
    (λ p t. t.is ∙ sym c.pair_of-pair.ensures))

pub returns : goal.returns
returns c = lesser {T = IsPairOf c.args.x.now c.args.y.now} pair_total c.args.least c.in-Some.found c.lesser.result c.pair_of-pair.result
    c.in-Some.is
    (record { breaks = c.in_ok-breaks.ensures.0 c.if-not-branch.false; is = c.pair_of-pair.ensures })
    (λ p t. t.is ∙ sym c.pair_of-pair.ensures) c.lesser.ensures
