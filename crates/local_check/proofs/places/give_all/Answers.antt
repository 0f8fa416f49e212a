use Rattle.std.proofs.Common.{List, subst, sym}
use Rattle.std.specs.Prelude.{IsSome}
use Rattle.std.specs.List.{All}
use Rattle.std.proofs.lemmas.List.{take_all}
use Rattle.level_rules.specs.declared.item.LevelItem.{LevelItem}
use Rattle.local_check.specs.Numbered.{number_at}
use Rattle.local_check.proofs.Linking.{grown_some}
use Rattle.local_check.proofs.Numbering.{known_more}
use Rattle.local_check.proofs.places.give_all.Goals as goal

pub loop-part-preserved : goal.loop-part-preserved
loop-part-preserved c = record {
  numbering = c.in_ok-give.ensures.numbering;
  grown = λ q k h. c.in_ok-give.ensures.grown q k (c.loop-part.invariant.grown q k h);
  places = λ q k h. c.in_ok-give.ensures.places q k (c.loop-part.invariant.places q k h);
  known = known_more c.loop-part.numbers c.give.new.self c.args.parts.now c.loop-part.part-index c.part-item.result c.loop-part-test.true
      (sym c.part-item.is) (grown_some c.loop-part.numbers c.give.new.self c.in_ok-give.ensures.grown) c.in_ok-give.ensures.known
      c.loop-part.invariant.known;
}

pub returns-clause-known : goal.returns-clause-known
returns-clause-known c = subst (λ (ps : List LevelItem). All (λ p. IsSome (number_at c.loop-part.numbers p.ident)) ps)
    (take_all c.loop-part.part-index c.args.parts.now c.loop-part-test.false) c.loop-part.invariant.known
