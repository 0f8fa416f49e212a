use Rattle.std.proofs.lemmas.Result.{on_ok_weaker}
use Rattle.local_check.specs.Placed.{present}
use Rattle.local_check.proofs.Found.{contains_unmap}
use Rattle.local_check.proofs.borders.push_leaver.Goals as goal

pub unreachable-requires : goal.unreachable-requires
unreachable-requires c =
    let k = contains_unmap (present c.args.parts.now.slots.items) c.args.ident c.requires.there in
    c.in_default.ensures.none k.0 k.1 k.2

pub returns : goal.returns
returns c = on_ok_weaker c.push_part.result (λ added. record {
  part = c.in-Some.part.now;
  there = c.in-Some.ensures.some.0;
  named = c.in-Some.ensures.some.1;
  added = added;
}) c.push_part.ensures.borders
