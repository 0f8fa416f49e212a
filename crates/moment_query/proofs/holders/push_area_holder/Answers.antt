use Rattle.std.proofs.lemmas.Bool.{both_ways}
use Rattle.moment_query.proofs.Collected.{no_shape, shaped}
use Rattle.moment_query.proofs.holders.push_area_holder.Goals as goal

pub returns-then-is_empty : goal.returns-then-is_empty
returns-then-is_empty c = no_shape c.args.area.now (c.is_empty.ensures.0 c.if-is_empty.true)

pub returns : goal.returns
returns c =
    shaped c.args.holders.now.items c.args.area.now (λ none. both_ways c.is_empty.result c.if-is_empty.false (c.is_empty.ensures.1 none))
    c.in_ok-push.ensures.items
