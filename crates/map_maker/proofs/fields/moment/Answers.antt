use Rattle.field_text.proofs.Moments.{one_moment}
use Rattle.map_maker.specs.Made.{moment}
use Rattle.map_maker.proofs.Calendar.{field_is_moment}
use Rattle.map_maker.proofs.fields.moment.Goals as goal

pub unreachable-requires : goal.unreachable-requires
unreachable-requires c =
    c.in_default.ensures.value (moment c.args.seconds)
    (field_is_moment c.args.seconds _ _ _ _ _ _ c.requires c.new-field.ensures c.push_bytes.ensures.pushed
    c.push_two.ensures c.push.ensures.pushed c.push_two-2.ensures c.bytes.ensures)

pub returns : goal.returns
returns c =
    one_moment c.bytes.result.now c.in-Ok.moment (moment c.args.seconds) c.in-Ok.ensures.value
    (field_is_moment c.args.seconds _ _ _ _ _ _ c.requires c.new-field.ensures c.push_bytes.ensures.pushed
    c.push_two.ensures c.push.ensures.pushed c.push_two-2.ensures c.bytes.ensures)
