use Rattle.std.proofs.Common.{codes}
use Rattle.field_text.proofs.Moments.{one_day}
use Rattle.map_maker.proofs.Calendar.{new_year}
use Rattle.map_maker.specs.Made.{day}
use Rattle.map_maker.proofs.fields.day.Goals as goal

pub returns : goal.returns
returns c = one_day (codes "2024-01-01") c.in-Ok.day day c.in-Ok.ensures.value new_year
