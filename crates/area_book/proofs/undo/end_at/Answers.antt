use Rattle.area_book.proofs.Ending.{ended_here, ended_nowhere}
use Rattle.area_book.proofs.undo.end_at.Goals as goal

pub returns-then-areas-place : goal.returns-then-areas-place
returns-then-areas-place c = ended_nowhere c.args.place c.args.until c.args.areas.now c.if-areas-place.true

pub returns : goal.returns
returns c = ended_here c.args.place c.args.until c.args.areas.now c.index-areas-place.result c.if-areas-place.false
