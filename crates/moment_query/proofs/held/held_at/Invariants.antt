use Rattle.std.proofs.Common.{◌≡◌, take, filter}
use Rattle.version_history.specs.Moments.{contents, holds}
use Rattle.area_book.specs.declared.version.AreaVersion.{AreaVersion}
use Rattle.moment_query.proofs.held.held_at.Given as goal

abbrev pub invariant-loop-place : goal.invariant-loop-place
invariant-loop-place l = contents l.found.items ≡ filter (λ (a : AreaVersion). holds l.moment a.since a.until) (take l.place l.areas.areas)
