use Rattle.std.proofs.Common.{◌≡◌, vec_len}
use Rattle.area_book.specs.Standing.{Standing, stood}
use Rattle.area_book.proofs.undo.take_all_back.Given as goal

abbrev pub invariant-loop-replaced : goal.invariant-loop-replaced
invariant-loop-replaced l = ◌≡◌ {A = Standing} (stood l.undo.items (record { areas = l.areas.items; current = l.current.items }))
    (stood l.initial.undo.items (record { areas = l.initial.areas.items; current = l.initial.current.items }))

abbrev pub decreases-loop-replaced : goal.decreases-loop-replaced
decreases-loop-replaced l = vec_len l.undo
