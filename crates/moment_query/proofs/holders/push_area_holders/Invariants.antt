use Rattle.std.proofs.Common.{◌≡◌, ◌++◌, map, filter, take}
use Rattle.version_history.specs.Moments.{contents}
use Rattle.area_book.specs.declared.version.AreaVersion.{AreaVersion}
use Rattle.moment_query.specs.Exports.{has_shapes}
use Rattle.moment_query.proofs.holders.push_area_holders.Given as goal

abbrev pub invariant-loop-area : goal.invariant-loop-area
invariant-loop-area l
    = l.holders.items ≡ l.fn.holders.items ++ map (λ (a : AreaVersion). a.holder) (filter has_shapes (contents (take l.area-index l.areas)))
