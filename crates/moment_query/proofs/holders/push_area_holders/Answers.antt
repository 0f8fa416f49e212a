use Rattle.std.proofs.Common.{List, map, filter}
use Rattle.area_book.specs.declared.version.AreaVersion.{AreaVersion}
use Rattle.moment_query.specs.Exports.{has_shapes}
use Rattle.moment_query.proofs.Collected.{all_behind, more_behind, shaped_adds}
use Rattle.moment_query.proofs.holders.push_area_holders.Goals as goal

pub loop-area-preserved : goal.loop-area-preserved
loop-area-preserved c =
    more_behind (λ (l : List AreaVersion). map (λ (a : AreaVersion). a.holder) (filter has_shapes l)) shaped_adds c.args.holders.now.items
    c.args.areas.now c.loop-area.area-index
    c.area-item.result c.loop-area-test.true c.area-item.is c.loop-area.invariant c.in_ok-push_area_holder.ensures

pub returns : goal.returns
returns c =
    all_behind (λ (l : List AreaVersion). map (λ (a : AreaVersion). a.holder) (filter has_shapes l)) c.args.holders.now.items
    c.args.areas.now
    c.loop-area.area-index
    c.loop-area-test.false c.loop-area.invariant
