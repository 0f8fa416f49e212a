use Rattle.std.proofs.Common.{◌∙◌, sym, ap}
use Rattle.version_history.specs.Moments.{contents}
use Rattle.moment_query.specs.Exports.{is_own_area, shapes_or_none}
use Rattle.moment_query.proofs.RowLemmas.{ref_at, refs_end}
use Rattle.moment_query.proofs.Searching.{find_first, find_more, find_none}
use Rattle.moment_query.proofs.export.own_shapes.Goals as goal

pub returns-then-eq : goal.returns-then-eq
returns-then-eq c =
    let at = ref_at c.args.areas.now c.loop-area.area-index c.area-item.result c.loop-area-test.true c.area-item.is in
    c.in_ok-shapes.ensures ∙ c.as_slice.ensures
    ∙ ap shapes_or_none
    (find_first (is_own_area c.args.holder) (contents c.args.areas.now) c.loop-area.area-index c.area-item.result.now at.0 at.1
    (sym c.eq.ensures ∙ c.if-eq.true) c.loop-area.invariant)

pub loop-area-preserved : goal.loop-area-preserved
loop-area-preserved c =
    let at = ref_at c.args.areas.now c.loop-area.area-index c.area-item.result c.loop-area-test.true c.area-item.is in
    find_more (is_own_area c.args.holder) (contents c.args.areas.now) c.loop-area.area-index c.area-item.result.now at.0 at.1
    (sym c.eq.ensures ∙ c.if-eq.false) c.loop-area.invariant

pub returns : goal.returns
returns c = c.new.ensures ∙ ap shapes_or_none (find_none (is_own_area c.args.holder) (contents c.args.areas.now) c.loop-area.area-index
    (refs_end c.args.areas.now c.loop-area.area-index c.loop-area-test.false) c.loop-area.invariant)
