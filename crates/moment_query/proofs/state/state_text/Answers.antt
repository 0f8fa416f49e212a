use Rattle.std.proofs.Common.{◌∙◌, sym, ap, subst, List}
use Rattle.std.specs.List.{All}
use Rattle.version_history.specs.declared.version.Version.{Version}
use Rattle.version_history.specs.Moments.{contents, versions_at}
use Rattle.area_book.specs.declared.version.AreaVersion.{AreaVersion}
use Rattle.moment_query.specs.Printed.{IsPrintableArea, IsPrintableVersion}
use Rattle.moment_query.specs.Queries.{areas_at}
use Rattle.moment_query.proofs.Printables.{areas_at_printable, versions_at_printable}
use Rattle.moment_query.proofs.Told.{told_state}
use Rattle.moment_query.proofs.state.state_text.Goals as goal

pub push_areas-requires : goal.push_areas-requires
push_areas-requires c =
    let s = c.args.core.now.state in
    let is = ap contents c.deref.ensures.value ∙ (c.in_ok-areas.ensures.value ∙ ap (areas_at c.args.moment) c.areas.ensures.value) in
    subst (λ (l : List AreaVersion). All IsPrintableArea l) (sym is) (areas_at_printable c.args.moment s.areas c.areas.ensures.sound)

pub push_versions-requires : goal.push_versions-requires
push_versions-requires c =
    let s = c.args.core.now.state in
    let is = ap contents c.deref-2.ensures.value ∙ (c.in_ok-versions.ensures ∙ ap (versions_at c.args.moment) c.history.ensures.versions) in
    subst (λ (l : List Version). All IsPrintableVersion l) (sym is)
    (versions_at_printable c.args.moment s.versions c.history.ensures.shapes c.history.ensures.items)

pub returns : goal.returns
returns c =
    let s = c.args.core.now.state in
    let areas = ap contents c.deref.ensures.value ∙ (c.in_ok-areas.ensures.value ∙ ap (areas_at c.args.moment) c.areas.ensures.value) in
    let versions
    = ap contents c.deref-2.ensures.value ∙ (c.in_ok-versions.ensures ∙ ap (versions_at c.args.moment) c.history.ensures.versions) in
    told_state s c.args.moment _ _ areas versions c.new-text.ensures c.in_ok-push_areas.ensures c.in_ok-push_versions.ensures
