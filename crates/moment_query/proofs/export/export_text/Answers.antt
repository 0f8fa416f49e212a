use Rattle.std.proofs.Common.{◌∙◌, ap, subst, sym, List, map}
use Rattle.std.specs.List.{All}
use Rattle.std.proofs.lemmas.Result.{IfOk-weaker}
use Rattle.version_history.specs.declared.version.Version.{Version}
use Rattle.version_history.specs.Moments.{contents, has_lower, rising, versions_at}
use Rattle.area_book.specs.declared.version.AreaVersion.{AreaVersion}
use Rattle.moment_query.specs.Exports.{export_from, holders_of, AreJoined, IsExportText}
use Rattle.moment_query.specs.Printed.{IsPrintableArea, IsPrintableVersion}
use Rattle.moment_query.specs.Queries.{areas_at}
use Rattle.moment_query.proofs.Exported.{told_export}
use Rattle.moment_query.proofs.Printables.{all_in_order, areas_at_printable, versions_at_printable}
use Rattle.moment_query.proofs.export.export_text.Goals as goal

pub exports_from-requires : goal.exports_from-requires
exports_from-requires c =
    let s = c.args.core.now.state in
    let areas = ap contents c.deref-3.ensures.value ∙ (c.in_ok-areas.ensures.value ∙ ap (areas_at c.args.moment) c.areas.ensures.value) in
    let listed = c.in_ok-versions.ensures ∙ ap (versions_at c.args.moment) c.history.ensures.versions in
    let grouped = ap contents c.deref-4.ensures.value ∙ (c.in_ok-grouped.ensures.value ∙ ap (rising (λ (v : Version). v.holder)) listed) in
    record {
      areas_order = rw c.deref-3.ensures.value c.in_ok-areas.ensures.order;
      versions_order = rw c.deref-4.ensures.value c.in_ok-grouped.ensures.order;
      shapes = subst (λ (l : List AreaVersion). All IsPrintableArea l) (sym areas)
          (areas_at_printable c.args.moment s.areas c.areas.ensures.sound);
      items = subst (λ (l : List Version). All IsPrintableVersion l) (sym grouped)
          (all_in_order IsPrintableVersion (has_lower (λ (v : Version). v.holder)) (versions_at c.args.moment s.versions)
          (versions_at_printable c.args.moment s.versions c.history.ensures.shapes c.history.ensures.items));
    }

pub returns : goal.returns
returns c =
    let s = c.args.core.now.state in
    let held = c.in_ok-areas.ensures.value ∙ ap (areas_at c.args.moment) c.areas.ensures.value in
    let listed = c.in_ok-versions.ensures ∙ ap (versions_at c.args.moment) c.history.ensures.versions in
    let areas = ap contents c.deref-3.ensures.value ∙ held in
    let grouped = ap contents c.deref-4.ensures.value ∙ (c.in_ok-grouped.ensures.value ∙ ap (rising (λ (v : Version). v.holder)) listed) in
    let holders = c.deref-5.ensures.value ∙ (c.in_ok-holders.ensures
    ∙ (ap (λ (l : List AreaVersion). holders_of l (contents c.deref-2.result.now)) (ap contents c.deref.ensures.value ∙ held)
    ∙ ap (holders_of (areas_at c.args.moment s.areas)) (ap contents c.deref-2.ensures.value ∙ listed))) in
    let from = export_from (contents c.deref-3.result.now) (contents c.deref-4.result.now) c.args.moment in
    let listed_areas = contents c.deref-3.result.now in
    let listed_versions = contents c.deref-4.result.now in
    IfOk-weaker c.exports_from.result (AreJoined (map from c.deref-5.result.now)) (IsExportText s c.args.moment)
    (λ text joined. told_export s c.args.moment listed_areas listed_versions c.deref-5.result.now areas grouped holders joined)
    c.exports_from.ensures
