use Rattle.std.proofs.Common.{◌∙◌}
use Rattle.version_history.specs.Moments.{contents}
use Rattle.moment_query.proofs.Exported.{same_additions, same_message, same_shapes}
use Rattle.moment_query.proofs.export.export_from.Goals as goal

pub returns : goal.returns
returns c = same_message c.args.holder c.args.moment
    (c.in_ok-shapes.ensures ∙ same_shapes c.args.holder (contents c.own_areas.result.now) (contents c.args.areas.now) c.own_areas.ensures)
    (c.in_ok-mutations.ensures ∙ same_additions c.args.holder (contents c.own_versions.result.now) (contents c.args.versions.now)
    c.own_versions.ensures)
