use Rattle.version_history.specs.Moments.{contents}
use Rattle.moment_query.specs.Exports.{export_from}
use Rattle.moment_query.proofs.Exported.{all_joined, more_joined, none_joined}
use Rattle.moment_query.proofs.export.exports_from.Goals as goal

pub loop-holder-init : goal.loop-holder-init
loop-holder-init c = none_joined c.new-text.ensures

pub loop-holder-preserved : goal.loop-holder-preserved
loop-holder-preserved c =
    more_joined (export_from (contents c.args.areas.now) (contents c.args.versions.now) c.args.moment) c.args.holders.now
    c.loop-holder.holder-index
    c.holder-item.result c.loop-holder-test.true c.holder-item.is c.loop-holder.invariant c.in_ok-push_export.ensures

pub returns : goal.returns
returns c =
    all_joined (export_from (contents c.args.areas.now) (contents c.args.versions.now) c.args.moment) c.args.holders.now
    c.loop-holder.holder-index
    c.loop-holder-test.false c.loop-holder.invariant
