use Rattle.std.proofs.Common.{map}
use Rattle.std.proofs.lemmas.List.{map-append}
use Rattle.version_history.specs.declared.version.Version.{Version}
use Rattle.moment_query.proofs.Collected.{all_behind, more_behind}
use Rattle.moment_query.proofs.holders.push_version_holders.Goals as goal

pub loop-version-preserved : goal.loop-version-preserved
loop-version-preserved c =
    more_behind (map (λ (v : Version). v.holder)) (map-append (λ (v : Version). v.holder)) c.args.holders.now.items c.args.versions.now
    c.loop-version.version-index
    c.version-item.result c.loop-version-test.true c.version-item.is c.loop-version.invariant c.in_ok-push.ensures.items

pub returns : goal.returns
returns c = all_behind (map (λ (v : Version). v.holder)) c.args.holders.now.items c.args.versions.now c.loop-version.version-index
    c.loop-version-test.false c.loop-version.invariant
