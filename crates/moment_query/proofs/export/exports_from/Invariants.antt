use Rattle.std.proofs.Common.{map, take}
use Rattle.version_history.specs.Moments.{contents}
use Rattle.moment_query.specs.Exports.{export_from, AreJoined}
use Rattle.moment_query.proofs.export.exports_from.Given as goal

abbrev pub invariant-loop-holder : goal.invariant-loop-holder
invariant-loop-holder l
    = AreJoined (map (export_from (contents l.areas) (contents l.versions) l.moment) (take l.holder-index l.holders)) l.text
