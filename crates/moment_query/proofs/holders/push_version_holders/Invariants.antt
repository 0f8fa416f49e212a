use Rattle.std.proofs.Common.{◌≡◌, ◌++◌, map, take}
use Rattle.version_history.specs.Moments.{contents}
use Rattle.version_history.specs.declared.version.Version.{Version}
use Rattle.moment_query.proofs.holders.push_version_holders.Given as goal

abbrev pub invariant-loop-version : goal.invariant-loop-version
invariant-loop-version l
    = l.holders.items ≡ l.fn.holders.items ++ map (λ (v : Version). v.holder) (contents (take l.version-index l.versions))
