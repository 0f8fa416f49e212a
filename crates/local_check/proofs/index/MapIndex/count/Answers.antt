use Rattle.std.proofs.Common.{◌≡◌, length, subst}
use Rattle.local_check.specs.Maps.{MapView}
use Rattle.local_check.proofs.index.MapIndex.count.Goals as goal

pub returns : goal.returns
returns c = subst (λ (v : MapView). c.self.inside.now.parts.count ≡ length v.now.parts) c.self.view_is c.self.invariant.2.placed.count
