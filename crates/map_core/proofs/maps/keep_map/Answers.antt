use Rattle.std.proofs.Common.{◌≡◌, Option, Some, refl, sym, subst}
use Rattle.std.specs.Prelude.{IfSome, IsSome}
use Rattle.local_check.specs.Maps.{MapView}
use Rattle.map_core.proofs.Holding.{committed, written}
use Rattle.map_core.specs.Maps.{map_in}
use Rattle.map_core.proofs.maps.keep_map.Goals as goal

pub returns-in-Some : goal.returns-in-Some
returns-in-Some c =
    let old = c.args.maps.now in
    let new = c.get_mut.follows.lender c.commit.new.self in
    let found : Some c.in-Some.map.now ≡ map_in old c.args.holder = rw c.in-Some.is at c.get_mut.ensures.value in
    let set = written old new c.args.holder c.commit.new.self ((c.get_mut.follows.holds c.commit.new.self).3 (rw (sym found) refl)).0 in
    committed old new c.args.holder c.in-Some.map.now c.commit.new.self found
    (subst (λ (o : Option MapView). IfSome o (λ m. IsSome m.tried)) (sym found) c.requires) set c.commit.ensures
