use Rattle.std.proofs.Common.{◌≡◌, Some, refl, sym}
use Rattle.map_core.proofs.Holding.{abandoned, written}
use Rattle.map_core.specs.Maps.{map_in}
use Rattle.map_core.proofs.maps.give_up_map.Goals as goal

pub returns-in-Some : goal.returns-in-Some
returns-in-Some c =
    let old = c.args.maps.now in
    let new = c.get_mut.follows.lender c.abandon.new.self in
    let found : Some c.in-Some.map.now ≡ map_in old c.args.holder = rw c.in-Some.is at c.get_mut.ensures.value in
    let set = written old new c.args.holder c.abandon.new.self ((c.get_mut.follows.holds c.abandon.new.self).3 (rw (sym found) refl)).0 in
    abandoned old new c.args.holder c.in-Some.map.now c.abandon.new.self found set c.abandon.ensures
