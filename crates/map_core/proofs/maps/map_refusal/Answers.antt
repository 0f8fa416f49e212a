use Rattle.std.proofs.Common.{◌≡◌, Some, ap, sym, refl, subst}
use Rattle.local_check.specs.Maps.{HolderParts, changed}
use Rattle.map_rules.specs.Rules.{MapRules}
use Rattle.map_core.proofs.Deciding.{asked, err_so, ok_so, so}
use Rattle.map_core.proofs.Holding.{now_of, same_written, tried_here, written}
use Rattle.map_core.specs.Maps.{map_in, now_in}
use Rattle.map_core.proofs.maps.map_refusal.Goals as goal

pub returns-in_default-get_mut-clause-rule : goal.returns-in_default-get_mut-clause-rule
returns-in_default-get_mut-clause-rule g c =
    ok_so _ _ (λ f h. asked (MapRules (changed c.args.change.now (now_in c.args.maps.now c.args.holder))) c.args.found f c.in_default.is
    (rw c.get_mut.follows.holds-at-none at h)) c.try_first.result c.try_first.ensures.rule

pub returns-clause-rule : goal.returns-clause-rule
returns-clause-rule g c =
    let found : Some c.in-Some-get_mut.map.now ≡ map_in c.args.maps.now c.args.holder
    = rw c.in-Some-get_mut.is at c.get_mut.ensures.value in
    ok_so _ _ (λ f h. asked (MapRules (changed c.args.change.now (now_in c.args.maps.now c.args.holder))) c.args.found f c.in_default.is
    (subst (λ (x : HolderParts). MapRules (changed c.args.change.now x) f) (ap now_of found)
    h)) c.try_change.result c.try_change.ensures.rule

pub returns-clause-tried : goal.returns-clause-tried
returns-clause-tried g c =
    let old = c.args.maps.now in
    let new = c.get_mut.follows.lender c.try_change.new.map in
    let found : Some c.in-Some-get_mut.map.now ≡ map_in old c.args.holder = rw c.in-Some-get_mut.is at c.get_mut.ensures.value in
    let set
    = written old new c.args.holder c.try_change.new.map ((c.get_mut.follows.holds c.try_change.new.map).3 (rw (sym found) refl)).0 in
    ok_so _ _ (λ f h. so _ _ f
    (tried_here old new c.args.holder c.in-Some-get_mut.map.now c.try_change.new.map (changed c.args.change.now) found set) h)
    c.try_change.result c.try_change.ensures.tried

pub returns-clause-refused : goal.returns-clause-refused
returns-clause-refused g c =
    let old = c.args.maps.now in
    let new = c.get_mut.follows.lender c.try_change.new.map in
    let found : Some c.in-Some-get_mut.map.now ≡ map_in old c.args.holder = rw c.in-Some-get_mut.is at c.get_mut.ensures.value in
    let set
    = written old new c.args.holder c.try_change.new.map ((c.get_mut.follows.holds c.try_change.new.map).3 (rw (sym found) refl)).0 in
    ok_so _ _ (λ f h some. same_written old new c.args.holder c.in-Some-get_mut.map.now c.try_change.new.map found set (h some))
    c.try_change.result c.try_change.ensures.refused

pub returns-clause-err : goal.returns-clause-err
returns-clause-err g c =
    let old = c.args.maps.now in
    let new = c.get_mut.follows.lender c.try_change.new.map in
    let found : Some c.in-Some-get_mut.map.now ≡ map_in old c.args.holder = rw c.in-Some-get_mut.is at c.get_mut.ensures.value in
    let set
    = written old new c.args.holder c.try_change.new.map ((c.get_mut.follows.holds c.try_change.new.map).3 (rw (sym found) refl)).0 in
    err_so _ _ (λ e h. same_written old new c.args.holder c.in-Some-get_mut.map.now c.try_change.new.map found set h) c.try_change.result
    c.try_change.ensures.err
