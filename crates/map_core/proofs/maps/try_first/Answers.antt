use Rattle.std.proofs.Common.{◌≡◌, ◌∙◌, Some, ap, sym, subst}
use Rattle.local_check.specs.Maps.{HolderParts, MapView, changed}
use Rattle.map_rules.specs.Rules.{MapRules}
use Rattle.map_core.proofs.Holding.{now_of, tried_first, written}
use Rattle.map_core.specs.Maps.{no_map, now_in, trying}
use Rattle.map_core.proofs.maps.try_first.Goals as goal

pub returns-in-Some-clause-rule : goal.returns-in-Some-clause-rule
returns-in-Some-clause-rule g c =
    let now : no_map ≡ now_in c.args.maps.now c.args.holder = sym (ap now_of c.requires.absent) in
    subst (λ (x : HolderParts). MapRules (changed c.args.change.now x) (Some c.in-Some.refusal))
    (ap (λ (v : MapView). v.now) c.new-map.ensures ∙ now)
    (rw c.in-Some.is at c.in_ok-refusal.ensures.rule)

pub returns-in-Ok-clause-tried : goal.returns-in-Ok-clause-tried
returns-in-Ok-clause-tried g c =
    let old = c.args.maps.now in
    let new = c.insert.new.self in
    let fresh = c.new-map.ensures in
    let tried = rw c.in_default.is at c.in_ok-refusal.ensures.tried in
    let is : c.try_change.new.map ≡ trying no_map (changed c.args.change.now no_map) =
    tried ∙ ap (λ (v : MapView). trying v.now (changed c.args.change.now v.now)) fresh in
    tried_first old new c.args.holder c.try_change.new.map (changed c.args.change.now) c.requires.absent
    (written old new c.args.holder c.try_change.new.map c.in-Ok.ensures.updates.0) is
