use Rattle.std.proofs.Common.{◌∙◌, ◌<◌, ◌^◌, ap, length, subst, sym}
use Rattle.rd_plane.specs.Covering.{IsNoded, IsSoundArea, IsTiled, border}
use Rattle.local_check.specs.Maps.{HolderParts, changed, ground_of}
use Rattle.map_core.specs.Maps.{now_in}
use Rattle.map_core.specs.Tried.{CoreView, state_of}
use Rattle.map_core.specs.Untiled.{IsUntiled}
use Rattle.map_core.proofs.Untiled.{few_ground, found_untiled, made_is, map_ok}
use Rattle.map_core.proofs.register.Core.after_map.Goals as goal

pub returns-clause-sound : goal.returns-clause-sound
returns-clause-sound c =
    let own = c.self.inside in
    let m = c.args.message.now in
    let change = c.in_ok-change.change in
    let made = made_is own.held own.tried m change (ap (λ (v : CoreView). v.tried) c.self.view_is ∙ c.requires.untried) c.self.invariant.1
    c.in_ok-change.ensures (c.change_makes_after.ensures (state_of own.held) m) in
    let f = found_untiled own.limits (state_of own.held) m
    (subst (λ (v : CoreView). IsUntiled v.limits v.state m) (sym c.self.view_is) c.requires.untiled) in
    map_ok (changed change (now_in own.held.maps m.holder)) (λ a p. IsSoundArea a) c.map_after.result c.map_after.ensures.area
    c.map_after.ensures.parts
    (subst (λ (x : HolderParts). IsSoundArea x.area) (sym made)
    (c.ruled_map_is_sound.ensures (state_of own.held) m c.self.invariant.2.0.good f.mutations f.area).0)

pub returns-clause-noded : goal.returns-clause-noded
returns-clause-noded c =
    let own = c.self.inside in
    let m = c.args.message.now in
    let change = c.in_ok-change.change in
    let made = made_is own.held own.tried m change (ap (λ (v : CoreView). v.tried) c.self.view_is ∙ c.requires.untried) c.self.invariant.1
    c.in_ok-change.ensures (c.change_makes_after.ensures (state_of own.held) m) in
    let f = found_untiled own.limits (state_of own.held) m
    (subst (λ (v : CoreView). IsUntiled v.limits v.state m) (sym c.self.view_is) c.requires.untiled) in
    map_ok (changed change (now_in own.held.maps m.holder)) (λ a p. IsNoded (border a p)) c.map_after.result c.map_after.ensures.area
    c.map_after.ensures.parts
    (subst (λ (x : HolderParts). IsNoded (border x.area (ground_of x.parts))) (sym made) f.noded)

pub returns-clause-few : goal.returns-clause-few
returns-clause-few c =
    let own = c.self.inside in
    let m = c.args.message.now in
    let change = c.in_ok-change.change in
    let made = made_is own.held own.tried m change (ap (λ (v : CoreView). v.tried) c.self.view_is ∙ c.requires.untried) c.self.invariant.1
    c.in_ok-change.ensures (c.change_makes_after.ensures (state_of own.held) m) in
    let f = found_untiled own.limits (state_of own.held) m
    (subst (λ (v : CoreView). IsUntiled v.limits v.state m) (sym c.self.view_is) c.requires.untiled) in
    map_ok (changed change (now_in own.held.maps m.holder)) (λ a p. length p < 2 ^ 32) c.map_after.result c.map_after.ensures.area
    c.map_after.ensures.parts
    (subst (λ (x : HolderParts). length (ground_of x.parts) < 2 ^ 32) (sym made)
    (few_ground own.limits (state_of own.held) m c.self.invariant.0 f))

pub returns-clause-not_tiled : goal.returns-clause-not_tiled
returns-clause-not_tiled c =
    let own = c.self.inside in
    let m = c.args.message.now in
    let change = c.in_ok-change.change in
    let made = made_is own.held own.tried m change (ap (λ (v : CoreView). v.tried) c.self.view_is ∙ c.requires.untried) c.self.invariant.1
    c.in_ok-change.ensures (c.change_makes_after.ensures (state_of own.held) m) in
    let f = found_untiled own.limits (state_of own.held) m
    (subst (λ (v : CoreView). IsUntiled v.limits v.state m) (sym c.self.view_is) c.requires.untiled) in
    map_ok (changed change (now_in own.held.maps m.holder)) (λ a p. ¬ IsTiled a p) c.map_after.result c.map_after.ensures.area
    c.map_after.ensures.parts
    (subst (λ (x : HolderParts). ¬ IsTiled x.area (ground_of x.parts)) (sym made) f.not_tiled)
