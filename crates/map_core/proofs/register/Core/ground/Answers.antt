use Rattle.std.proofs.Common.{◌≡◌, ◌∙◌, Some, ap, subst}
use Rattle.local_check.specs.Borders.{IsGroundOf}
use Rattle.map_rules.specs.State.{map_now}
use Rattle.map_core.specs.Maps.{map_in}
use Rattle.map_core.specs.Tried.{CoreView, state_of}
use Rattle.map_core.proofs.Holding.{grounds}
use Rattle.map_core.proofs.Resting.{at_rest}
use Rattle.map_core.proofs.register.Core.ground.Goals as goal

pub returns-clause-borders : goal.returns-clause-borders
returns-clause-borders c =
    let own = c.self.inside in
    let rest = at_rest own.held own.tried (ap (λ (v : CoreView). v.tried) c.self.view_is ∙ c.requires) c.self.invariant.1 in
    let found : Some c.in-Some.map.now ≡ map_in own.held.maps c.args.holder = rw c.in-Some.is at c.get.ensures.value in
    let made = grounds (state_of own.held) own.held.maps c.args.holder c.in-Some.map.now c.ground.result.now rest.0 rest.1 found
    c.ground.ensures.borders c.ground.ensures.tried in
    subst (λ (v : CoreView). IsGroundOf c.ground.result.now (map_now c.args.holder v.state)) c.self.view_is made.0

pub returns-clause-untried : goal.returns-clause-untried
returns-clause-untried c =
    let own = c.self.inside in
    let rest = at_rest own.held own.tried (ap (λ (v : CoreView). v.tried) c.self.view_is ∙ c.requires) c.self.invariant.1 in
    let found : Some c.in-Some.map.now ≡ map_in own.held.maps c.args.holder = rw c.in-Some.is at c.get.ensures.value in
    (grounds (state_of own.held) own.held.maps c.args.holder c.in-Some.map.now c.ground.result.now rest.0 rest.1 found
    c.ground.ensures.borders c.ground.ensures.tried).1
