use Rattle.std.proofs.Common.{subst}
use Rattle.area_book.specs.Throughout.{IsSoundBook}
use Rattle.map_core.specs.Tried.{CoreView}
use Rattle.map_core.proofs.register.Core.areas.Goals as goal

pub returns-clause-sound : goal.returns-clause-sound
returns-clause-sound c =
    let book = subst (λ (v : CoreView). IsSoundBook v.state.areas) c.self.view_is c.self.invariant.2.0.good.book in
    λ k a within. (book.sound k a within).sound
