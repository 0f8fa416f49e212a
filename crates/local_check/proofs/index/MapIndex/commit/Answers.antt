use Rattle.std.proofs.Common.{◌∙◌, subst, sym}
use Rattle.std.specs.Prelude.{Option}
use Rattle.local_check.specs.declared.map.Tried.{Tried}
use Rattle.local_check.proofs.Tying.{Holds, committed}
use Rattle.local_check.proofs.index.MapIndex.commit.Goals as goal

pub invariant_of-self : goal.invariant_of-self
invariant_of-self c =
    let inside = c.self.inside in
    let was = subst (λ (t : Option Tried). Holds inside.now t inside.ground) (sym c.take.ensures.value ∙ c.in-Some.is) c.self.invariant in
    subst (λ (t : Option Tried). Holds c.change.new.self t c.keep.new.self) (sym c.take.ensures.after)
    (committed inside.now c.change.new.self c.in-Some.tried inside.ground c.keep.new.self was c.change.ensures.value
    c.change.ensures.placed c.change.ensures.boxed c.change.ensures.same
    c.change.ensures.next c.keep.ensures.slots c.keep.ensures.kept c.keep.ensures.idle)
