use Rattle.std.proofs.Common.{List, ℕ, subst, sym}
use Rattle.std.specs.List.{Contains}
use Rattle.std.proofs.lemmas.Result.{on_ok_weaker}
use Rattle.local_check.proofs.Keeping.{all_near}
use Rattle.local_check.proofs.boxes.add_near.Goals as goal

pub returns-clause-here : goal.returns-clause-here
returns-clause-here c = on_ok_weaker c.add_places.result (λ h. all_near c.args.boxes.now c.bounds.result c.in_ok-places.places
    c.add_places.new.near.keys c.args.shape.now c.bounds.ensures c.in_ok-places.ensures
    (λ q m. h q (subst (λ (ps : List ℕ). Contains ps q) (sym c.as_slice.ensures) m))) c.add_places.ensures.here
