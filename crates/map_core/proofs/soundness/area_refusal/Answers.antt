use Rattle.std.proofs.Common.{◌∙◌, List, Option, Some, ap, sym}
use Rattle.rd_plane.specs.Plane.{Vertex}
use Rattle.area_book.specs.declared.version.AreaVersion.{AreaVersion}
use Rattle.area_book.specs.Areas.{area_of}
use Rattle.local_check.specs.declared.change.Change.{Change}
use Rattle.map_rules.proofs.Changing.{area_then}
use Rattle.map_core.proofs.soundness.area_refusal.Goals as goal

abbrev with_area : Change → Option (List (List (List Vertex))) → Change
with_area change area = record change { area = area }

pub returns-clause-brought : goal.returns-clause-brought
returns-clause-brought c =
    let m = c.args.message.now in
    let shapes = c.in-Some-area.shapes in
    let applied = rw c.in_default-2.is at c.in_ok-refusal.ensures.applied in
    let same = c.in_ok-area_copy.ensures ∙ (ap (λ (l : List AreaVersion). area_of m.holder l) applied ∙ area_then m.holder m.moment
    (Some shapes) c.args.areas.now.areas) in
    ap (with_area c.args.change.now) (ap Some same ∙ sym c.in-Some-area.is)
