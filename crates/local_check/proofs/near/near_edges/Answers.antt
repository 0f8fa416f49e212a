use Rattle.std.proofs.Common.{◌≡◌, ℕ, true, List, subst}
use Rattle.std.specs.Prelude.{Option}
use Rattle.std.specs.List.{Contains}
use Rattle.rd_plane.specs.Plane.{Segment}
use Rattle.level_rules.specs.declared.item.LevelItem.{LevelItem}
use Rattle.local_check.specs.Kept.{FindsNear}
use Rattle.local_check.specs.Maps.{is_ground}
use Rattle.local_check.specs.Nearby.{AddsNear}
use Rattle.local_check.proofs.Keeping.{still_near}
use Rattle.local_check.proofs.Nearby.{are_near}
use Rattle.local_check.proofs.near.near_edges.Goals as goal

pub returns : goal.returns
returns c =
    let parts = c.args.map.now.parts in
    let change = c.args.change.now in
    let places = c.add_near_ground.new.near.keys in
    let of_parts = subst (λ (ps : List LevelItem). (p : LevelItem) → Contains ps p → is_ground p ≡ true
    → FindsNear parts.boxes places p.shape)
    c.as_slice.ensures c.in_ok-add_near_ground.ensures.here in
    let adds = subst (λ (xs : List (Option LevelItem)). AddsNear change.leaving xs places c.in_ok-edges.edges c.push_places.new.edges)
    c.deref.ensures.value (subst (λ (l : List (List ℕ)). AddsNear l c.deref.result.now places c.in_ok-edges.edges c.push_places.new.edges)
    c.as_slice-2.ensures c.in_ok-push_places.ensures) in
    are_near parts.boxes parts.slots.items c.args.map.now.area change places c.push_places.new.edges c.push_area_kept.new.edges c.requires
    (λ rings k. still_near parts.boxes c.in_ok-places.places.keys places rings c.in_ok-add_near_ground.ensures.kept
    (c.in_ok-places.ensures rings k)) of_parts
    (subst (λ (es : List Segment). AddsNear change.leaving parts.slots.items places es c.push_places.new.edges) c.in_ok-edges.ensures adds)
    c.in_ok-push_area_kept.ensures
