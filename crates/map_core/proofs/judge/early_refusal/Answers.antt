use Rattle.std.proofs.Common.{◌∙◌, List, [], ap, subst, sym}
use Rattle.std.specs.List.{All}
use Rattle.rd_plane.specs.Rule.{Is}
use Rattle.area_book.specs.declared.version.AreaVersion.{AreaVersion}
use Rattle.local_check.specs.declared.change.Change.{Change}
use Rattle.version_history.specs.declared.version.Version.{Version}
use Rattle.map_rules.specs.After.{areas_after, versions_after}
use Rattle.map_rules.specs.Dated.{IsDatedArea}
use Rattle.map_rules.specs.Rules.{MutationsRule, stale_area, stale_message}
use Rattle.map_rules.proofs.Dating.{is_fresh}
use Rattle.map_core.specs.Maps.{now_in}
use Rattle.map_core.specs.Tried.{state_of}
use Rattle.map_core.proofs.Deciding.{alone, both, passed, so, still}
use Rattle.map_core.proofs.Judging.{IsRow, by_mutations, change_is, few_objects, found_nothing, leads, objects_then, tryable}
use Rattle.map_core.proofs.judge.early_refusal.Goals as goal

pub area_refusal-requires-clause-fresh : goal.area_refusal-requires-clause-fresh
area_refusal-requires-clause-fresh c =
    let m = c.args.message.now in
    let held = c.args.held.now in
    let f1 = c.stale_message_refusal-found.result in
    let f2 = c.stale_area_refusal-found.result in
    let f5 = c.full_objects_refusal-found.result in
    let message = alone (Is (stale_message held.last.items m)) f1 (rw c.deref.ensures.value at c.stale_message_refusal-found.ensures) in
    let moments = both _ _ f2 (still _ _ f1 f2 c.stale_area_refusal-found.ensures message)
    (passed (Is (stale_area held.areas.areas m)) f1 f2 c.stale_area_refusal-found.ensures) in
    let dated = subst (λ (l : List AreaVersion). All (IsDatedArea held.last.items) l) (sym c.requires.rest.areas)
    c.requires.sound.good.areas_dated in
    so _ _ f5 (λ h. is_fresh held.last.items held.areas.areas m dated (sym h.0) (sym h.1))
    (still _ _ _ f5 c.full_objects_refusal-found.ensures (still _ _ _ _ c.full_holders_refusal-found.ensures
    (still _ _ f2 c.in_ok-found.found c.in_ok-found.ensures.rule moments)))

pub area_refusal-requires-clause-none : goal.area_refusal-requires-clause-none
area_refusal-requires-clause-none c =
    still _ _ _ _ c.full_objects_refusal-found.ensures (still _ _ _ _ c.full_holders_refusal-found.ensures
    (so _ _ c.in_ok-found.found (λ e. ap (λ (x : Change). x.area) e ∙ ap (λ (x : Change). x.area) c.requires.none)
    c.in_ok-found.ensures.brought))

pub full_objects_refusal-found-requires-clause-counted : goal.full_objects_refusal-found-requires-clause-counted
full_objects_refusal-found-requires-clause-counted c =
    let m = c.args.message.now in
    let s = state_of c.args.held.now in
    let f2 = c.stale_area_refusal-found.result in
    let f3 = c.in_ok-found.found in
    let f4 = c.full_holders_refusal-found.result in
    let kept = ap (λ (l : List Version). versions_after m.holder m.moment m.mutations l) c.requires.rest.versions in
    let rule = passed (MutationsRule s.versions m [] m.mutations) f2 f3 (rw c.requires.rest.versions at c.in_ok-found.ensures.rule) in
    still _ _ f3 f4 c.full_holders_refusal-found.ensures
    (so _ _ f3 (λ h. objects_then s m (now_in c.args.held.now.maps m.holder) c.mutations_refusal.new.change
    (c.requires.maps.now m.holder) (by_mutations m c.args.change.now c.mutations_refusal.new.change c.requires.none h.0.1)
    c.mutations_refusal.new.history.versions
    (h.0.0 ∙ kept) (c.objects_are_counted.ensures s m c.requires.sound.good h.1))
    (both _ _ f3 (both _ _ f3 c.in_ok-found.ensures.applied c.in_ok-found.ensures.brought) rule))

pub full_objects_refusal-found-requires-clause-few : goal.full_objects_refusal-found-requires-clause-few
full_objects_refusal-found-requires-clause-few c =
    let m = c.args.message.now in
    let s = state_of c.args.held.now in
    let f3 = c.in_ok-found.found in
    still _ _ f3 c.full_holders_refusal-found.result c.full_holders_refusal-found.ensures
    (so _ _ f3 (λ e. few_objects s m (now_in c.args.held.now.maps m.holder)
    c.mutations_refusal.new.change (c.requires.maps.now m.holder)
    (by_mutations m c.args.change.now c.mutations_refusal.new.change c.requires.none e)
    c.args.limits.now c.requires.sound c.requires.valid c.requires.counted.few) c.in_ok-found.ensures.brought)

pub returns-clause-row : goal.returns-clause-row
returns-clause-row c =
    let m = c.args.message.now in
    let s = state_of c.args.held.now in
    let limits = c.args.limits.now in
    let f1 = c.stale_message_refusal-found.result in
    let f2 = c.stale_area_refusal-found.result in
    let f3 = c.in_ok-found.found in
    let f4 = c.full_holders_refusal-found.result in
    let f5 = c.full_objects_refusal-found.result in
    let f6 = c.in_ok-found-2.found in
    let kept = ap (λ (l : List Version). versions_after m.holder m.moment m.mutations l) c.requires.rest.versions in
    let row : IsRow limits s m f1 f2 f3 f4 f5 f6 = record {
      versions = c.mutations_refusal.new.history.versions;
      message = rw c.deref.ensures.value at c.stale_message_refusal-found.ensures;
      block = rw c.requires.rest.areas at c.stale_area_refusal-found.ensures;
      mutations = rw c.requires.rest.versions at c.in_ok-found.ensures.rule;
      holders = rw c.deref-2.ensures.value at c.full_holders_refusal-found.ensures;
      applied = so _ _ f3 (λ e. e ∙ kept) c.in_ok-found.ensures.applied;
      objects = c.full_objects_refusal-found.ensures;
      area = rw c.requires.rest.areas at c.in_ok-found-2.ensures.rule;
    } in
    record {
      gives = (leads limits s m f1 f2 f3 f4 f5 f6 row).gives;
      tryable
          = so _ _ f6
          (tryable limits s m (c.change_makes_after.ensures s m) (c.ruled_change_is_right.ensures s m) (c.ruled_map_is_sound.ensures s m)
          c.requires.sound c.requires.valid) (found_nothing limits s m f1 f2 f3 f4 f5 f6 row);
    }

pub returns-clause-applied : goal.returns-clause-applied
returns-clause-applied c =
    let m = c.args.message.now in
    let kept = ap (λ (l : List Version). versions_after m.holder m.moment m.mutations l) c.requires.rest.versions in
    so _ _ c.in_ok-found-2.found (λ e. e ∙ kept)
    (still _ _ _ _ c.in_ok-found-2.ensures.rule (still _ _ _ _ c.full_objects_refusal-found.ensures
    (still _ _ _ _ c.full_holders_refusal-found.ensures c.in_ok-found.ensures.applied)))

pub returns-clause-areas : goal.returns-clause-areas
returns-clause-areas c =
    let m = c.args.message.now in
    so _ _ c.in_ok-found-2.found (λ e. e ∙ ap (λ (l : List AreaVersion). areas_after m.holder m.moment m.area l) c.requires.rest.areas)
    c.in_ok-found-2.ensures.applied

pub returns-clause-brought : goal.returns-clause-brought
returns-clause-brought c =
    let f6 = c.in_ok-found-2.found in
    let mutations = still _ _ _ f6 c.in_ok-found-2.ensures.rule (still _ _ _ _ c.full_objects_refusal-found.ensures
    (still _ _ _ _ c.full_holders_refusal-found.ensures c.in_ok-found.ensures.brought)) in
    so _ _ f6 (λ h. change_is c.args.message.now c.args.change.now _ _ c.requires.none h.0 h.1)
    (both _ _ f6 mutations c.in_ok-found-2.ensures.brought)
