-- The exported message of a holder is taken, where no message of the holder was taken before.
use Rattle.std.proofs.Common.{◌≡◌, ◌≢◌, ◌∙◌, ◌<◌, ◌≤◌, ℕ, refl, sym, ap, List, [], ◌++◌, length, map, subst}
use Rattle.std.specs.Prelude.{ℤ, ◌≤ℤ◌, true, Bool, ◌&&◌, filter, Option, Some, None, IfSome, is_none}
use Rattle.std.specs.List.{Contains, count_by, flat_map}
use Rattle.std.proofs.Math.Bool.{and-false}
use Rattle.std.proofs.lemmas.List.{length-map}
use Rattle.std.proofs.lemmas.List.Elements.{All-contains}
use Rattle.std.proofs.lemmas.List.Sums.{length-filter}
use Rattle.std.proofs.lemmas.Slice.Eq.{bytes_eq-Decides}
use Rattle.rd_plane.specs.Covering.{AreApart}
use Rattle.rd_plane.specs.Rule.{when}
use Rattle.rd_plane.specs.Shapes.{IsSoundShape}
use Rattle.imgeo_types.specs.Fields.{holder_of}
use Rattle.imgeo_types.specs.ItemRule.{item_fault}
use Rattle.message_text.specs.declared.limits.Limits.{Limits}
use Rattle.message_text.specs.declared.message.Message.{Message}
use Rattle.version_history.specs.declared.version.Version.{Version}
use Rattle.version_history.specs.Moments.{versions_at}
use Rattle.version_history.specs.Versions.{is_current}
use Rattle.area_book.specs.Areas.{area_of, newest_area}
use Rattle.area_book.specs.Rule.{KeepsAreas}
use Rattle.local_check.specs.MapRules.{IsRightMap}
use Rattle.local_check.specs.Maps.{HolderParts, staying}
use Rattle.map_rules.specs.declared.refusal.FullName.TheVariants.{Holders, Objects}
use Rattle.map_rules.specs.declared.refusal.Refusal.TheVariants as refusal
use Rattle.map_rules.specs.After.{after}
use Rattle.map_rules.specs.Changes.{coming_by, leaving_by}
use Rattle.map_rules.specs.Dated.{IsDated}
use Rattle.map_rules.specs.Rules.{MutationsRule, day_of, earlier, full_holders, full_objects}
use Rattle.map_rules.specs.Rules.{not_later, stale_message}
use Rattle.map_rules.specs.Rules.{stale_area as stale_area_of}
use Rattle.map_rules.specs.State.{State, area_at, is_object_of, map_now, moment_of, part_of, parts_now}
use Rattle.map_rules.specs.Steps.{Decision}
use Rattle.map_rules.proofs.Changing.{map_then}
use Rattle.map_rules.proofs.Lists.{kept-none}
use Rattle.map_rules.proofs.Moments.{lt_false}
use Rattle.map_rules.proofs.Taken.{same_map}
use Rattle.moment_query.specs.Exports.{export_of, own_shapes}
use Rattle.moment_query.specs.Queries.{areas_at}
use Rattle.export_law.specs.Kept.{BeganInTime, IsAtHome, IsKept}
use Rattle.export_law.proofs.Days.{days_rise, no_later, not_less, not_upto}
use Rattle.export_law.proofs.Members.{out_filter}
use Rattle.export_law.proofs.Adding.{IsRightAddition, addition_passes, additions_pass, apart, coming_are, never_used}
use Rattle.export_law.proofs.AtMoment.{area_is, at_is}
use Rattle.export_law.proofs.Exporting.{addition, additions_are, is_own, own, own_count, own_differ, right_then}

-- a moment that is not earlier than the newest area
not_earlier : (t : ℤ) (newest : Option ℤ) → IfSome newest (λ u. u ≤ℤ t) → earlier t newest ≡ None
not_earlier t None h = refl
not_earlier t (Some u) h = ap (λ (b : Bool). when b (refusal.Stale u) None) (lt_false t u h)

-- no message of the holder was taken yet, there is room for one holder more, no area began later, and each area of another holder is apart
pub record IsReady (limits : Limits) (s : State) (t : ℤ) (h : List ℕ) (new : State) : Type 0 where
  pub unmet : moment_of h new.last ≡ None
  pub room : length new.last < limits.holders
  pub newest : IfSome (newest_area new.areas) (λ u. u ≤ℤ t)
  pub apart : (g : List ℕ) → g ≢ h → AreApart (area_at t h s.areas) (area_of g new.areas)

module _ (limits : Limits) (s : State) (t : ℤ) (h : List ℕ) (new : State) (k : IsKept limits s) (n : IsKept limits new)
    (r : IsReady limits s t h new) where
  abbrev m : Message
  m = export_of s t h

  abbrev news : List Version
  news = own h t s

  shapes_are : own_shapes h (areas_at t s.areas) ≡ area_at t h s.areas
  shapes_are = area_is t h s.areas k.sound.good.book.in_turn

  mutations_are : m.mutations ≡ map addition news
  mutations_are = additions_are h (versions_at t s.versions)

  -- no version is the holder's yet
  not_own : (v : Version) → Contains new.versions v → v.holder ≢ h
  not_own v c q = let d = All-contains (λ (x : Version). IsDated new.last x.holder x.since x.until) new.versions v n.sound.good.dated c in
      none_some d.moment (sym r.unmet ∙ sym (ap (λ (x : List ℕ). moment_of x new.last) q) ∙ d.is)
    where
      none_some : (u : ℤ) → None ≡ Some u → ⊥
      none_some u e = cc

  right_addition : (w : Version) → Contains news w → IsRightAddition new.versions m w
  right_addition w c = record {
    passes = λ at. addition_passes new.versions m at w.ident w.item home (never_used new.versions w.ident free)
        (All-contains (λ (v : Version). item_fault v.item ≡ None) s.versions w k.sound.items is.0) in_time;
    sound = All-contains (λ (v : Version). IsSoundShape v.item.rings) s.versions w k.sound.good.shapes is.0;
  }
    where
      here : Contains (versions_at t s.versions) w × (is_own h w ≡ true)
      here = out_filter (is_own h) (versions_at t s.versions) w c

      is : Contains s.versions w × (w.since ≤ℤ t)
      is = at_is t s.versions w here.0

      home : holder_of w.ident ≡ h
      home = All-contains IsAtHome s.versions w k.home is.0 ∙ (bytes_eq-Decides w.holder h).0 here.1

      free : (v : Version) → Contains new.versions v → v.ident ≢ w.ident
      free v d q = not_own v d (sym (All-contains IsAtHome new.versions v n.home d) ∙ (ap holder_of q ∙ home))

      in_time : w.item.begin ≤ℤ day_of t
      in_time = no_later w.item.begin (day_of w.since) (day_of t) (All-contains BeganInTime s.versions w k.began is.0)
          (days_rise w.since t is.1)

  mutations_pass : MutationsRule new.versions m [] m.mutations None
  mutations_pass = subst (λ ms. MutationsRule new.versions m [] ms None) (sym mutations_are)
      (additions_pass new.versions m [] news right_addition (λ w c. refl) (own_differ h t s k.sound.good.in_turn))

  -- ---- the map that it leaves
  none_yet : parts_now h new.versions ≡ []
  none_yet = ap (map part_of)
      (kept-none (is_object_of h) new.versions (λ v c. ap (λ (b : Bool). b && is_current v) (apart v.holder h (not_own v c))))

  map_is : map_now h (after new m) ≡ record { area = area_at t h s.areas; parts = map part_of news }
  map_is = map_then new m ∙ same_map (own_shapes h (areas_at t s.areas)) (area_at t h s.areas)
      (staying (flat_map leaving_by m.mutations) (parts_now h new.versions) ++ flat_map coming_by m.mutations) (map part_of news) shapes_are
      (ap (λ l. staying (flat_map leaving_by m.mutations) l ++ flat_map coming_by m.mutations) none_yet
      ∙ (ap (flat_map coming_by) mutations_are ∙ coming_are news))

  right : IsRightMap (map_now h (after new m))
  right = subst IsRightMap (sym map_is) (right_then h t s k.sound.good)

  -- ---- room
  count_then : count_by (is_object_of h) (after new m).versions ≤ limits.objects
  count_then = subst (λ c. c ≤ limits.objects) (sym (ap (λ (x : HolderParts). length x.parts) map_is ∙ own_count h t s)
      ∙ (length-map (filter (is_object_of h) (after new m).versions) part_of ∙ length-filter (is_object_of h)
      (after new m).versions)) (k.few t h)

  area_passes : KeepsAreas new.areas h (own_shapes h (areas_at t s.areas))
  area_passes = subst (KeepsAreas new.areas h) (sym shapes_are) (record { sound = (k.sound.good.maps t h).area; apart = r.apart })

  room_for_holder : None ≡ full_holders limits new.last m
  room_for_holder =
      let some_left = not_upto (length new.last) limits.holders r.room in
      sym (ap (λ (b : Bool). when (is_none (moment_of h new.last) && b) (refusal.Full Holders) None) some_left
      ∙ ap (λ (b : Bool). when b (refusal.Full Holders) None) (and-false (is_none (moment_of h new.last))))

  room_for_objects : None ≡ full_objects limits (after new m).versions m
  room_for_objects = sym (ap (λ (b : Bool). when b (refusal.Full Objects) None)
      (not_less (count_by (is_object_of h) (after new m).versions) limits.objects count_then))

  -- rule by rule
  pub is_taken : Decision limits new m None
  unfolding Decision
  is_taken = (
    stale,
    (stale_area, (mutations_pass, (room_for_holder, (room_for_objects, (area_passes, (right.levels, (right.noded, right.tiled))))))),
  )
    where
      stale : None ≡ stale_message new.last m
      stale = sym (ap (not_later t) r.unmet)

      stale_area : None ≡ stale_area_of new.areas m
      stale_area = sym (not_earlier t (newest_area new.areas) r.newest)
