-- A message that no rule refuses is taken, and keeps all right.
use Rattle.std.proofs.Common.{◌≡◌, ◌≢◌, ◌∙◌, ℕ, refl, sym, List, [], ◌∷◌, inl, inr, subst}
use Rattle.std.specs.Prelude.{◌+◌, ◌<◌, ◌^◌, ℤ, pos, ◌≤ℤ◌, length, Option, Some, None, IfSome, unwrap_or}
use Rattle.std.specs.Int.Signed.{≤ℤ_refl}
use Rattle.std.specs.List.{All}
use Rattle.rd_plane.specs.Covering.{IsSoundArea}
use Rattle.rd_plane.specs.Plane.{Vertex}
use Rattle.rd_plane.specs.Shapes.{IsSoundShape}
use Rattle.chain_cancel.proofs.Coverage.{cancel-tiled}
use Rattle.chain_cancel.proofs.Exact.{tiled-cancel}
use Rattle.message_text.specs.declared.limits.Limits.{Limits}
use Rattle.message_text.specs.declared.message.Message.{Message}
use Rattle.area_book.specs.declared.version.AreaVersion.{AreaVersion}
use Rattle.area_book.specs.Areas.{area_of, newest_area}
use Rattle.local_check.specs.Maps.{HolderParts, IsRightChange, ground_of}
use Rattle.map_rules.specs.declared.refusal.Answer.{Answer}
use Rattle.map_rules.specs.declared.refusal.Answer.TheVariants.{Taken, Refused}
use Rattle.map_rules.specs.After.{after}
use Rattle.map_rules.specs.Changes.{change_of}
use Rattle.map_rules.specs.Good.{Good, IsFine, IsFineArea, IsTaken}
use Rattle.map_rules.specs.Passing.{AreaPasses, Passes}
use Rattle.map_rules.specs.Rules.{AreaRule, MutationsRule, stale_area, stale_message}
use Rattle.map_rules.specs.Runs.{AnswersText, Run}
use Rattle.map_rules.specs.State.{State, area_at, is_object_of, map_at, map_now, moment_of, parts_at, parts_now}
use Rattle.map_rules.specs.Steps.{Decision, Step}
use Rattle.map_rules.proofs.Areas.{area_is_now, areas_of_others}
use Rattle.map_rules.proofs.Changing.{area_then}
use Rattle.map_rules.proofs.Dating.{later_than, moment_of_others, not_before}
use Rattle.map_rules.proofs.Ends.{right_now}
use Rattle.map_rules.proofs.Objects.{ground_sound, parts_are_now, parts_of_others}
use Rattle.map_rules.proofs.RightChange.{right_change}
use Rattle.map_rules.proofs.Ruled.{all_fine, all_once}
use Rattle.map_rules.proofs.Taken.{after_good, same_map, shapes_then}

area_fine : (areas : List AreaVersion) (m : Message) (area : Option (List (List (List Vertex)))) → AreaPasses areas m area
    → IsFineArea areas m.holder m.moment area
area_fine areas m None a = tt
area_fine areas m (Some shapes) a = (not_before m.moment (newest_area areas) a.0, a.1)

area_sound : (areas : List AreaVersion) (m : Message) (area : Option (List (List (List Vertex)))) → AreaPasses areas m area
    → IsSoundArea (area_of m.holder areas) → IsSoundArea (unwrap_or area (area_of m.holder areas))
area_sound areas m None a s = s
area_sound areas m (Some shapes) a s = a.1.sound

pub taken : (s : State) (m : Message) → Good s → Passes s m → IsTaken s m
taken s m g p = record {
  later = later_than m.moment (moment_of m.holder s.last) p.fresh;
  once = all_once s.versions m [] m.mutations p.mutations;
  fine = fine;
  area = area_fine s.areas m m.area p.area;
  right = record {
    area = area;
    levels = p.map.0;
    noded = p.map.1.0;
    cancels = p.map.1.1;
    tiled
        = cancel-tiled (area_of m.holder (after s m).areas) (ground_of (parts_now m.holder (after s m).versions)) area
        (ground_sound (is_object_of m.holder) (after s m).versions (shapes_then s m g fine)) p.map.1.1;
  };
}
  where
    fine : All (IsFine s.versions m.holder) m.mutations
    fine = all_fine s.versions m [] m.mutations p.mutations

    area : IsSoundArea (area_of m.holder (after s m).areas)
    area = subst IsSoundArea (sym (area_then m.holder m.moment m.area s.areas))
        (area_sound s.areas m m.area p.area (right_now s m.holder g).area)

pub passed_good : (s : State) (m : Message) → Good s → Passes s m → Good (after s m)
passed_good s m g p = after_good s m g (taken s m g p)

-- ---- by the decision
area_passes : (areas : List AreaVersion) (m : Message) (area : Option (List (List (List Vertex))))
    → None ≡ stale_area areas (record m { area = area })
    → AreaRule areas m.holder area None → AreaPasses areas m area
area_passes areas m None e k = tt
area_passes areas m (Some shapes) e k = (sym e, k)

area_kept : (areas : List AreaVersion) (m : Message) (area : Option (List (List (List Vertex)))) → AreaRule areas m.holder area None
    → IsSoundArea (area_of m.holder areas) → IsSoundArea (unwrap_or area (area_of m.holder areas))
area_kept areas m None k s = s
area_kept areas m (Some shapes) k s = k.sound

-- the map that it leaves its holder has a sound area and sound parts
pub map_sound : (s : State) (m : Message) → Good s → MutationsRule s.versions m [] m.mutations None → AreaRule s.areas m.holder m.area None
    → IsSoundArea (map_now m.holder (after s m)).area × All IsSoundShape (ground_of (map_now m.holder (after s m)).parts)
map_sound s m g mutations area = (
  subst IsSoundArea (sym (area_then m.holder m.moment m.area s.areas)) (area_kept s.areas m m.area area (right_now s m.holder g).area),
  ground_sound (is_object_of m.holder) (after s m).versions (shapes_then s m g (all_fine s.versions m [] m.mutations mutations)),
)

-- a message that is not refused passes each rule
pub passes : (limits : Limits) (s : State) (m : Message) → Good s → Decision limits s m None → Passes s m
unfolding Decision
passes limits s m g d = record {
  fresh = sym d.0;
  mutations = mutations;
  area = area;
  map = (
    d.1.1.1.1.1.1.0,
    (d.1.1.1.1.1.1.1.0, tiled-cancel new.area (ground_of new.parts) sound.0 sound.1 d.1.1.1.1.1.1.1.0 d.1.1.1.1.1.1.1.1),
  );
}
  where
    new : HolderParts
    new = map_now m.holder (after s m)

    mutations : MutationsRule s.versions m [] m.mutations None
    mutations = d.1.1.0

    area : AreaPasses s.areas m m.area
    area = area_passes s.areas m m.area d.1.0 d.1.1.1.1.1.0

    sound : IsSoundArea new.area × All IsSoundShape (ground_of new.parts)
    sound = map_sound s m g mutations d.1.1.1.1.1.0

pub step_good : (limits : Limits) (s : State) (m : Message) → Good s → Decision limits s m None → Good (after s m)
step_good limits s m g d = passed_good s m g (passes limits s m g d)

-- ---- a run
-- a text keeps all right, and so do texts one after another
pub text_good : (limits : Limits) (s : State) (text : List ℕ) (answer : Answer) (t : State) → Good s → AnswersText limits s text answer t
    → Good t
text_good limits s text answer t g (inl r) = subst Good (sym r.same) g
text_good limits s text answer t g (inr k) = by answer k.step
  where
    by : (a : Answer) → Step limits s k.message a t → Good t
    by Taken d = subst Good (sym d.1) (step_good limits s k.message g d.0)
    by (Refused r) d = subst Good (sym d.1) g

pub run_good : (limits : Limits) (s : State) (texts : List (List ℕ)) (answers : List Answer) (t : State) → Good s
    → Run limits s texts answers t → Good t
unfolding Run
run_good limits s [] [] t g r = subst Good (sym r) g
run_good limits s [] (answer ∷ answers) t g r = absurd r
run_good limits s (text ∷ texts) [] t g r = absurd r
run_good limits s (text ∷ texts) (answer ∷ answers) t g r
    = run_good limits r.0 texts answers t (text_good limits s text answer r.0 g r.1) r.2

-- ---- the other holders
-- from a holder's last moment on, what it has is what it has now
late_now : (s : State) (h : List ℕ) (t : ℤ) → Good s → IfSome (moment_of h s.last) (λ k. k ≤ℤ t) → map_at t h s ≡ map_now h s
late_now s h t g late = same_map (area_at t h s.areas) (area_of h s.areas) (parts_at t h s.versions) (parts_now h s.versions)
    (area_is_now s.last h t late s.areas g.areas_dated) (parts_are_now s.last h t late s.versions g.dated)

-- a message leaves the map of each other holder
pub others_stay : (s : State) (m : Message) → Good s → IsTaken s m → (h : List ℕ) → h ≢ m.holder → map_now h (after s m) ≡ map_now h s
others_stay s m g k h d = by (moment_of h s.last) refl
  where
    at : (t : ℤ) → IfSome (moment_of h s.last) (λ u. u ≤ℤ t) → map_now h (after s m) ≡ map_now h s
    at t late =
        let then : IfSome (moment_of h (after s m).last) (λ u. u ≤ℤ t)
        = subst (λ (o : Option ℤ). IfSome o (λ u. u ≤ℤ t)) (sym (moment_of_others m.holder h m.moment s.last d)) late in
        sym (late_now (after s m) h t (after_good s m g k) then)
        ∙ (same_map (area_at t h (after s m).areas) (area_at t h s.areas) (parts_at t h (after s m).versions) (parts_at t h s.versions)
        (areas_of_others m.holder m.moment t h m.area s.areas d)
        (parts_of_others s.versions m.holder m.moment m.mutations g.in_turn k.fine t h d)
        ∙ late_now s h t g late)

    by : (o : Option ℤ) → moment_of h s.last ≡ o → map_now h (after s m) ≡ map_now h s
    by None q = at (pos 0) (subst (λ (o : Option ℤ). IfSome o (λ u. u ≤ℤ pos 0)) (sym q) tt)
    by (Some t) q = at t (subst (λ (o : Option ℤ). IfSome o (λ u. u ≤ℤ t)) (sym q) (≤ℤ_refl t))

-- the change of a message that the rules of moments, mutations and areas let pass
pub change_right : (s : State) (m : Message) → Good s → stale_message s.last m ≡ None → stale_area s.areas m ≡ None
    → MutationsRule s.versions m [] m.mutations None
    → AreaRule s.areas m.holder m.area None → length (parts_now m.holder s.versions) + length (change_of m).coming < 2 ^ 32
    → IsRightChange (map_now m.holder s) (change_of m)
change_right s m g fresh early mutations area few =
    right_change s m g (all_once s.versions m [] m.mutations mutations) (all_fine s.versions m [] m.mutations mutations)
    (area_fine s.areas m m.area (area_passes s.areas m m.area (sym early) area)) few
