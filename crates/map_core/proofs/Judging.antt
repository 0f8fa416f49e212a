-- What the rules before that of the map give it to work on.
use Rattle.std.proofs.Common.{◌≡◌, ◌∙◌, ◌+◌, ◌*◌, ◌<◌, ◌≤◌, ◌^◌, ◌++◌, ◌∷◌, ℕ, List, [], length, Option, Some, None, ap, sym, subst, arith, length-append}
use Rattle.std.specs.Prelude.{IfNone, MatchOption, count_by, filter}
use Rattle.std.specs.List.{All, flat_map}
use Rattle.std.proofs.lemmas.List.{length-map}
use Rattle.std.proofs.lemmas.List.Sums.{length-filter}
use Rattle.rd_plane.specs.Covering.{IsSoundArea}
use Rattle.rd_plane.specs.Plane.{Vertex}
use Rattle.rd_plane.specs.Rule.{Is}
use Rattle.rd_plane.specs.Shapes.{IsSoundShape}
use Rattle.message_text.specs.declared.limits.Limits.{Limits}
use Rattle.message_text.specs.declared.message.Message.{Message}
use Rattle.message_text.specs.Limits.{IsValid}
use Rattle.version_history.specs.declared.version.Version.{Version}
use Rattle.message_text.specs.declared.message.Mutation.{Mutation}
use Rattle.message_text.specs.declared.message.Mutation.TheVariants.{Add, Change as Alter, End}
use Rattle.level_rules.specs.declared.item.LevelItem.{LevelItem}
use Rattle.local_check.specs.declared.change.Change.{Change}
use Rattle.local_check.specs.Borders.{edges_in, edges_out}
use Rattle.local_check.specs.Maps.{HolderParts, IsRightChange, changed, ground_of, staying}
use Rattle.map_rules.specs.declared.refusal.Refusal.{Refusal}
use Rattle.map_rules.specs.declared.refusal.Refusal.TheVariants as refusal
use Rattle.map_rules.specs.declared.refusal.FullName.TheVariants.{Objects}
use Rattle.map_rules.specs.After.{after}
use Rattle.map_rules.specs.Changes.{change_of, coming_by, leaving_by, with_mutations}
use Rattle.map_rules.specs.Costs.{edges_changed}
use Rattle.map_rules.specs.Good.{Good, IsSound}
use Rattle.map_rules.specs.Rules.{AreaRule, MapRules, MutationsRule, full_holders, full_objects, stale_area, stale_message}
use Rattle.map_rules.specs.State.{State, is_object_of, map_now, part_of, parts_now}
use Rattle.map_rules.specs.Steps.{Decision}
use Rattle.map_rules.proofs.Items.{within}
use Rattle.map_core.proofs.Deciding.{Leads, alone, both, first, next, passed, same_rule, so, still}
use Rattle.map_core.specs.Row.{Further, IsTryable}

-- the rules before that of the map found nothing
pub record FoundNothing (limits : Limits) (s : State) (m : Message) : Type 0 where
  pub fresh : stale_message s.last m ≡ None
  pub early : stale_area s.areas m ≡ None
  pub mutations : MutationsRule s.versions m [] m.mutations None
  pub objects : None ≡ full_objects limits (after s m).versions m
  pub area : AreaRule s.areas m.holder m.area None

module _ (limits : Limits) (s : State) (m : Message) (then : map_now m.holder (after s m) ≡ changed (change_of m) (map_now m.holder s))
  where
    -- how many objects the holder has then
    counted : None ≡ full_objects limits (after s m).versions m → length (map_now m.holder (after s m)).parts ≤ limits.objects
    counted e = subst (λ (n : ℕ). n ≤ limits.objects)
        (sym (length-map (filter (is_object_of m.holder) (after s m).versions) part_of ∙ length-filter (is_object_of m.holder)
        (after s m).versions))
        (within limits.objects (count_by (is_object_of m.holder) (after s m).versions) (refusal.Full Objects) e)

    few : IsSound limits s → IsValid limits → None ≡ full_objects limits (after s m).versions m
        → length (parts_now m.holder s.versions) + length (change_of m).coming < 2 ^ 32
    few sound valid e =
        let before = sound.few m.holder in
        let behind : length (map_now m.holder (after s m)).parts ≡ length (staying (change_of m).leaving (map_now m.holder s).parts) + length
        (change_of m).coming =
        ap (λ (x : HolderParts). length x.parts) then ∙ length-append (staying (change_of m).leaving (map_now m.holder s).parts)
        (change_of m).coming in
        omega (arith, before, behind, counted e, valid.objects.1)

    pub tryable : (Good s → stale_message s.last m ≡ None → stale_area s.areas m ≡ None → MutationsRule s.versions m [] m.mutations None
        → AreaRule s.areas m.holder m.area None → length (parts_now m.holder s.versions) + length (change_of m).coming < 2 ^ 32
        → IsRightChange (map_now m.holder s) (change_of m))
        → (Good s → MutationsRule s.versions m [] m.mutations None → AreaRule s.areas m.holder m.area None
        → IsSoundArea (map_now m.holder (after s m)).area × All IsSoundShape (ground_of (map_now m.holder (after s m)).parts))
        → IsSound limits s → IsValid limits → FoundNothing limits s m → IsTryable s m
    tryable right shapes sound valid n =
        let made = subst (λ (x : HolderParts). IsSoundArea x.area × All IsSoundShape (ground_of x.parts)) then
        (shapes sound.good n.mutations n.area) in
        record {
          change = right sound.good n.fresh n.early n.mutations n.area (few sound valid n.objects);
          area = made.0;
          sound = made.1;
        }

-- ---- the objects that the holder has then, by those that its map has counted
few_come : (ms : List Mutation) → length (flat_map coming_by ms) ≤ length ms
few_come [] = omega arith
few_come (Add i item ∷ ms) = omega (arith, few_come ms)
few_come (Alter i was item ∷ ms) = omega (arith, few_come ms)
few_come (End i was day ∷ ms) = omega (arith, few_come ms)

-- the change is that of the mutations
pub record IsChangeBy (m : Message) (change : Change) : Type 0 where
  pub leaving : change.leaving ≡ flat_map leaving_by m.mutations
  pub coming : change.coming ≡ flat_map coming_by m.mutations

pub by_mutations : (m : Message) (none change : Change) → none ≡ record { area = None; leaving = []; coming = [] }
    → change ≡ with_mutations m.mutations none → IsChangeBy m change
by_mutations m none change e f = record {
  leaving = ap (λ (x : Change). x.leaving) f ∙ ap (λ (x : Change). x.leaving ++ flat_map leaving_by m.mutations) e;
  coming = ap (λ (x : Change). x.coming) f ∙ ap (λ (x : Change). x.coming ++ flat_map coming_by m.mutations) e;
}

module _ (s : State) (m : Message) (now : HolderParts) (change : Change) (is : now ≡ map_now m.holder s) (by : IsChangeBy m change) where
  pub objects_then : (versions : List Version) → versions ≡ (after s m).versions
      → length (parts_now m.holder (after s m).versions) + length (change_of m).leaving ≡ length (parts_now m.holder s.versions) + length
      (change_of m).coming
      → count_by (is_object_of m.holder) versions + length change.leaving ≡ length now.parts + length change.coming
  objects_then versions e counted =
      let all : length (parts_now m.holder (after s m).versions) ≡ count_by (is_object_of m.holder) (after s m).versions =
      length-map (filter (is_object_of m.holder) (after s m).versions) part_of ∙ length-filter (is_object_of m.holder) (after s m).versions
      in
      omega (
        arith,
        ap (λ (vs : List Version). count_by (is_object_of m.holder) vs) e,
        all,
        counted,
        ap (λ (x : HolderParts). length x.parts) is,
        ap (λ (xs : List (List ℕ)). length xs) by.leaving,
        ap (λ (xs : List LevelItem). length xs) by.coming,
      )

  pub few_objects : (limits : Limits) → IsSound limits s → IsValid limits → length m.mutations < 2 ^ 32
      → length now.parts + length change.coming < 2 ^ 64
  few_objects limits sound valid few =
      let before : length (parts_now m.holder s.versions) ≤ limits.objects = sound.few m.holder in
      omega (
        arith,
        before,
        valid.objects.1,
        few,
        few_come m.mutations,
        ap (λ (x : HolderParts). length x.parts) is,
        ap (λ (xs : List LevelItem). length xs) by.coming,
      )

-- ---- the row up to the rule of the map
-- what each rule up to there found
pub record IsRow (limits : Limits) (s : State) (m : Message) (f1 f2 f3 f4 f5 f6 : Option Refusal) : Type 0 where
  pub versions : List Version
  pub message : Is (stale_message s.last m) f1
  pub block : Further f1 (Is (stale_area s.areas m)) f2
  pub mutations : Further f2 (MutationsRule s.versions m [] m.mutations) f3
  pub holders : Further f3 (Is (full_holders limits s.last m)) f4
  pub applied : IfNone f3 (versions ≡ (after s m).versions)
  pub objects : Further f4 (Is (full_objects limits versions m)) f5
  pub area : Further f5 (AreaRule s.areas m.holder m.area) f6

module _ (limits : Limits) (s : State) (m : Message) (f1 f2 f3 f4 f5 f6 : Option Refusal) (row : IsRow limits s m f1 f2 f3 f4 f5 f6) where
  -- what held where nothing was found by the mutations holds where nothing was found up to the map
  pub up : (P : Type 0) → IfNone f3 P → IfNone f6 P
  up P h = still P _ f5 f6 row.area (still P _ f4 f5 row.objects (still P _ f3 f4 row.holders h))

  pub counted_objects : Further f4 (Is (full_objects limits (after s m).versions m)) f5
  counted_objects
      = same_rule _ _ (λ (l : List Version). Is (full_objects limits l m)) f4 f5 (still _ _ f3 f4 row.holders row.applied) row.objects

  pub found_nothing : IfNone f6 (FoundNothing limits s m)
  found_nothing =
      let moments = still _ _ f2 f3 row.mutations
      (both _ _ f2 (still _ _ f1 f2 row.block (alone (Is (stale_message s.last m)) f1 row.message))
      (passed (Is (stale_area s.areas m)) f1 f2 row.block)) in
      let ruled = both _ _ f3 moments (passed (MutationsRule s.versions m [] m.mutations) f2 f3 row.mutations) in
      let counted = still _ _ f5 f6 row.area (passed (Is (full_objects limits (after s m).versions m)) f4 f5 counted_objects) in
      let areas = passed (AreaRule s.areas m.holder m.area) f5 f6 row.area in
      so _ _ f6 (λ h. record { fresh = sym h.0.0.0; early = sym h.0.0.1; mutations = h.0.1; objects = h.1.0; area = h.1.1 })
      (both _ _ f6 (up _ ruled) (both _ _ f6 counted areas))

  -- the row so far leads to the rules of the map
  pub leads : Leads f6 (MapRules (map_now m.holder (after s m))) (Decision limits s m)
  unfolding Decision
  leads = next _ _ _ f5 f6 (next _ _ _ f4 f5 (next _ _ _ f3 f4 (next _ _ _ f2 f3 (next _ _ _ f1 f2
      (first (Is (stale_message s.last m)) _ f1 row.message) row.block) row.mutations) row.holders) counted_objects) row.area

-- the change that the rules gathered is that of the message
pub change_is : (m : Message) (none mid last : Change) → none ≡ record { area = None; leaving = []; coming = [] }
    → mid ≡ with_mutations m.mutations none
    → last ≡ record mid { area = m.area } → last ≡ change_of m
change_is m none mid last e f g
    = g ∙ (ap (λ (x : Change). with_area x m.area) f ∙ ap (λ (x : Change). with_area (with_mutations m.mutations x) m.area) e)
  where
    with_area : Change → Option (List (List (List Vertex))) → Change
    with_area change area = record change { area = area }

-- such a change of the map that the holder has may be tried
pub as_tryable : (s : State) (m : Message) (now : HolderParts) (change : Change) → now ≡ map_now m.holder s → change ≡ change_of m
    → IsTryable s m
    → IsRightChange now change × IsSoundArea (changed change now).area × All IsSoundShape (ground_of (changed change now).parts)
as_tryable s m now change e f t =
    subst (λ (x : HolderParts). IsRightChange x change × IsSoundArea (changed change x).area
    × All IsSoundShape (ground_of (changed change x).parts)) (sym e)
    (subst (λ (c : Change). IsRightChange (map_now m.holder s) c × IsSoundArea (changed c (map_now m.holder s)).area × All
    IsSoundShape (ground_of (changed c (map_now m.holder s)).parts)) (sym f)
    (t.change, t.area, t.sound))

pub changed_is : (s : State) (m : Message) (now : HolderParts) (change : Change) → now ≡ map_now m.holder s
    → map_now m.holder (after s m) ≡ changed (change_of m) (map_now m.holder s)
    → change ≡ change_of m → changed change now ≡ map_now m.holder (after s m)
changed_is s m now change e then f = ap (λ (c : Change). changed c now) f ∙ (ap (changed (change_of m)) e ∙ sym then)

-- what the rule of the map costs, where it is asked, is paid by the message
pub paid : (s : State) (m : Message) (found : Option Refusal) (now : HolderParts) (change : Change) (old new : ℕ) → now ≡ map_now m.holder s
    → IfNone found (change ≡ change_of m)
    → MatchOption found (new ≤ old + 12 * (edges_out change now + edges_in change)) (λ r. new ≡ old) → new ≤ old + 12 * edges_changed s m
paid s m None now change old new e f h =
    subst (λ (c : Change). new ≤ old + 12 * (edges_out c (map_now m.holder s) + edges_in c)) f
    (subst (λ (x : HolderParts). new ≤ old + 12 * (edges_out change x + edges_in change)) e h)
paid s m (Some r) now change old new e f h = omega (arith, h)
