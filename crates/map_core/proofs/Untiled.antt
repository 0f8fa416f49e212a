-- A message that is refused because its map is not tiled breaks no other rule.
use Rattle.std.proofs.Common.{◌≡◌, ◌∙◌, refl, ◌+◌, ◌++◌, ◌<◌, ◌≤◌, ◌^◌, ℕ, ℤ, List, [], ◌∷◌, length, Option, Some, None, Bool, true, false, sym, subst, arith, inl, inr}
use Rattle.std.specs.Prelude.{Result, Ok, Err, IfOk, count_by, filter, option_map}
use Rattle.std.specs.Option.{option_or}
use Rattle.std.proofs.lemmas.List.{length-map}
use Rattle.std.proofs.lemmas.List.Sums.{count_by-le-length, length-filter}
use Rattle.rd_plane.specs.Covering.{IsNoded, IsTiled}
use Rattle.rd_plane.specs.Plane.{Segment, Vertex}
use Rattle.rd_plane.specs.Rule.{Rule, ◌then◌, Is, when}
use Rattle.rd_plane.specs.declared.memory.NoMemory.{NoMemory}
use Rattle.imgeo_types.specs.declared.item.Item.{Item}
use Rattle.imgeo_types.specs.declared.fault.ItemFault.{ItemFault}
use Rattle.imgeo_types.specs.ItemRule.{item_fault}
use Rattle.message_text.specs.declared.limits.Limits.{Limits}
use Rattle.message_text.specs.declared.message.Header.{Header}
use Rattle.message_text.specs.declared.message.Message.{Message}
use Rattle.message_text.specs.declared.message.Mutation.{Mutation}
use Rattle.message_text.specs.declared.message.Mutation.TheVariants.{Add, Change, End}
use Rattle.message_text.specs.Limits.{IsValid}
use Rattle.area_book.specs.declared.version.AreaVersion.{AreaVersion}
use Rattle.area_book.specs.Areas.{newest_area}
use Rattle.version_history.specs.declared.version.Version.{Version}
use Rattle.version_history.specs.Versions.{current_of, last_of}
use Rattle.level_rules.specs.declared.item.LevelItem.{LevelItem}
use Rattle.local_check.specs.MapRules.{LevelRule, NodeRule}
use Rattle.local_check.specs.Maps.{HolderParts, changed, ground_of, is_ground}
use Rattle.map_rules.specs.declared.refusal.Refusal.{Refusal}
use Rattle.map_rules.specs.declared.refusal.Refusal.TheVariants as refusal
use Rattle.map_rules.specs.declared.refusal.FullName.{FullName}
use Rattle.map_rules.specs.declared.refusal.FullName.TheVariants.{Holders, Objects}
use Rattle.map_rules.specs.After.{after}
use Rattle.map_rules.specs.Rules.{begin_refusal, change_refusal, earlier, end_day_refusal, item_refusal, kind_refusal, not_later, AreaRule, MutationsRule, ShapeRule, SoundRule, TiledRule, full_holders, full_objects, has_twice, header_of, mutation_refusal, stale_area, stale_message}
use Rattle.map_rules.specs.State.{State, edges_of, is_object_of, map_now, moment_of, part_of}
use Rattle.map_rules.specs.Steps.{Decision}
use Rattle.map_rules.proofs.Items.{within}
use Rattle.map_rules.specs.Changes.{change_of}
use Rattle.local_check.specs.declared.change.Change.{Change as MapChange}
use Rattle.map_core.specs.declared.held.Held.{Held}
use Rattle.map_core.specs.declared.tried.Tried.{Tried}
use Rattle.map_core.specs.Maps.{now_in}
use Rattle.map_core.specs.Tried.{IsReady, next_state, state_of}
use Rattle.map_core.specs.Untiled.{IsUntiled}
use Rattle.map_core.proofs.Judging.{changed_is}

-- ---- rules that never say that a map is not tiled
abbrev IsOther : Option Refusal → Type 0
IsOther o = (e : Segment) → o ≡ Some (refusal.Tiled e) → ⊥

abbrev NeverTiled : Rule Refusal → Type 0
NeverTiled rule = (e : Segment) → rule (Some (refusal.Tiled e)) → ⊥

never_is : (o : Option Refusal) → IsOther o → NeverTiled (Is o)
never_is o h e q = h e (sym q)

never_then : (first second : Rule Refusal) → NeverTiled first → NeverTiled second → NeverTiled (first then second)
never_then first second h k e (inl q) = h e q
never_then first second h k e (inr q) = k e q.1

-- so a row that says so comes to its rest
beyond : (first second : Rule Refusal) (e : Segment) → NeverTiled first → (first then second) (Some (refusal.Tiled e))
    → first None × second (Some (refusal.Tiled e))
beyond first second e h (inl q) = absurd (h e q)
beyond first second e h (inr q) = q

other_none : IsOther None
other_none e q = cc

other_when : (test : Bool) (r : Refusal) (next : Option Refusal) → IsOther (Some r) → IsOther next → IsOther (when test r next)
other_when true r next h k = h
other_when false r next h k = k

-- ---- one mutation
other_item_fault : (at : ℕ) (o : Option ItemFault) (next : Option Refusal) → IsOther next
    → IsOther (option_or (option_map (refusal.Item at) o) next)
other_item_fault at None next h = h
other_item_fault at (Some f) next h = λ e q. cc

other_item : (header : Header) (at : ℕ) (item : Item) → IsOther (item_refusal header at item)
other_item header at item
    = other_item_fault at (item_fault item) (begin_refusal header at item) (other_when _ (refusal.Days at) None (λ e q. cc) other_none)

other_change : (header : Header) (at : ℕ) (was : ℤ) (next : Version → Option Refusal) → ((v : Version) → IsOther (next v))
    → (last current : Option Version)
    → IsOther (change_refusal header at was next last current)
other_change header at was next h last None = λ e q. cc
other_change header at was next h last (Some v)
    = other_when _ (refusal.Owner at v.holder) _ (λ e q. cc) (other_when _ (refusal.Was at v.since) (next v) (λ e q. cc) (h v))

other_mutation : (versions : List Version) (header : Header) (at : ℕ) (m : Mutation) → IsOther (mutation_refusal versions header at m)
other_mutation versions header at (Add ident item) =
    other_when _ (refusal.Prefix at) _ (λ e q. cc) (other_when _ (refusal.Known at) _ (λ e q. cc) (other_item header at item))
other_mutation versions header at (Change ident was item) =
    other_change header at was (kind_refusal header at item)
    (λ v. other_when _ (refusal.Kind at v.item.kind) _ (λ e q. cc) (other_item header at item))
    (last_of ident versions) (current_of ident versions)
other_mutation versions header at (End ident was day) =
    other_change header at was (end_day_refusal header at day) (λ v. other_when _ (refusal.Days at) None (λ e q. cc) other_none)
    (last_of ident versions) (current_of ident versions)

never_sound : (at : ℕ) (rings : List (List Vertex)) → NeverTiled (SoundRule at rings)
never_sound at rings e q = let same = q.2 in cc

never_shape : (at : ℕ) (m : Mutation) → NeverTiled (ShapeRule at m)
never_shape at (Add ident item) = never_sound at item.rings
never_shape at (Change ident was item) = never_sound at item.rings
never_shape at (End ident was day) = never_is None other_none

never_mutations : (versions : List Version) (m : Message) (before rest : List Mutation) → NeverTiled (MutationsRule versions m before rest)
unfolding MutationsRule
never_mutations versions m before [] = never_is None other_none
never_mutations versions m before (mutation ∷ rest) =
    let at = length before + 1 in
    let last = MutationsRule versions m (before ++ mutation ∷ []) rest in
    never_then (Is (when (has_twice before mutation) (refusal.Twice at) None))
    (Is (mutation_refusal versions (header_of m) at mutation) then ShapeRule at mutation then last)
    (never_is _ (other_when (has_twice before mutation) (refusal.Twice at) None (λ e q. cc) other_none))
    (never_then (Is (mutation_refusal versions (header_of m) at mutation)) (ShapeRule at mutation then last)
    (never_is _ (other_mutation versions (header_of m) at mutation))
    (never_then (ShapeRule at mutation) last (never_shape at mutation) (never_mutations versions m (before ++ mutation ∷ []) rest)))

-- ---- the other rules
other_not_later : (moment : ℤ) (kept : Option ℤ) → IsOther (not_later moment kept)
other_not_later moment None = other_none
other_not_later moment (Some k) = other_when _ (refusal.Stale k) None (λ e q. cc) other_none

other_earlier : (moment : ℤ) (kept : Option ℤ) → IsOther (earlier moment kept)
other_earlier moment None = other_none
other_earlier moment (Some k) = other_when _ (refusal.Stale k) None (λ e q. cc) other_none

other_stale_area : (areas : List AreaVersion) (m : Message) (area : Option (List (List (List Vertex)))) → m.area ≡ area
    → IsOther (stale_area areas m)
other_stale_area areas m None is = rw is (λ e q. cc)
other_stale_area areas m (Some shapes) is = rw is (other_earlier m.moment (newest_area areas))

never_area : (areas : List AreaVersion) (holder : List ℕ) (area : Option (List (List (List Vertex))))
    → NeverTiled (AreaRule areas holder area)
never_area areas holder None = never_is None other_none
never_area areas holder (Some shapes) = λ e q. let same = q.2 in cc

never_levels : (objects : List LevelItem) → NeverTiled (LevelRule refusal.Levels objects)
never_levels objects e q = let same = q.2 in cc

never_node : (edges : List Segment) → NeverTiled (NodeRule refusal.Node edges)
never_node edges e q = let same = q.2 in cc

-- ---- what is left
-- what the rules say before that of the tiling, and that the map is not tiled
pub record FoundUntiled (limits : Limits) (s : State) (m : Message) : Type 0 where
  pub mutations : MutationsRule s.versions m [] m.mutations None
  pub objects : None ≡ full_objects limits (after s m).versions m
  pub area : AreaRule s.areas m.holder m.area None
  pub noded : IsNoded (edges_of (map_now m.holder (after s m)))
  pub not_tiled : ¬ IsTiled (map_now m.holder (after s m)).area (ground_of (map_now m.holder (after s m)).parts)

pub found_untiled : (limits : Limits) (s : State) (m : Message) → IsUntiled limits s m → FoundUntiled limits s m
unfolding Decision
found_untiled limits s m (e, d) =
    let new : HolderParts = map_now m.holder (after s m) in
    let nodes : Rule Refusal = NodeRule refusal.Node (edges_of new) in
    let levels : Rule Refusal = LevelRule refusal.Levels new.parts in
    let area : Rule Refusal = AreaRule s.areas m.holder m.area in
    let objects : Rule Refusal = Is (full_objects limits (after s m).versions m) in
    let holders : Rule Refusal = Is (full_holders limits s.last m) in
    let mutations : Rule Refusal = MutationsRule s.versions m [] m.mutations in
    let block : Rule Refusal = Is (stale_area s.areas m) in
    let tiled : Rule Refusal = TiledRule new in
    let full : (which : FullName) (test : Bool) → IsOther (when test (refusal.Full which) None)
    = λ which test. other_when test (refusal.Full which) None (λ e q. cc) other_none in
    let a = beyond (Is (stale_message s.last m))
    (block then mutations then holders then objects then area then levels then nodes then tiled) e
    (never_is (stale_message s.last m) (other_not_later m.moment (moment_of m.holder s.last))) d in
    let b = beyond block (mutations then holders then objects then area then levels then nodes then tiled) e
    (never_is (stale_area s.areas m) (other_stale_area s.areas m m.area refl)) a.1 in
    let c = beyond mutations (holders then objects then area then levels then nodes then tiled) e
    (never_mutations s.versions m [] m.mutations) b.1 in
    let f = beyond holders (objects then area then levels then nodes then tiled) e
    (never_is (full_holders limits s.last m) (full Holders _)) c.1 in
    let g = beyond objects (area then levels then nodes then tiled) e
    (never_is (full_objects limits (after s m).versions m) (full Objects _)) f.1 in
    let h = beyond area (levels then nodes then tiled) e (never_area s.areas m.holder m.area) g.1 in
    let i = beyond levels (nodes then tiled) e (never_levels new.parts) h.1 in
    let j = beyond nodes tiled e (never_node (edges_of new)) i.1 in
    record { mutations = c.0; objects = g.0; area = h.0; noded = j.0; not_tiled = j.1.0 }

-- there are few ground parts
pub few_ground : (limits : Limits) (s : State) (m : Message) → IsValid limits → FoundUntiled limits s m
    → length (ground_of (map_now m.holder (after s m)).parts) < 2 ^ 32
few_ground limits s m valid f =
    let versions = (after s m).versions in
    let parts = (map_now m.holder (after s m)).parts in
    let all : length parts ≤ limits.objects = subst (λ (n : ℕ). n ≤ limits.objects)
    (sym (length-map (filter (is_object_of m.holder) versions) part_of ∙ length-filter (is_object_of m.holder) versions))
    (within limits.objects (count_by (is_object_of m.holder) versions) (refusal.Full Objects) f.objects) in
    let ground : length (ground_of parts) ≡ count_by is_ground parts
    = length-map (filter is_ground parts) (λ (p : LevelItem). p.shape) ∙ length-filter is_ground parts in
    omega (arith, all, ground, count_by-le-length is_ground parts, valid.objects.1)

-- the map that the message's change makes of the one that is held is that of the next state
pub made_is : (held : Held) (t : Option Tried) (m : Message) (change : MapChange) → option_map (next_state held) t ≡ None → IsReady held t
    → change ≡ change_of m
    → map_now m.holder (after (state_of held) m) ≡ changed (change_of m) (map_now m.holder (state_of held))
    → changed change (now_in held.maps m.holder) ≡ map_now m.holder (after (state_of held) m)
made_is held (Some t) m change none ready is after_is = cc
made_is held None m change none ready is after_is
    = changed_is (state_of held) m (now_in held.maps m.holder) change (ready.1.now m.holder) after_is is

-- what holds of the map holds of the area and the parts that are given of it
pub map_ok : (m : HolderParts) (Q : List (List (List Vertex)) → List (List (List Vertex)) → Type 0)
    (result : Result (List (List (List Vertex)) × List (List (List Vertex))) NoMemory)
    → IfOk result (λ r. r.0 ≡ m.area) → IfOk result (λ r. r.1 ≡ ground_of m.parts) → Q m.area (ground_of m.parts)
    → IfOk result (λ r. Q r.0 r.1)
map_ok m Q (Ok r) a p q = subst (λ x. Q x r.1) (sym a) (subst (λ x. Q m.area x) (sym p) q)
map_ok m Q (Err e) a p q = tt
