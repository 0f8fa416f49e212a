-- What is exported of the map that was loaded is what was loaded.
use Rattle.std.proofs.Common.{◌≡◌, ◌∙◌, ℕ, refl, sym, ap, inl, inr, List, [], ◌∷◌, map, subst}
use Rattle.std.specs.Prelude.{ℤ, filter, Some}
use Rattle.std.specs.Bool.{if◌then◌else◌}
use Rattle.std.specs.List.{Contains, flat_map}
use Rattle.std.specs.Str.{bytes_eq}
use Rattle.std.proofs.lemmas.List.Elements.{All-contains}
use Rattle.std.proofs.lemmas.List.Folds.{flat_map-map}
use Rattle.rd_plane.specs.Plane.{Vertex}
use Rattle.message_text.specs.declared.limits.Limits.{Limits}
use Rattle.message_text.specs.declared.message.Message.{Message}
use Rattle.message_text.specs.declared.message.Mutation.{Mutation}
use Rattle.message_text.specs.declared.message.Mutation.TheVariants.{Add}
use Rattle.version_history.specs.declared.version.Version.{Version}
use Rattle.version_history.specs.Moments.{holds_at, rising, versions_at}
use Rattle.version_history.specs.Versions.{is_current}
use Rattle.area_book.specs.Areas.{area_of}
use Rattle.map_rules.specs.Dated.{IsDated}
use Rattle.map_rules.specs.Good.{Good}
use Rattle.map_rules.specs.State.{State, area_at}
use Rattle.map_rules.proofs.Areas.{area_is_now}
use Rattle.map_rules.proofs.Lists.{kept-same}
use Rattle.map_rules.proofs.Moments.{holds_now}
use Rattle.map_rules.proofs.Objects.{not_later}
use Rattle.moment_query.specs.Exports.{Named, export_of, exported, holders_at, named, own_addition, own_shapes}
use Rattle.moment_query.specs.Queries.{areas_at}
use Rattle.export_law.proofs.AtMoment.{area_is, holds_same}
use Rattle.export_law.proofs.Building.{IsBuilt}
use Rattle.export_law.proofs.Holders.{has_area, has_object, holder_is, holders_rise}
use Rattle.export_law.proofs.Members.{in_map, out_map}
use Rattle.export_law.proofs.Rises.{one_rising}

abbrev Shapes : Type 0
Shapes = List (List (List Vertex))

-- ---- two states with the same at a moment
-- the same objects by name, and the same area of each holder
record AreSame (t : ℤ) (s new : State) : Type 0 where
  objects : map named (versions_at t s.versions) ≡ map named (versions_at t new.versions)
  areas : (h : List ℕ) → area_at t h s.areas ≡ area_at t h new.areas

turned : (t : ℤ) (s new : State) → AreSame t s new → AreSame t new s
turned t s new e = record { objects = sym e.objects; areas = λ h. sym (e.areas h) }

-- so the same holders have something
holders_go : (t : ℤ) (s new : State) → Good s → Good new → AreSame t s new → (h : List ℕ) → Contains (holders_at s t) h
    → Contains (holders_at new t) h
holders_go t s new g n e h c = elim (holder_is s t g h c) [
  | inl v ↦
      let at = subst (λ l. Contains l (named v.0)) e.objects (in_map named (versions_at t s.versions) v.0 v.1) in
      let w = out_map named (versions_at t new.versions) (named v.0) at in
      subst (Contains (holders_at new t)) (ap (λ (x : Named). x.holder) w.2 ∙ v.2) (has_object new t n w.0 w.1)
  | inr some ↦ elim (has_area new t n h) [ inl d ↦ d | inr none ↦ absurd (some (e.areas h ∙ none)) ]
]

-- an object that is the holder's, by its name, as a new object
abbrev addition_of : List ℕ → Named → List Mutation
addition_of h n = if bytes_eq n.holder h then Add n.ident n.item ∷ [] else []

additions_by_name : (h : List ℕ) (l : List Version) → flat_map (addition_of h) (map named l) ≡ flat_map (own_addition h) l
additions_by_name h l = flat_map-map (addition_of h) named l

abbrev message : List ℕ → ℤ → Shapes → List Mutation → Message
message h t shapes mutations = record { holder = h; moment = t; area = Some shapes; mutations = mutations }

-- and the same is exported of each
export_same : (t : ℤ) (s new : State) → Good s → Good new → AreSame t s new → (h : List ℕ) → export_of s t h ≡ export_of new t h
export_same t s new g n e h =
    let shapes : own_shapes h (areas_at t s.areas) ≡ own_shapes h (areas_at t new.areas) =
    area_is t h s.areas g.book.in_turn ∙ (e.areas h ∙ sym (area_is t h new.areas n.book.in_turn)) in
    let objects : flat_map (own_addition h) (versions_at t s.versions) ≡ flat_map (own_addition h) (versions_at t new.versions) =
    sym (additions_by_name h (versions_at t s.versions)) ∙ (ap (flat_map (addition_of h)) e.objects ∙ additions_by_name h
    (versions_at t new.versions)) in
    ap (λ (x : Shapes). message h t x (flat_map (own_addition h) (versions_at t s.versions))) shapes
    ∙ ap (message h t (own_shapes h (areas_at t new.areas))) objects

map_each : {X Y : Type 0} (f g : X → Y) (xs : List X) → ((x : X) → f x ≡ g x) → map f xs ≡ map g xs
map_each f g [] h = refl
map_each {Y = Y} f g (x ∷ xs) h = ap (λ (y : Y). y ∷ map f xs) (h x) ∙ ap (λ (l : List Y). g x ∷ l) (map_each f g xs h)

same_export : (t : ℤ) (s new : State) → Good s → Good new → AreSame t s new → exported s t ≡ exported new t
same_export t s new g n e =
    let holders = one_rising (λ (h : List ℕ). h) (holders_at s t) (holders_at new t) (holders_rise s t g) (holders_rise new t n)
    (holders_go t s new g n e) (holders_go t new s n g (turned t s new e)) in
    map_each (export_of s t) (export_of new t) (holders_at s t) (export_same t s new g n e) ∙ ap (map (export_of new t)) holders

-- ---- what was loaded
module _ (limits : Limits) (s : State) (t : ℤ) (new : State) (b : IsBuilt limits s t [] new) where
  good : Good new
  good = b.kept.sound.good

  -- at the moment just the current versions hold
  current_hold : filter (holds_at t) new.versions ≡ filter is_current new.versions
  current_hold = kept-same (holds_at t) is_current new.versions (λ v c.
      let d = All-contains (λ (x : Version). IsDated new.last x.holder x.since x.until) new.versions v good.dated c in
      let n = not_later new.last v.holder t (b.late v.holder) v.holder v.since v.until d refl in
      holds_same t v.since v.until ∙ holds_now t v.since v.until n.0 n.1)

  -- what was loaded is exported again
  pub exported_again : Good s
      → map named (rising (λ (v : Version). v.ident) (filter is_current new.versions)) ≡ map named (versions_at t s.versions)
      → ((h : List ℕ) → area_of h new.areas ≡ area_at t h s.areas) → exported new t ≡ exported s t
  exported_again g objects areas = same_export t new s good g (record {
    objects = ap (λ (l : List Version). map named (rising (λ (v : Version). v.ident) l)) current_hold ∙ objects;
    areas = λ h. area_is_now new.last h t (b.late h) new.areas good.areas_dated ∙ areas h;
  })
