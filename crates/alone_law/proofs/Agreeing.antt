-- What two states that agree on a holder show of it, and that one message keeps them so.
use Rattle.std.proofs.Common.{◌≡◌, ℕ, refl, sym, ap, ◌∙◌, inl, inr, List, [], ◌∷◌, ◌++◌, map}
use Rattle.std.specs.Prelude.{ℤ, true, false, Bool, ◌||◌, ◌≢◌, count_by, filter, Option, Some, None, is_none, option_map, unwrap_or}
use Rattle.std.specs.List.{flat_map}
use Rattle.std.specs.Str.{bytes_eq}
use Rattle.std.proofs.lemmas.Bool.{cases_Bool, and_parts, both_ways}
use Rattle.std.proofs.lemmas.List.Elements.{filter-append}
use Rattle.std.proofs.lemmas.Slice.Eq.{bytes_eq-Decides}
use Rattle.rd_plane.specs.Plane.{Vertex}
use Rattle.imgeo_types.specs.Fields.{holder_of}
use Rattle.message_text.specs.declared.message.Message.{Message}
use Rattle.message_text.specs.declared.message.Mutation.{Mutation}
use Rattle.version_history.specs.declared.version.Version.{Version}
use Rattle.version_history.specs.Versions.{current_of, has_ident, is_current, is_current_of, last_of}
use Rattle.map_rules.specs.declared.last.LastMessage.{LastMessage}
use Rattle.map_rules.specs.After.{after, areas_after, begun, last_after, touched_by, versions_after}
use Rattle.map_rules.specs.State.{State, area_at, holds_at, is_area_at, is_object_at, is_object_of, map_now, moment_of, part_of, parts_at, parts_now}
use Rattle.area_book.specs.declared.version.AreaVersion.{AreaVersion}
use Rattle.area_book.specs.Areas.{area_ended, area_of, is_area_of, new_area}
use Rattle.area_book.proofs.Setting.{same_holder}
use Rattle.map_rules.proofs.Dating.{moment_after, moment_of_others}
use Rattle.map_rules.proofs.Taken.{same_map}
use Rattle.map_rules.proofs.Touching.{touched-holder, touched-ident}
use Rattle.alone_law.specs.Agreeing.{AgreeOn, concerns, is_area_version}
use Rattle.alone_law.specs.Replaying.{LookAlike, is_version_of}
use Rattle.alone_law.proofs.Filters.{filter-map, same-count, same-filter, same-find, same-find_last}

abbrev Shapes : Type 0
Shapes = List (List (List Vertex))

pub agree_itself : (h : List ℕ) (s : State) → AgreeOn h s s
agree_itself h s = record { versions = refl; areas = refl; last = refl }

pub agree_back : (h : List ℕ) (s t : State) → AgreeOn h s t → AgreeOn h t s
agree_back h s t a = record { versions = sym a.versions; areas = sym a.areas; last = sym a.last }

pub agree_then : (h : List ℕ) (s t u : State) → AgreeOn h s t → AgreeOn h t u → AgreeOn h s u
agree_then h s t u a b = record { versions = a.versions ∙ b.versions; areas = a.areas ∙ b.areas; last = a.last ∙ b.last }

-- ---- what is narrower
or_first : (a b : Bool) → a ≡ true → (a || b) ≡ true
or_first a b e = ap (λ (x : Bool). x || b) e

or_second : (a b : Bool) → b ≡ true → (a || b) ≡ true
or_second true b e = refl
or_second false b e = e

pub own_concerns : (h : List ℕ) (v : Version) → bytes_eq v.holder h ≡ true → concerns h v ≡ true
own_concerns h v e = or_second (bytes_eq (holder_of v.ident) h) (bytes_eq v.holder h) e

code_concerns : (h : List ℕ) (v : Version) → bytes_eq (holder_of v.ident) h ≡ true → concerns h v ≡ true
code_concerns h v e = or_first (bytes_eq (holder_of v.ident) h) (bytes_eq v.holder h) e

-- an identification with the holder's code
ident_concerns : (h ident : List ℕ) → holder_of ident ≡ h → (v : Version) → has_ident ident v ≡ true → concerns h v ≡ true
ident_concerns h ident q v e = code_concerns h v
    ((bytes_eq-Decides (holder_of v.ident) h).1 (ap (λ (i : List ℕ). holder_of i) ((bytes_eq-Decides v.ident ident).0 e) ∙ q))

module _ (h : List ℕ) (s t : State) (a : AgreeOn h s t) where
  pub same_current : (ident : List ℕ) → holder_of ident ≡ h → current_of ident s.versions ≡ current_of ident t.versions
  same_current ident q = same-find (is_current_of ident) (concerns h)
      (λ v e. ident_concerns h ident q v (and_parts (has_ident ident v) (is_current v) e).0) s.versions t.versions a.versions

  pub same_last : (ident : List ℕ) → holder_of ident ≡ h → last_of ident s.versions ≡ last_of ident t.versions
  same_last ident q = same-find_last (has_ident ident) (concerns h) (ident_concerns h ident q) s.versions t.versions a.versions

  pub same_objects : count_by (is_object_of h) s.versions ≡ count_by (is_object_of h) t.versions
  same_objects = same-count (is_object_of h) (concerns h) (λ v e. own_concerns h v (and_parts (bytes_eq v.holder h) (is_current v) e).0)
      s.versions t.versions a.versions

  same_parts : parts_now h s.versions ≡ parts_now h t.versions
  same_parts = ap (λ (l : List Version). map part_of l) (same-filter (is_object_of h) (concerns h)
      (λ v e. own_concerns h v (and_parts (bytes_eq v.holder h) (is_current v) e).0) s.versions t.versions a.versions)

  same_parts_at : (moment : ℤ) → parts_at moment h s.versions ≡ parts_at moment h t.versions
  same_parts_at moment = ap (λ (l : List Version). map part_of l) (same-filter (is_object_at moment h) (concerns h)
      (λ v e. own_concerns h v (and_parts (bytes_eq v.holder h) (holds_at moment v.since v.until) e).0) s.versions t.versions
      a.versions)

  same_area : area_of h s.areas ≡ area_of h t.areas
  same_area = ap (λ (o : Option AreaVersion). unwrap_or (option_map (λ (x : AreaVersion). x.shapes) o) []) (same-find (is_area_of h)
      (is_area_version h) (λ x e. (and_parts (bytes_eq x.holder h) (is_none x.until) e).0) s.areas t.areas a.areas)

  same_area_at : (moment : ℤ) → area_at moment h s.areas ≡ area_at moment h t.areas
  same_area_at moment
      = ap (λ (o : Option AreaVersion). unwrap_or (option_map (λ (x : AreaVersion). x.shapes) o) []) (same-find (is_area_at moment h)
      (is_area_version h) (λ x e. (and_parts (bytes_eq x.holder h) (holds_at moment x.since x.until) e).0) s.areas t.areas a.areas)

  pub same_now : map_now h s ≡ map_now h t
  same_now = same_map (area_of h s.areas) (area_of h t.areas) (parts_now h s.versions) (parts_now h t.versions) same_area same_parts

  pub look_alike : LookAlike h s t
  look_alike = record {
    maps = λ moment. same_map (area_at moment h s.areas) (area_at moment h t.areas) (parts_at moment h s.versions)
        (parts_at moment h t.versions) (same_area_at moment) (same_parts_at moment);
    versions = same-filter (is_version_of h) (concerns h) (own_concerns h) s.versions t.versions a.versions;
    areas = a.areas;
  }

-- ---- one message
pub touched-concerns : (h : List ℕ) (moment : ℤ) (ms : List Mutation) (v : Version) → concerns h (touched_by moment ms v) ≡ concerns h v
touched-concerns h moment ms v = ap (λ (i : List ℕ). bytes_eq (holder_of i) h || bytes_eq (touched_by moment ms v).holder h)
    (touched-ident moment ms v) ∙ ap (λ (o : List ℕ). bytes_eq (holder_of v.ident) h || bytes_eq o h) (touched-holder moment ms v)

versions_then : (h holder : List ℕ) (moment : ℤ) (ms : List Mutation) (vs : List Version)
    → filter (concerns h) (versions_after holder moment ms vs) ≡ map (touched_by moment ms) (filter (concerns h) vs) ++ filter (concerns h)
    (flat_map (begun holder moment) ms)
versions_then h holder moment ms vs = filter-append (concerns h) (map (touched_by moment ms) vs) (flat_map (begun holder moment) ms)
    ∙ ap (λ (l : List Version). l ++ filter (concerns h) (flat_map (begun holder moment) ms))
    (filter-map (concerns h) (touched_by moment ms) (touched-concerns h moment ms) vs)

pub ended-version : (h holder : List ℕ) (moment : ℤ) (x : AreaVersion)
    → is_area_version h (area_ended holder moment x) ≡ is_area_version h x
ended-version h holder moment x = ap (λ (o : List ℕ). bytes_eq o h) (same_holder holder moment x)

areas_then : (h holder : List ℕ) (moment : ℤ) (shapes : Shapes) (areas : List AreaVersion)
    → filter (is_area_version h) (areas_after holder moment (Some shapes) areas) ≡ map (area_ended holder moment)
    (filter (is_area_version h) areas) ++ filter (is_area_version h) (new_area holder moment shapes ∷ [])
areas_then h holder moment shapes areas
    = filter-append (is_area_version h) (map (area_ended holder moment) areas) (new_area holder moment shapes ∷ [])
    ∙ ap (λ (l : List AreaVersion). l ++ filter (is_area_version h) (new_area holder moment shapes ∷ []))
    (filter-map (is_area_version h) (area_ended holder moment) (ended-version h holder moment) areas)

same_areas_then : (h holder : List ℕ) (moment : ℤ) (area : Option Shapes) (xs ys : List AreaVersion)
    → filter (is_area_version h) xs ≡ filter (is_area_version h) ys
    → filter (is_area_version h) (areas_after holder moment area xs) ≡ filter (is_area_version h) (areas_after holder moment area ys)
same_areas_then h holder moment None xs ys e = e
same_areas_then h holder moment (Some shapes) xs ys e = areas_then h holder moment shapes xs
    ∙ ap (λ (l : List AreaVersion). map (area_ended holder moment) l ++ filter (is_area_version h) (new_area holder moment shapes ∷ []))
    e ∙ sym (areas_then h holder moment shapes ys)

same_moment_then : (h holder : List ℕ) (moment : ℤ) (xs ys : List LastMessage) → moment_of h xs ≡ moment_of h ys
    → moment_of h (last_after holder moment xs) ≡ moment_of h (last_after holder moment ys)
same_moment_then h holder moment xs ys e = elim (cases_Bool (bytes_eq holder h)) [
  | inl k ↦ let q : holder ≡ h = (bytes_eq-Decides holder h).0 k in own h q
  | inr k ↦ let d : h ≢ holder = λ q. both_ways (bytes_eq holder h) k ((bytes_eq-Decides holder h).1 (sym q)) in moment_of_others holder h
      moment xs d ∙ e ∙ sym (moment_of_others holder h moment ys d)
]
  where
    own : (g : List ℕ) → holder ≡ g → moment_of g (last_after holder moment xs) ≡ moment_of g (last_after holder moment ys)
    own g q = ap (λ (i : List ℕ). moment_of i (last_after holder moment xs)) (sym q) ∙ moment_after holder moment
        xs ∙ sym (moment_after holder moment ys) ∙ ap (λ (i : List ℕ). moment_of i (last_after holder moment ys)) q

pub agree_after : (h : List ℕ) (s t : State) (m : Message) → AgreeOn h s t → AgreeOn h (after s m) (after t m)
agree_after h s t m a = record {
  versions = versions_then h m.holder m.moment m.mutations s.versions ∙ ap (λ (l : List Version). map (touched_by m.moment m.mutations)
      l ++ filter (concerns h) (flat_map (begun m.holder m.moment) m.mutations))
      a.versions ∙ sym (versions_then h m.holder m.moment m.mutations t.versions);
  areas = same_areas_then h m.holder m.moment m.area s.areas t.areas a.areas;
  last = same_moment_then h m.holder m.moment s.last t.last a.last;
}
