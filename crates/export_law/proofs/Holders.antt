-- The holders of which something is exported: all that have something, each once, and no more than may be.
use Rattle.std.proofs.Common.{◌≡◌, ◌≢◌, ◌∙◌, ◌≤◌, ℕ, refl, sym, ap, arith, inl, inr, List, [], ◌∷◌, ◌++◌, length, map, subst}
use Rattle.std.specs.Prelude.{ℤ, ◌≢◌, nat_lt, true, Bool, ◌⊎◌, filter, Some, None, option_map}
use Rattle.std.specs.List.{AllPairs, Contains}
use Rattle.std.specs.Str.{bytes_eq}
use Rattle.std.proofs.lemmas.Bool.{both_ways}
use Rattle.std.proofs.lemmas.List.{length-map}
use Rattle.std.proofs.lemmas.List.Elements.{All-contains, Contains-append_cases, Contains-append_left, Contains-append_right}
use Rattle.std.proofs.lemmas.Slice.Eq.{bytes_eq-Decides}
use Rattle.rd_plane.specs.Plane.{Vertex}
use Rattle.message_text.specs.declared.limits.Limits.{Limits}
use Rattle.version_history.specs.declared.version.Version.{Version}
use Rattle.version_history.specs.Moments.{has_lower, holds, rising, versions_at}
use Rattle.area_book.specs.declared.version.AreaVersion.{AreaVersion}
use Rattle.map_rules.specs.declared.last.LastMessage.{LastMessage}
use Rattle.map_rules.specs.Dated.{IsDated, IsDatedArea}
use Rattle.map_rules.specs.Good.{Good}
use Rattle.map_rules.specs.State.{State, area_at, moment_of}
use Rattle.moment_query.specs.Exports.{holders_at, is_own_area, own_shapes, shapes_or_none}
use Rattle.moment_query.specs.Queries.{areas_at}
use Rattle.export_law.specs.Kept.{IsKept}
use Rattle.export_law.proofs.Members.{Search, in_filter, in_map, no_more, out_filter, out_map, search_of}
use Rattle.export_law.proofs.Members.Search.{hit, missed}
use Rattle.export_law.proofs.AtMoment.{area_is, at_is, held_is}
use Rattle.export_law.proofs.Reordered.{from_order, into_order}
use Rattle.export_law.proofs.Rises.{from_once, into_once, once_differ, once_rises, rising_climbs, Rises}

-- a holder with a last moment is one of those that have one
abbrev holder_in : LastMessage → List ℕ
holder_in l = l.holder

has_last : (last : List LastMessage) (h : List ℕ) (u : ℤ) → moment_of h last ≡ Some u → Contains (map holder_in last) h
has_last last h u e = by (search_of (λ (l : LastMessage). bytes_eq l.holder h) last)
  where
    by : Search (λ (l : LastMessage). bytes_eq l.holder h) last → Contains (map holder_in last) h
    by (missed q n) = let f : moment_of h last ≡ None = ap (option_map (λ (l : LastMessage). l.moment)) q in cc
    by (hit l q c t) = subst (Contains (map holder_in last)) ((bytes_eq-Decides l.holder h).0 t) (in_map holder_in last l c)

some_first : {X : Type 0} (x : X) (xs : List X) → nat_lt 0 (length (x ∷ xs)) ≡ true
some_first x xs = grind arith

module _ (s : State) (t : ℤ) (g : Good s) where
  abbrev has_shape : AreaVersion → Bool
  has_shape a = nat_lt 0 (length a.shapes)

  abbrev of_areas : List (List ℕ)
  of_areas = map (λ (a : AreaVersion). a.holder) (filter has_shape (areas_at t s.areas))

  abbrev of_objects : List (List ℕ)
  of_objects = map (λ (v : Version). v.holder) (versions_at t s.versions)

  abbrev itself : List ℕ → List ℕ
  itself h = h

  among : (h : List ℕ) → Contains (of_areas ++ of_objects) h → Contains (holders_at s t) h
  among h c = into_once (rising itself (of_areas ++ of_objects)) h (into_order (has_lower itself) (of_areas ++ of_objects) h c)

  one_of : (h : List ℕ) → Contains (holders_at s t) h → Contains (of_areas ++ of_objects) h
  one_of h c = from_order (has_lower itself) (of_areas ++ of_objects) h (from_once (rising itself (of_areas ++ of_objects)) h c)

  pub holders_rise : Rises itself (holders_at s t)
  holders_rise = once_rises (rising itself (of_areas ++ of_objects)) (rising_climbs itself (of_areas ++ of_objects))

  pub holders_differ : AllPairs (λ x y. x ≢ y) (holders_at s t)
  holders_differ = once_differ (rising itself (of_areas ++ of_objects)) (rising_climbs itself (of_areas ++ of_objects))

  -- each holder of an object is one of them
  pub has_object : (v : Version) → Contains (versions_at t s.versions) v → Contains (holders_at s t) v.holder
  has_object v c = among v.holder
      (Contains-append_right of_areas of_objects v.holder (in_map (λ (w : Version). w.holder) (versions_at t s.versions) v c))

  -- and each holder with an area that has a shape
  pub has_area : (h : List ℕ) → Contains (holders_at s t) h ⊎ (area_at t h s.areas ≡ [])
  has_area h = by (search_of (is_own_area h) (areas_at t s.areas))
    where
      is : own_shapes h (areas_at t s.areas) ≡ area_at t h s.areas
      is = area_is t h s.areas g.book.in_turn

      by : Search (is_own_area h) (areas_at t s.areas) → Contains (holders_at s t) h ⊎ (area_at t h s.areas ≡ [])
      by (missed e n) = inr (sym is ∙ ap shapes_or_none e)
      by (hit a e c o) = some a.shapes refl
        where
          some : (shapes : List (List (List Vertex))) → a.shapes ≡ shapes → Contains (holders_at s t) h ⊎ (area_at t h s.areas ≡ [])
          some [] q = inr (sym is ∙ (ap shapes_or_none e ∙ q))
          some (x ∷ xs) q =
              let kept = in_filter has_shape (areas_at t s.areas) a c (ap (λ l. nat_lt 0 (length l)) q ∙ some_first x xs) in
              let of = in_map (λ (b : AreaVersion). b.holder) (filter has_shape (areas_at t s.areas)) a kept in
              let one = among a.holder (Contains-append_left of_areas of_objects a.holder of) in
              inl (subst (Contains (holders_at s t)) ((bytes_eq-Decides a.holder h).0 o) one)

  -- and no others
  pub holder_is : (h : List ℕ) → Contains (holders_at s t) h
      → ((v : Version) × Contains (versions_at t s.versions) v × (v.holder ≡ h)) ⊎ (area_at t h s.areas ≢ [])
  holder_is h c = elim (Contains-append_cases of_areas of_objects h (one_of h c)) [
    | inr o ↦ inl (out_map (λ (v : Version). v.holder) (versions_at t s.versions) h o)
    | inl a ↦ inr (shaped (out_map (λ (b : AreaVersion). b.holder) (filter has_shape (areas_at t s.areas)) h a))
  ]
    where
      shaped : (a : AreaVersion) × Contains (filter has_shape (areas_at t s.areas)) a × (a.holder ≡ h) → area_at t h s.areas ≢ []
      shaped a e =
          let k = out_filter has_shape (areas_at t s.areas) a.0 a.1 in
          let none : a.0.shapes ≡ []
          = sym (held_is t s.areas a.0 g.book.in_turn k.0) ∙ (ap (λ (x : List ℕ). area_at t x s.areas) a.2 ∙ e) in
          both_ways (nat_lt 0 (length a.0.shapes)) (ap (λ l. nat_lt 0 (length l)) none) k.1

  -- each of them has a last moment
  last_of_area : (h : List ℕ) → Contains of_areas h → Contains (map holder_in s.last) h
  last_of_area h c =
      let a = out_map (λ (b : AreaVersion). b.holder) (filter has_shape (areas_at t s.areas)) h c in
      let held = (out_filter has_shape (areas_at t s.areas) a.0 a.1).0 in
      let before = from_order (has_lower (λ (b : AreaVersion). b.holder)) (filter (λ (b : AreaVersion). holds t b.since b.until) s.areas)
      a.0 held in
      let of = (out_filter (λ (b : AreaVersion). holds t b.since b.until) s.areas a.0 before).0 in
      let d = All-contains (IsDatedArea s.last) s.areas a.0 g.areas_dated of in
      subst (Contains (map holder_in s.last)) a.2 (has_last s.last a.0.holder d.moment d.is)

  last_of_object : (h : List ℕ) → Contains of_objects h → Contains (map holder_in s.last) h
  last_of_object h c =
      let v = out_map (λ (w : Version). w.holder) (versions_at t s.versions) h c in
      let d
      = All-contains (λ (w : Version). IsDated s.last w.holder w.since w.until) s.versions v.0 g.dated (at_is t s.versions v.0 v.1).0 in
      subst (Contains (map holder_in s.last)) v.2 (has_last s.last v.0.holder d.moment d.is)

  has_moment : (h : List ℕ) → Contains (holders_at s t) h → Contains (map holder_in s.last) h
  has_moment h c = elim (Contains-append_cases of_areas of_objects h (one_of h c)) [ inl a ↦ last_of_area h a | inr o ↦ last_of_object h o ]

  -- so they are no more than may be
  pub few_holders : (limits : Limits) → IsKept limits s → length (holders_at s t) ≤ limits.holders
  few_holders limits k =
      let fewer = no_more (holders_at s t) (map holder_in s.last) holders_differ has_moment in
      omega (arith, fewer, length-map s.last holder_in, k.few_holders)
