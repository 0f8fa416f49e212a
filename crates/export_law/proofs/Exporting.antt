-- What is exported of a holder: the objects that it had at the moment, and that its map of them is right.
use Rattle.std.proofs.Common.{◌≡◌, ◌≢◌, ◌∙◌, ◌<◌, ℕ, refl, sym, ap, arith, inl, inr, List, [], ◌∷◌, ◌++◌, get_or, length, map, subst}
use Rattle.std.specs.Prelude.{ℤ, true, false, Bool, ◌&&◌, cond, filter}
use Rattle.std.specs.List.{All, AllPairs, Contains, flat_map}
use Rattle.std.specs.List.Sorted.{IsPermutation}
use Rattle.std.specs.Str.{bytes_eq}
use Rattle.std.proofs.lemmas.List.Elements.{All-filter, Contains-get_or}
use Rattle.std.proofs.lemmas.List.Kept.{AllPairs-filter}
use Rattle.std.proofs.lemmas.List.Sorted.{All-permutation, Contains-permutation, IsPermutation-append_left, IsPermutation-map, IsPermutation-sym}
use Rattle.std.proofs.lemmas.List.Sorted.{length_permutation, sum_by-IsPermutation}
use Rattle.rd_plane.specs.Covering.{Cancels, IsNoded, border, times}
use Rattle.rd_plane.specs.Plane.{Segment, Vertex, reversed, same_segment}
use Rattle.rd_plane.specs.Shapes.{IsSoundShape, all_edges, shape_edges}
use Rattle.chain_cancel.proofs.Coverage.{cancel-tiled}
use Rattle.level_rules.specs.declared.item.LevelItem.{LevelItem}
use Rattle.level_rules.specs.Levels.{BreakLevels, LevelsHold}
use Rattle.level_rules.proofs.Newest.{other_way}
use Rattle.local_check.specs.MapRules.{IsRightMap}
use Rattle.local_check.specs.Maps.{ground_of, is_ground}
use Rattle.message_text.specs.declared.message.Mutation.{Mutation}
use Rattle.message_text.specs.declared.message.Mutation.TheVariants.{Add}
use Rattle.version_history.specs.declared.version.Version.{Version}
use Rattle.version_history.specs.Moments.{has_lower, holds_at, versions_at}
use Rattle.map_rules.specs.Good.{Follows, Good}
use Rattle.map_rules.specs.State.{State, area_at, is_object_at, part_of, parts_at}
use Rattle.map_rules.specs.SoundVersions.{HasSoundShape}
use Rattle.map_rules.proofs.Lists.{in_order as one_first, kept-same}
use Rattle.map_rules.proofs.Objects.{ground_sound}
use Rattle.moment_query.specs.Exports.{own_addition}
use Rattle.export_law.proofs.Members.{filter_twice, pairs_read}
use Rattle.export_law.proofs.AtMoment.{Differ, at_differ, holds_same}
use Rattle.export_law.proofs.Reordered.{in_order_filter, in_order_flat, in_order_same}

abbrev Shapes : Type 0
Shapes = List (List (List Vertex))

-- the version is the holder's
abbrev pub is_own : List ℕ → Version → Bool
is_own holder v = bytes_eq v.holder holder

-- the version as a new object
abbrev pub addition : Version → Mutation
addition v = Add v.ident v.item

-- ---- the objects of a holder
module _ (h : List ℕ) where
  pub additions_are : (l : List Version) → flat_map (own_addition h) l ≡ map addition (filter (is_own h) l)
  additions_are [] = refl
  additions_are (v ∷ l) = by (is_own h v) (additions_are l)
    where
      by : (t : Bool) → flat_map (own_addition h) l ≡ map addition (filter (is_own h) l)
          → cond t (addition v ∷ []) [] ++ flat_map (own_addition h) l ≡ map addition
          (cond t (v ∷ filter (is_own h) l) (filter (is_own h) l))
      by true e = ap (λ (k : List Mutation). addition v ∷ k) e
      by false e = e

  own_at : (t : ℤ) (vs : List Version) → filter (is_own h) (filter (holds_at t) vs) ≡ filter (is_object_at t h) vs
  own_at t vs = filter_twice (is_own h) (holds_at t) vs ∙ kept-same (λ (v : Version). is_own h v && holds_at t v) (is_object_at t h) vs
      (λ v c. ap (λ (b : Bool). is_own h v && b) (holds_same t v.since v.until))

  -- the edges of the ground parts among them
  abbrev ground_edges : Version → List Segment
  ground_edges v = cond (is_own h v && is_ground (part_of v)) (shape_edges v.item.rings) []

  -- and all edges of the ground parts of these versions
  abbrev edges_in : List Version → List Segment
  edges_in l = all_edges (ground_of (map part_of l))

  edges_are : (l : List Version) → flat_map ground_edges l ≡ edges_in (filter (is_own h) l)
  edges_are [] = refl
  edges_are (v ∷ l) = by (is_own h v) (is_ground (part_of v)) refl (edges_are l)
    where
      by : (b c : Bool) → is_ground (part_of v) ≡ c → flat_map ground_edges l ≡ edges_in (filter (is_own h) l)
          → cond (b && c) (shape_edges v.item.rings) [] ++ flat_map ground_edges l ≡ edges_in
          (cond b (v ∷ filter (is_own h) l) (filter (is_own h) l))
      by true true q e = rw q (ap (λ (k : List Segment). shape_edges v.item.rings ++ k) e)
      by true false q e = rw q e
      by false true q e = e
      by false false q e = e

  -- ---- the map in another order
  module _ (t : ℤ) (s : State) where
    abbrev then : List Version
    then = filter (holds_at t) s.versions

    -- what is exported
    abbrev pub own : List Version
    own = filter (is_own h) (versions_at t s.versions)

    -- what the holder has at the moment, in order of making
    abbrev made : List Version
    made = filter (is_object_at t h) s.versions

    abbrev by_ident : Version → Version → Bool
    by_ident = has_lower (λ (v : Version). v.ident)

    own_moved : IsPermutation made own
    own_moved = subst (λ l. IsPermutation l own) (own_at t s.versions) (in_order_filter by_ident (is_own h) then)

    parts_moved : IsPermutation (map part_of made) (map part_of own)
    parts_moved = IsPermutation-map part_of made own own_moved

    pub own_count : length (map part_of own) ≡ length (parts_at t h s.versions)
    own_count = length_permutation (map part_of made) (map part_of own) parts_moved

    pub own_differ : AllPairs Follows s.versions → AllPairs Differ own
    own_differ p = AllPairs-filter Differ (is_own h) (versions_at t s.versions) (at_differ t s.versions p)

    edges_moved : IsPermutation (edges_in made) (edges_in own)
    edges_moved = subst (λ l. IsPermutation (edges_in l) (edges_in own)) (own_at t s.versions)
        (subst (λ e. IsPermutation e (edges_in own)) (edges_are then)
        (subst (IsPermutation (flat_map ground_edges then)) (edges_are (versions_at t s.versions))
        (in_order_flat by_ident ground_edges then)))

    abbrev area : Shapes
    area = area_at t h s.areas

    -- the border of the map with the objects in order of making, and in order of export
    abbrev old : List Segment
    old = border area (ground_of (map part_of made))

    abbrev new : List Segment
    new = border area (ground_of (map part_of own))

    border_moved : IsPermutation old new
    border_moved = IsPermutation-append_left (map reversed (all_edges area)) (edges_in made) (edges_in own) edges_moved

    module _ (g : Good s) where
      idents_differ : AllPairs (λ (x y : LevelItem). x.ident ≢ y.ident) (map part_of own)
      idents_differ = pairs_read (λ (x y : LevelItem). x.ident ≢ y.ident) part_of own (own_differ g.in_turn)

      part_before : (x : LevelItem) → Contains (map part_of own) x → Contains (map part_of made) x
      part_before x c = Contains-permutation (map part_of own) (map part_of made) x
          (IsPermutation-sym (map part_of made) (map part_of own) parts_moved) c

      levels_then : LevelsHold (map part_of own)
      levels_then i j d l n broken = elim (one_first (λ x y. BreakLevels x y → ⊥) (map part_of made) (at i) (at j) (g.maps t h).levels
          (part_before (at i) (Contains-get_or (map part_of own) i d (omega (arith, l, n))))
          (part_before (at j) (Contains-get_or (map part_of own) j d n))) [
            | inl q ↦ absurd (idents_differ i j d l n (ap (λ (x : LevelItem). x.ident) q))
            | inr k ↦ elim k [ inl f ↦ f broken | inr f ↦ f (other_way (at i) (at j) broken) ]
          ]
        where
          at : ℕ → LevelItem
          at k = get_or (map part_of own) k d

      edge_before : (e : Segment) → Contains new e → Contains old e
      edge_before e c = Contains-permutation new old e (IsPermutation-sym old new border_moved) c

      noded_then : IsNoded new
      noded_then e f p ce cf = (g.maps t h).noded e f p (edge_before e ce) (edge_before f cf)

      times_then : (e : Segment) → times e new ≡ times e old
      times_then e = sum_by-IsPermutation (λ (x : Segment). cond (same_segment e x) 1 0) old new border_moved

      cancels_then : Cancels new
      cancels_then e l =
          let k = (g.maps t h).cancels e (subst (λ n. 0 < n) (times_then e) l) in
          (times_then e ∙ k.0, subst (λ n. 0 < n) (sym (times_then (reversed e))) k.1)

      sound_then : All IsSoundShape (ground_of (map part_of own))
      sound_then = ground_sound (is_own h) (versions_at t s.versions) (All-permutation HasSoundShape then (versions_at t s.versions)
          (in_order_same by_ident then) (All-filter (holds_at t) HasSoundShape s.versions g.shapes))

      -- the map of what is exported is right
      pub right_then : IsRightMap (record { area = area; parts = map part_of own })
      right_then = record {
        area = (g.maps t h).area;
        levels = levels_then;
        noded = noded_then;
        cancels = cancels_then;
        tiled = cancel-tiled area (ground_of (map part_of own)) (g.maps t h).area sound_then cancels_then;
      }
