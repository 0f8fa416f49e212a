-- What holds at a moment: of one identification one version at most, and of one holder one area, which is the one that is exported.
use Rattle.std.proofs.Common.{◌≡◌, ◌≢◌, ◌∙◌, ℕ, refl, sym, ap, arith, inl, inr, List, []}
use Rattle.std.specs.Prelude.{ℤ, ◌≤ℤ◌, int_le, int_lt, true, Bool, filter, find, Option, Some, None, option_map, unwrap_or}
use Rattle.std.specs.List.{AllPairs, Contains}
use Rattle.std.specs.Str.{bytes_eq}
use Rattle.std.proofs.Math.Bool.{and-true}
use Rattle.std.proofs.lemmas.Bool.{and_from, and_parts, both_ways}
use Rattle.std.proofs.lemmas.List.Elements.{filter_passes}
use Rattle.std.proofs.lemmas.List.Kept.{AllPairs-filter}
use Rattle.std.proofs.lemmas.Slice.Eq.{bytes_eq-Decides}
use Rattle.rd_plane.proofs.Polynomials.{linear}
use Rattle.version_history.specs.declared.version.Version.{Version}
use Rattle.version_history.specs.Moments.{has_lower, holds, holds_at, versions_at}
use Rattle.area_book.specs.declared.version.AreaVersion.{AreaVersion}
use Rattle.area_book.specs.Throughout.{FollowsApart, HasEndedBy}
use Rattle.map_rules.specs.Good.{Follows}
use Rattle.map_rules.specs.State.{area_at, is_area_at}
use Rattle.map_rules.specs.State.{holds_at as holds_then}
use Rattle.map_rules.proofs.Lists.{in_order as one_first}
use Rattle.map_rules.proofs.Moments.{le_from, lt_false}
use Rattle.moment_query.specs.Exports.{is_own_area, own_shapes, shapes_or_none}
use Rattle.moment_query.specs.Queries.{areas_at}
use Rattle.export_law.proofs.Members.Search.{hit, missed}
use Rattle.export_law.proofs.Members.{Search, search_of, in_filter, one_found, out_filter, pairs_with}
use Rattle.export_law.proofs.Reordered.{from_order, in_order_pairs, into_order}

-- ---- versions
pub holds_same : (t since : ℤ) (until : Option ℤ) → holds t since until ≡ holds_then t since until
holds_same t since None = and-true (int_le since t)
holds_same t since (Some u) = refl

-- what has ended where the other began does not hold where that does
pub not_both : (t since after : ℤ) (until end : Option ℤ) → HasEndedBy after until → holds t since until ≡ true → holds t after end ≡ true
    → ⊥
not_both t since from None end e h k = e
not_both t since from (Some u) end e h k =
    both_ways (int_lt t u) (lt_false t u (omega (arith, linear, e, begun))) (and_parts (int_le since t) (int_lt t u) h).1
  where
    begun : from ≤ℤ t
    begun = le_from from t (and_parts (int_le from t) _ k).0

abbrev pub Differ : Version → Version → Type 0
Differ v w = v.ident ≢ w.ident

-- of one identification one version holds at most
pub held_differ : (t : ℤ) (vs : List Version) → AllPairs Follows vs → AllPairs Differ (filter (holds_at t) vs)
held_differ t vs p
    = pairs_with Follows Differ (λ v. holds_at t v ≡ true) (filter (holds_at t) vs) (AllPairs-filter Follows (holds_at t) vs p)
    (filter_passes (holds_at t) vs) (λ v w f h k e. not_both t v.since w.since v.until w.until (f e) h k)

pub at_differ : (t : ℤ) (vs : List Version) → AllPairs Follows vs → AllPairs Differ (versions_at t vs)
at_differ t vs p
    = in_order_pairs (has_lower (λ (v : Version). v.ident)) Differ (λ v w n e. n (sym e)) (filter (holds_at t) vs) (held_differ t vs p)

-- a version that holds at the moment is one of all, and begins no later
pub at_is : (t : ℤ) (vs : List Version) (v : Version) → Contains (versions_at t vs) v → Contains vs v × (v.since ≤ℤ t)
at_is t vs v c =
    let k = out_filter (holds_at t) vs v (from_order (has_lower (λ (w : Version). w.ident)) (filter (holds_at t) vs) v c) in
    (k.0, le_from v.since t (and_parts (int_le v.since t) _ k.1).0)

-- ---- the area of a holder
-- of one holder one area holds at most
pub one_area : (t : ℤ) (areas : List AreaVersion) (a b : AreaVersion) → AllPairs FollowsApart areas → Contains areas a → Contains areas b
    → a.holder ≡ b.holder
    → holds t a.since a.until ≡ true → holds t b.since b.until ≡ true → a ≡ b
one_area t areas a b p ca cb e ha hb = elim (one_first FollowsApart areas a b p ca cb) [
  | inl q ↦ q
  | inr k ↦ elim k [
    | inl f ↦ absurd (elim f [ inl x ↦ not_both t a.since b.since a.until b.until x ha hb | inr x ↦ x.0 e ])
    | inr f ↦ absurd (elim f [ inl x ↦ not_both t b.since a.since b.until a.until x hb ha | inr x ↦ x.0 (sym e) ])
  ]
]

-- whose area it is
abbrev key : AreaVersion → List ℕ
key a = a.holder

abbrev holds_area : ℤ → AreaVersion → Bool
holds_area t a = holds t a.since a.until

shapes_of : (o : Option AreaVersion) → shapes_or_none o ≡ unwrap_or (option_map (λ (a : AreaVersion). a.shapes) o) []
shapes_of None = refl
shapes_of (Some a) = refl

-- the area that is exported is the one at the moment
pub area_is : (t : ℤ) (h : List ℕ) (areas : List AreaVersion) → AllPairs FollowsApart areas
    → own_shapes h (areas_at t areas) ≡ area_at t h areas
area_is t h areas p = shapes_of (find (is_own_area h) (areas_at t areas))
    ∙ ap (λ (o : Option AreaVersion). unwrap_or (option_map (λ (a : AreaVersion). a.shapes) o) [])
    (one_found (is_own_area h) (is_area_at t h) (areas_at t areas) areas to back one)
  where
    is_held : (a : AreaVersion) → Contains (areas_at t areas) a → Contains areas a × (holds_area t a ≡ true)
    is_held a c = out_filter (holds_area t) areas a (from_order (has_lower key) (filter (holds_area t) areas) a c)

    to : (a : AreaVersion) → Contains (areas_at t areas) a → is_own_area h a ≡ true → Contains areas a × (is_area_at t h a ≡ true)
    to a c o = let k = is_held a c
        in (k.0, and_from (bytes_eq a.holder h) (holds_then t a.since a.until) o (sym (holds_same t a.since a.until) ∙ k.1))

    back : (a : AreaVersion) → Contains areas a → is_area_at t h a ≡ true → Contains (areas_at t areas) a × (is_own_area h a ≡ true)
    back a c o = let k = and_parts (bytes_eq a.holder h) (holds_then t a.since a.until) o in (
      into_order (has_lower key) (filter (holds_area t) areas) a
          (in_filter (holds_area t) areas a c (holds_same t a.since a.until ∙ k.1)),
      k.0,
    )

    one : (a b : AreaVersion) → Contains (areas_at t areas) a → Contains (areas_at t areas) b → is_own_area h a ≡ true
        → is_own_area h b ≡ true → a ≡ b
    one a b ca cb oa ob = let ka = is_held a ca in let kb = is_held b cb in
        one_area t areas a b p ka.0 kb.0 ((bytes_eq-Decides a.holder h).0 oa ∙ sym ((bytes_eq-Decides b.holder h).0 ob)) ka.1 kb.1

-- an area that holds at the moment is that of its holder
pub held_is : (t : ℤ) (areas : List AreaVersion) (a : AreaVersion) → AllPairs FollowsApart areas → Contains (areas_at t areas) a
    → area_at t a.holder areas ≡ a.shapes
held_is t areas a p c = by (search_of (is_area_at t a.holder) areas)
  where
    is : Contains areas a × (holds_area t a ≡ true)
    is = out_filter (holds_area t) areas a (from_order (has_lower key) (filter (holds_area t) areas) a c)

    by : Search (is_area_at t a.holder) areas → area_at t a.holder areas ≡ a.shapes
    by (missed e n) =
        let held = sym (holds_same t a.since a.until) ∙ is.1 in
        let own = and_from (bytes_eq a.holder a.holder) (holds_then t a.since a.until) ((bytes_eq-Decides a.holder a.holder).1 refl) held in
        absurd (both_ways (is_area_at t a.holder a) (n a is.0) own)
    by (hit b e d o) =
        let k = and_parts (bytes_eq b.holder a.holder) (holds_then t b.since b.until) o in
        let same : b ≡ a
        = one_area t areas b a p d is.0 ((bytes_eq-Decides b.holder a.holder).0 k.0) (holds_same t b.since b.until ∙ k.1) is.1 in
        ap (λ (r : Option AreaVersion). unwrap_or (option_map (λ (x : AreaVersion). x.shapes) r) []) e ∙ ap (λ (x : AreaVersion). x.shapes)
        same
