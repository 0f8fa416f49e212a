-- A message that is taken keeps all right at every moment.
use Rattle.std.proofs.Common.{◌≡◌, ℕ, refl, sym, ap, ◌∙◌, arith, inl, inr, List, map, subst}
use Rattle.std.specs.Prelude.{ℤ, ◌<ℤ◌, ◌≤ℤ◌, ◌≢◌, Option, Some, None, IfSome}
use Rattle.std.specs.List.{All, AllPairs, Contains, flat_map}
use Rattle.std.specs.Str.{bytes_eq}
use Rattle.std.specs.Int.Signed.{≤ℤ_refl}
use Rattle.std.proofs.lemmas.Bool.{cases_Bool, both_ways}
use Rattle.std.proofs.lemmas.Int.{by_lt_z}
use Rattle.std.proofs.lemmas.List.Elements.{All-append, All-contains}
use Rattle.std.proofs.lemmas.Slice.Eq.{bytes_eq-Decides}
use Rattle.rd_plane.specs.Plane.{Vertex}
use Rattle.rd_plane.specs.Shapes.{IsSoundShape}
use Rattle.rd_plane.proofs.Polynomials.{linear}
use Rattle.imgeo_types.specs.declared.item.Item.{Item}
use Rattle.message_text.specs.declared.message.Message.{Message}
use Rattle.message_text.specs.declared.message.Mutation.{Mutation}
use Rattle.message_text.specs.declared.message.Mutation.TheVariants.{Add, Change, End}
use Rattle.version_history.specs.declared.version.Version.{Version}
use Rattle.map_rules.specs.After.{after, areas_after, begun, touched_by}
use Rattle.map_rules.specs.State.{State, area_at, map_at, moment_of, parts_at, parts_now}
use Rattle.area_book.specs.Areas.{area_of}
use Rattle.area_book.specs.Throughout.{HasEndedBy, IsSoundBook}
use Rattle.area_book.proofs.Setting.{sound_after}
use Rattle.level_rules.specs.declared.item.LevelItem.{LevelItem}
use Rattle.local_check.specs.Maps.{HolderParts}
use Rattle.local_check.specs.MapRules.{IsRightMap}
use Rattle.map_rules.specs.Dated.{IsDated, IsDatedArea}
use Rattle.map_rules.proofs.Dating.{areas_dated_after as areas_dated, dated_own as own_dated, dated_still as still_dated, fresh, moment_after, own_earlier as own_before}
use Rattle.map_rules.specs.Good.{EndsLater, Follows, Good, IsFine, IsFineArea, IsTaken}
use Rattle.map_rules.proofs.Areas.{areas_apart, areas_before, areas_of_others, area_is_now}
use Rattle.map_rules.proofs.Begun.{IsBeginning, begun_follow, begun_is}
use Rattle.map_rules.proofs.Lists.{all_from, all_mapped, from_map, in_order, pairs_joined, pairs_mapped}
use Rattle.map_rules.proofs.Objects.{ended_own, parts_are_now, parts_before, parts_of_others}
use Rattle.map_rules.proofs.Touching.{ends_named, touch_cases, touched-ident, touched-item, touched-since}

abbrev news : List ℕ → ℤ → List Mutation → List Version
news holder moment ms = flat_map (begun holder moment) ms

-- ---- maps
abbrev parts_map : List (List (List Vertex)) → List LevelItem → HolderParts
parts_map area parts = record { area = area; parts = parts }

pub same_map : (a b : List (List (List Vertex))) (p q : List LevelItem) → a ≡ b → p ≡ q → parts_map a p ≡ parts_map b q
same_map a b p q e f = ap (λ (x : List (List (List Vertex))). parts_map x p) e ∙ ap (parts_map b) f

later_end : (t later : ℤ) (u : Option ℤ) → t ≤ℤ later → HasEndedBy t u → HasEndedBy later u
later_end t later None l e = e
later_end t later (Some u) l e = omega (arith, linear, l, e)

ended_after : (t : ℤ) (u : Option ℤ) → HasEndedBy t u → (v : ℤ) × (u ≡ Some v)
ended_after t None e = absurd e
ended_after t (Some v) e = (v, refl)

shape_of : (vs : List Version) (h : List ℕ) (x : Mutation) (v : Version) → IsFine vs h x → IsBeginning x v.ident v.item
    → IsSoundShape v.item.rings
shape_of vs h (Add i item) v n b = subst (λ (y : Item). IsSoundShape y.rings) b.1 n.1
shape_of vs h (Change i was item) v n b = subst (λ (y : Item). IsSoundShape y.rings) b.1 n.1
shape_of vs h (End i was day) v n b = absurd b

-- the versions that the message leaves have sound shapes
pub shapes_then : (s : State) (m : Message) → Good s → All (IsFine s.versions m.holder) m.mutations
    → All (λ (v : Version). IsSoundShape v.item.rings) (after s m).versions
shapes_then s m g fine = All-append (λ (v : Version). IsSoundShape v.item.rings) (map (touched_by m.moment m.mutations) s.versions)
    (news m.holder m.moment m.mutations)
    (all_mapped (λ (v : Version). IsSoundShape v.item.rings) (touched_by m.moment m.mutations) s.versions (λ v c. subst
    (λ (y : Item). IsSoundShape y.rings) (sym (touched-item m.moment m.mutations v))
    (All-contains (λ (x : Version). IsSoundShape x.item.rings) s.versions v g.shapes c)))
    (all_from (λ (v : Version). IsSoundShape v.item.rings) (news m.holder m.moment m.mutations) (λ v c. let b = begun_is m.holder m.moment
    m.mutations v c in shape_of s.versions m.holder b.by v (All-contains (IsFine s.versions m.holder) m.mutations b.by fine b.of)
    b.begins))

module _ (s : State) (m : Message) (g : Good s) (k : IsTaken s m) where
  -- what is the holder's own is earlier than the message
  pub own_earlier : (holder : List ℕ) (since : ℤ) (until : Option ℤ) → IsDated s.last holder since until → holder ≡ m.holder
      → since <ℤ m.moment
  own_earlier = own_before s.last m.holder m.moment k.later

  pub dated_still : (holder : List ℕ) (since : ℤ) (until : Option ℤ) → IsDated s.last holder since until
      → IsDated (after s m).last holder since until
  dated_still = still_dated s.last m.holder m.moment k.later

  pub dated_own : (holder : List ℕ) (since : ℤ) (until : Option ℤ) → holder ≡ m.holder → since ≤ℤ m.moment
      → IfSome until (λ u. u ≤ℤ m.moment) → IsDated (after s m).last holder since until
  dated_own = own_dated s.last m.holder m.moment k.later

  dated_of : (v : Version) → Contains s.versions v → IsDated s.last v.holder v.since v.until
  dated_of v c = All-contains (λ (x : Version). IsDated s.last x.holder x.since x.until) s.versions v g.dated c

  -- ---- versions
  pub shapes_after : All (λ (v : Version). IsSoundShape v.item.rings) (after s m).versions
  shapes_after = shapes_then s m g k.fine

  still_ended : (t : ℤ) (v : Version) → HasEndedBy t v.until → HasEndedBy t (touched_by m.moment m.mutations v).until
  still_ended t v e = elim (touch_cases m.moment m.mutations v) [
    | inl q ↦ subst (HasEndedBy t) (sym (ap (λ (w : Version). w.until) q)) e
    | inr d ↦ absurd (subst (HasEndedBy t) d.was e)
  ]

  follows_still : (v w : Version) → Follows v w → Follows (touched_by m.moment m.mutations v) (touched_by m.moment m.mutations w)
  follows_still v w n i = subst (λ t. HasEndedBy t (touched_by m.moment m.mutations v).until) (sym (touched-since m.moment m.mutations w))
      (still_ended w.since v (n (sym (touched-ident m.moment m.mutations v) ∙ i ∙ touched-ident m.moment m.mutations w)))

  -- a version that was there, of an identification that begins anew, has ended
  ended_by : (x : Mutation) (v y : Version) → Contains s.versions v → Contains m.mutations x → IsFine s.versions m.holder x
      → IsBeginning x y.ident y.item → v.ident ≡ y.ident → HasEndedBy m.moment (touched_by m.moment m.mutations v).until
  ended_by (Add i item) v y c o n b q = absurd (n.0 v c (q ∙ sym b.0))
  ended_by (Change i was item) v y c o n b q = elim (in_order Follows s.versions v n.0.version g.in_turn c n.0.of) [
    | inl e ↦ subst (HasEndedBy m.moment)
        (sym (ends_named m.moment m.mutations (Change i was item) v o (ap (λ (w : Version). w.until) e ∙ n.0.current) (b.0 ∙ sym q)))
        (≤ℤ_refl m.moment)
    | inr r ↦ elim r [
      | inl a ↦ still_ended m.moment v (later_end n.0.version.since m.moment v.until
          (earlier (own_earlier n.0.version.holder n.0.version.since n.0.version.until (dated_of n.0.version n.0.of) n.0.own))
          (a (q ∙ sym b.0 ∙ sym n.0.ident_is)))
      | inr a ↦ absurd (subst (HasEndedBy v.since) n.0.current (a (n.0.ident_is ∙ b.0 ∙ sym q)))
    ]
  ]
    where
      earlier : n.0.version.since <ℤ m.moment → n.0.version.since ≤ℤ m.moment
      earlier l = omega (arith, linear, l)
  ended_by (End i was day) v y c o n b q = absurd b

  follows_new : (x y : Version) → Contains (map (touched_by m.moment m.mutations) s.versions) x
      → Contains (news m.holder m.moment m.mutations) y → Follows x y
  follows_new x y cx cy i =
      let v = from_map (touched_by m.moment m.mutations) s.versions x cx in
      let b = begun_is m.holder m.moment m.mutations y cy in
      subst (λ t. HasEndedBy t x.until) (sym b.since_is) (subst (λ (w : Version). HasEndedBy m.moment w.until) v.2
      (ended_by b.by v.0 y v.1 b.of (All-contains (IsFine s.versions m.holder) m.mutations b.by k.fine b.of) b.begins
      (sym (touched-ident m.moment m.mutations v.0) ∙ ap (λ (w : Version). w.ident) v.2 ∙ i)))

  pub in_turn_after : AllPairs Follows (after s m).versions
  in_turn_after = pairs_joined Follows (map (touched_by m.moment m.mutations) s.versions) (news m.holder m.moment m.mutations)
      (pairs_mapped Follows (touched_by m.moment m.mutations) s.versions follows_still g.in_turn)
      (begun_follow m.holder m.moment m.mutations k.once) follows_new

  span_one : (v : Version) → Contains s.versions v → EndsLater (touched_by m.moment m.mutations v)
  span_one v c = elim (touch_cases m.moment m.mutations v) [
    | inl q ↦ subst EndsLater (sym q) (All-contains EndsLater s.versions v g.spans c)
    | inr e ↦ subst (λ (u : Option ℤ). IfSome u (λ t. (touched_by m.moment m.mutations v).since <ℤ t)) (sym e.now)
        (subst (λ t. t <ℤ m.moment) (sym e.since)
        (own_earlier v.holder v.since v.until (dated_of v c) (ended_own s.versions m.holder m.moment m.mutations g.in_turn k.fine v c e)))
  ]

  pub spans_after : All EndsLater (after s m).versions
  spans_after
      = All-append EndsLater (map (touched_by m.moment m.mutations) s.versions) (news m.holder m.moment m.mutations)
      (all_mapped EndsLater (touched_by m.moment m.mutations) s.versions span_one)
      (all_from EndsLater (news m.holder m.moment m.mutations)
      (λ v c. subst (λ (u : Option ℤ). IfSome u (λ t. v.since <ℤ t)) (sym (begun_is m.holder m.moment m.mutations v c).current) tt))

  abbrev Dated : Version → Type 0
  Dated v = IsDated (after s m).last v.holder v.since v.until

  dated_one : (v : Version) → Contains s.versions v → Dated (touched_by m.moment m.mutations v)
  dated_one v c = elim (touch_cases m.moment m.mutations v) [
    | inl q ↦ subst Dated (sym q) (dated_still v.holder v.since v.until (dated_of v c))
    | inr e ↦ let o = ended_own s.versions m.holder m.moment m.mutations g.in_turn k.fine v c e in let l : v.since <ℤ m.moment = own_earlier
        v.holder v.since v.until (dated_of v c) o in
        dated_own (touched_by m.moment m.mutations v).holder (touched_by m.moment m.mutations v).since
        (touched_by m.moment m.mutations v).until (e.holder ∙ o) (subst (λ t. t ≤ℤ m.moment) (sym e.since) (omega (arith, linear, l)))
        (subst (λ (u : Option ℤ). IfSome u (λ t. t ≤ℤ m.moment)) (sym e.now) (≤ℤ_refl m.moment))
  ]

  dated_new : (v : Version) → Contains (news m.holder m.moment m.mutations) v → Dated v
  dated_new v c = let b = begun_is m.holder m.moment m.mutations v c in dated_own v.holder v.since v.until b.holder_is
      (subst (λ t. t ≤ℤ m.moment) (sym b.since_is) (≤ℤ_refl m.moment))
      (subst (λ (u : Option ℤ). IfSome u (λ t. t ≤ℤ m.moment)) (sym b.current) tt)

  pub dated_after : All Dated (after s m).versions
  dated_after
      = All-append Dated (map (touched_by m.moment m.mutations) s.versions) (news m.holder m.moment m.mutations)
      (all_mapped Dated (touched_by m.moment m.mutations) s.versions dated_one)
      (all_from Dated (news m.holder m.moment m.mutations) dated_new)

  -- ---- areas
  pub areas_dated_after : All (IsDatedArea (after s m).last) (after s m).areas
  areas_dated_after = areas_dated s.last m.holder m.moment k.later s.areas g.areas_dated m.area

  book_by : (area : Option (List (List (List Vertex)))) → IsFineArea s.areas m.holder m.moment area
      → IsSoundBook (areas_after m.holder m.moment area s.areas)
  book_by None n = g.book
  book_by (Some shapes) n
      = sound_after s.areas m.holder m.moment shapes g.book n.1 (fresh s.last m.holder m.moment k.later s.areas g.areas_dated n.0).later n.0

  pub book_after : IsSoundBook (after s m).areas
  book_after = book_by m.area k.area

  -- ---- the maps
  before : (t : ℤ) → t <ℤ m.moment → (h : List ℕ) → IsRightMap (map_at t h (after s m))
  before t l h
      = subst IsRightMap
      (sym (same_map (area_at t h (after s m).areas) (area_at t h s.areas) (parts_at t h (after s m).versions) (parts_at t h s.versions)
      (areas_before m.holder m.moment t h m.area s.areas l)
      (parts_before s.versions m.holder m.moment m.mutations g.in_turn k.fine t h l))) (g.maps t h)

  of_others : (t : ℤ) (h : List ℕ) → h ≢ m.holder → IsRightMap (map_at t h (after s m))
  of_others t h d
      = subst IsRightMap
      (sym (same_map (area_at t h (after s m).areas) (area_at t h s.areas) (parts_at t h (after s m).versions) (parts_at t h s.versions)
      (areas_of_others m.holder m.moment t h m.area s.areas d)
      (parts_of_others s.versions m.holder m.moment m.mutations g.in_turn k.fine t h d))) (g.maps t h)

  from_then : (t : ℤ) → m.moment ≤ℤ t → IsRightMap (map_at t m.holder (after s m))
  from_then t l =
      let late : IfSome (moment_of m.holder (after s m).last) (λ u. u ≤ℤ t)
      = subst (λ (o : Option ℤ). IfSome o (λ u. u ≤ℤ t)) (sym (moment_after m.holder m.moment s.last)) l in
      subst IsRightMap
      (sym (same_map (area_at t m.holder (after s m).areas) (area_of m.holder (after s m).areas)
      (parts_at t m.holder (after s m).versions) (parts_now m.holder (after s m).versions)
      (area_is_now (after s m).last m.holder t late (after s m).areas areas_dated_after)
      (parts_are_now (after s m).last m.holder t late (after s m).versions dated_after))) k.right

  pub maps_after : (t : ℤ) (h : List ℕ) → IsRightMap (map_at t h (after s m))
  maps_after t h = elim (cases_Bool (bytes_eq h m.holder)) [
    | inl e ↦ subst (λ (x : List ℕ). IsRightMap (map_at t x (after s m))) (sym ((bytes_eq-Decides h m.holder).0 e))
        (by_lt_z t m.moment (λ l. before t l m.holder) (λ l. from_then t l))
    | inr e ↦ of_others t h (λ q. both_ways (bytes_eq h m.holder) e ((bytes_eq-Decides h m.holder).1 q))
  ]

  pub after_good : Good (after s m)
  after_good = record {
    maps = maps_after;
    apart = areas_apart (after s m).areas book_after;
    shapes = shapes_after;
    in_turn = in_turn_after;
    spans = spans_after;
    dated = dated_after;
    areas_dated = areas_dated_after;
    book = book_after;
  }
