-- The areas of a holder at a moment, before and after a message.
use Rattle.std.proofs.Common.{◌≡◌, ℕ, refl, sym, ap, ◌∙◌, arith, inl, inr, List, [], ◌∷◌}
use Rattle.std.specs.Prelude.{ℤ, ◌<ℤ◌, ◌≤ℤ◌, int_le, int_lt, true, false, Bool, ◌&&◌, ◌≢◌, find, Option, Some, None, IfSome, option_map, unwrap_or, MatchOption}
use Rattle.std.specs.List.{All, Contains}
use Rattle.std.specs.Str.{bytes_eq}
use Rattle.std.proofs.Math.Bool.{and-false}
use Rattle.std.proofs.lemmas.Bool.{cases_Bool, and_parts, both_ways}
use Rattle.std.proofs.lemmas.List.Elements.{All-contains}
use Rattle.std.proofs.lemmas.Slice.Eq.{bytes_eq-Decides}
use Rattle.rd_plane.specs.Covering.{AreApart}
use Rattle.rd_plane.specs.Plane.{Vertex}
use Rattle.rd_plane.proofs.Polynomials.{linear}
use Rattle.rd_plane.proofs.Members.{contains_head, contains_tail, contains_cases}
use Rattle.map_rules.specs.declared.last.LastMessage.{LastMessage}
use Rattle.map_rules.specs.State.{area_at, holds_at, is_area_at, moment_of}
use Rattle.area_book.specs.declared.version.AreaVersion.{AreaVersion}
use Rattle.area_book.specs.Areas.{area_ended, area_of, areas_with, is_area_of, new_area}
use Rattle.area_book.specs.Throughout.{FollowsApart, HasEndedBy, IsSoundBook}
use Rattle.area_book.proofs.Holders.{apart_from_none, is_current}
use Rattle.area_book.proofs.Setting.{apart_back, same_holder, same_shapes, same_since, until_of}
use Rattle.map_rules.specs.After.{areas_after}
use Rattle.map_rules.specs.Dated.{IsDated}
use Rattle.map_rules.proofs.Lists.{found-mapped, found-same, in_order}
use Rattle.map_rules.proofs.Moments.{holds_before, le_false, le_from, lt_false}
use Rattle.map_rules.proofs.Objects.{same_now}

abbrev Shapes : Type 0
Shapes = List (List (List Vertex))

differs : (a b : List ℕ) → a ≢ b → bytes_eq a b ≡ false
differs a b d = elim (cases_Bool (bytes_eq a b)) [ inl t ↦ absurd (d ((bytes_eq-Decides a b).0 t)) | inr t ↦ t ]

module _ (h : List ℕ) (moment : ℤ) where
  holds_still : (t : ℤ) (a : AreaVersion) → t <ℤ moment
      → holds_at t (area_ended h moment a).since (area_ended h moment a).until ≡ holds_at t a.since a.until
  holds_still t a l = ap (λ (s : ℤ). holds_at t s (area_ended h moment a).until) (same_since h moment a) ∙ elim (until_of h moment a) [
    | inl q ↦ ap (holds_at t a.since) q
    | inr k ↦ ap (holds_at t a.since) k.1 ∙ holds_before t a.since moment l ∙ sym (ap (holds_at t a.since) (is_current h a k.0).1)
  ]

  before_one : (t : ℤ) (g : List ℕ) (a : AreaVersion) → t <ℤ moment → is_area_at t g (area_ended h moment a) ≡ is_area_at t g a
  before_one t g a l = ap (λ (o : List ℕ). bytes_eq o g && holds_at t (area_ended h moment a).since (area_ended h moment a).until)
      (same_holder h moment a) ∙ ap (λ (b : Bool). bytes_eq a.holder g && b) (holds_still t a l)

  others_one : (t : ℤ) (g : List ℕ) (a : AreaVersion) → g ≢ h → is_area_at t g (area_ended h moment a) ≡ is_area_at t g a
  others_one t g a d = ap (λ (o : List ℕ). bytes_eq o g && holds_at t (area_ended h moment a).since (area_ended h moment a).until)
      (same_holder h moment a) ∙ elim (until_of h moment a) [
        | inl q ↦ ap (λ (s : ℤ). bytes_eq a.holder g && holds_at t s (area_ended h moment a).until)
            (same_since h moment a) ∙ ap (λ (u : Option ℤ). bytes_eq a.holder g && holds_at t a.since u) q
        | inr k ↦ let n : bytes_eq a.holder g ≡ false = differs a.holder g (λ q. d (sym q ∙ (is_current h a k.0).0)) in
            ap (λ (b : Bool). b && holds_at t (area_ended h moment a).since (area_ended h moment a).until)
            n ∙ sym (ap (λ (b : Bool). b && holds_at t a.since a.until) n)
      ]

  unchanged : (t : ℤ) (g : List ℕ) (shapes : Shapes) (areas : List AreaVersion)
      → ((a : AreaVersion) → Contains areas a → is_area_at t g (area_ended h moment a) ≡ is_area_at t g a)
      → is_area_at t g (new_area h moment shapes) ≡ false → area_at t g (areas_with h moment shapes areas) ≡ area_at t g areas
  unchanged t g shapes areas old new = ap (λ (o : Option Shapes). unwrap_or o [])
      (found-mapped (λ (a : AreaVersion). a.shapes) (is_area_at t g) (area_ended h moment) areas (new_area h moment shapes ∷ []) old
      (λ a c. same_shapes h moment a)
      (λ a c. elim (contains_cases (new_area h moment shapes) a [] c)
      [ inl q ↦ ap (is_area_at t g) (sym q) ∙ new | inr d ↦ absurd (omega (arith, d.1)) ]))

  pub areas_before : (t : ℤ) (g : List ℕ) (area : Option Shapes) (areas : List AreaVersion) → t <ℤ moment
      → area_at t g (areas_after h moment area areas) ≡ area_at t g areas
  areas_before t g None areas l = refl
  areas_before t g (Some shapes) areas l = unchanged t g shapes areas (λ a c. before_one t g a l)
      (ap (λ (b : Bool). bytes_eq h g && b) (le_false moment t l) ∙ and-false (bytes_eq h g))

  pub areas_of_others : (t : ℤ) (g : List ℕ) (area : Option Shapes) (areas : List AreaVersion) → g ≢ h
      → area_at t g (areas_after h moment area areas) ≡ area_at t g areas
  areas_of_others t g None areas d = refl
  areas_of_others t g (Some shapes) areas d = unchanged t g shapes areas (λ a c. others_one t g a d)
      (ap (λ (b : Bool). b && holds_at t moment None) (differs h g (λ q. d (sym q))))

-- from the holder's last moment on, the area is the current one
pub area_is_now : (last : List LastMessage) (h : List ℕ) (t : ℤ) → IfSome (moment_of h last) (λ k. k ≤ℤ t) → (areas : List AreaVersion)
    → All (λ (a : AreaVersion). IsDated last a.holder a.since a.until) areas → area_at t h areas ≡ area_of h areas
area_is_now last h t late areas d
    = ap (λ (o : Option AreaVersion). unwrap_or (option_map (λ (a : AreaVersion). a.shapes) o) []) (found-same (is_area_at t h)
    (is_area_of h) areas (λ a c. same_now last h t late a.holder a.since a.until
    (All-contains (λ (x : AreaVersion). IsDated last x.holder x.since x.until) areas a d c)))

-- ---- the areas of two holders are apart at every moment
record IsFoundAt (t : ℤ) (h : List ℕ) (areas : List AreaVersion) (a : AreaVersion) : Type 0 where
  of : Contains areas a
  own : a.holder ≡ h
  holds : holds_at t a.since a.until ≡ true

found_at : (t : ℤ) (h : List ℕ) (areas : List AreaVersion) → MatchOption (find (is_area_at t h) areas) (Unit {0}) (IsFoundAt t h areas)
found_at t h [] = tt
found_at t h (a ∷ areas) = elim (cases_Bool (is_area_at t h a)) [
  | inl k ↦ let p = and_parts (bytes_eq a.holder h) (holds_at t a.since a.until) k in rw k
      (record { of = contains_head a areas; own = (bytes_eq-Decides a.holder h).0 p.0; holds = p.1 })
  | inr k ↦ rw k (wider t h a areas (find (is_area_at t h) areas) (found_at t h areas))
]
  where
    wider : (t : ℤ) (h : List ℕ) (a : AreaVersion) (areas : List AreaVersion) (r : Option AreaVersion)
        → MatchOption r (Unit {0}) (IsFoundAt t h areas) → MatchOption r (Unit {0}) (IsFoundAt t h (a ∷ areas))
    wider t h a areas None f = tt
    wider t h a areas (Some b) f = record { of = contains_tail a b areas f.of; own = f.own; holds = f.holds }

-- what has ended where the other began does not hold where that does
not_both : (t since after : ℤ) (until end : Option ℤ) → HasEndedBy after until → holds_at t since until ≡ true → holds_at t after end ≡ true
    → ⊥
not_both t since from None end e h k = e
not_both t since from (Some u) end e h k = both_ways (holds_at t since (Some u)) (no (begun_by t from end k)) h
  where
    begun_by : (t from : ℤ) (end : Option ℤ) → holds_at t from end ≡ true → from ≤ℤ t
    begun_by t from None k = le_from from t k
    begun_by t from (Some v) k = le_from from t (and_parts (int_le from t) (int_lt t v) k).0

    no : from ≤ℤ t → holds_at t since (Some u) ≡ false
    no l = ap (λ (b : Bool). int_le since t && b) (lt_false t u (omega (arith, linear, e, l))) ∙ and-false (int_le since t)

pub areas_apart : (areas : List AreaVersion) → IsSoundBook areas → (t : ℤ) (h g : List ℕ) → h ≢ g
    → AreApart (area_at t h areas) (area_at t g areas)
areas_apart areas b t h g d = by (find (is_area_at t h) areas) (find (is_area_at t g) areas) (found_at t h areas) (found_at t g areas)
  where
    one_way : (x y : AreaVersion) → FollowsApart x y → IsFoundAt t x.holder areas x → IsFoundAt t y.holder areas y
        → AreApart x.shapes y.shapes
    one_way x y f p q = elim f [ inl e ↦ absurd (not_both t x.since y.since x.until y.until e p.holds q.holds) | inr k ↦ k.1 ]

    at_home : (i : List ℕ) (x : AreaVersion) → IsFoundAt t i areas x → IsFoundAt t x.holder areas x
    at_home i x p = record { of = p.of; own = refl; holds = p.holds }

    by : (r q : Option AreaVersion) → MatchOption r (Unit {0}) (IsFoundAt t h areas) → MatchOption q (Unit {0}) (IsFoundAt t g areas) →
        AreApart (unwrap_or (option_map (λ (a : AreaVersion). a.shapes) r) []) (unwrap_or (option_map (λ (a : AreaVersion). a.shapes) q) [])
    by None None m n = apart_from_none []
    by None (Some y) m n = apart_back y.shapes [] (apart_from_none y.shapes)
    by (Some x) None m n = apart_from_none x.shapes
    by (Some x) (Some y) m n = elim (in_order FollowsApart areas x y b.in_turn m.of n.of) [
      | inl e ↦ absurd (d (sym m.own ∙ ap (λ (a : AreaVersion). a.holder) e ∙ n.own))
      | inr k ↦ elim k [
        | inl f ↦ one_way x y f (at_home h x m) (at_home g y n)
        | inr f ↦ apart_back y.shapes x.shapes (one_way y x f (at_home g y n) (at_home h x m))
      ]
    ]
