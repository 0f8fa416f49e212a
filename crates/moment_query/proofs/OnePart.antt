-- Off the borders a point lies in one ground part at most: in no more than one of a holder, and in those of one holder alone.
use Rattle.std.proofs.Common.{◌≡◌, ◌<◌, ◌+◌, ◌&&◌, ℕ, ℤ, Bool, true, false, cond, List, [], ◌∷◌, map, filter, refl, sym, ap, ◌∙◌, arith, count_by, Option, Some, None, inl, inr, codes}
use Rattle.std.specs.Prelude.{find, int_le, option_map, unwrap_or}
use Rattle.std.specs.Bool.{MatchBool}
use Rattle.std.specs.List.{list_any}
use Rattle.std.specs.Str.{bytes_eq}
use Rattle.std.proofs.Math.Bool.{and-true}
use Rattle.std.proofs.lemmas.Bool.{and_from, and_parts, and_right, cases_Bool, not-false, or_parts}
use Rattle.std.proofs.lemmas.Slice.Eq.{bytes_eq-Decides}
use Rattle.rd_plane.proofs.Winding.{off-append, off-map_reversed}
use Rattle.rd_plane.specs.Covering.{cover_count, covers, covers_any}
use Rattle.rd_plane.specs.Plane.{Point, Vertex, off, point_of, reversed}
use Rattle.rd_plane.specs.Shapes.{all_edges, shape_edges}
use Rattle.level_rules.specs.declared.item.LevelItem.{LevelItem}
use Rattle.local_check.proofs.Counting.{count_cons, count_map}
use Rattle.local_check.specs.Maps.{ground_of, is_ground}
use Rattle.version_history.specs.declared.version.Version.{Version}
use Rattle.version_history.specs.Moments.{holds}
use Rattle.area_book.specs.declared.version.AreaVersion.{AreaVersion}
use Rattle.map_rules.specs.State.{State, area_at, edges_of, holds_at as has_begun, is_area_at, is_object_at, map_at, part_of, parts_at}
use Rattle.moment_query.specs.Exports.{is_own}
use Rattle.moment_query.specs.Points.{is_area_border, is_border, is_bordered, is_part_at, is_part_border, parts_around, part_at, part_word, IsPartWord}
use Rattle.moment_query.proofs.Counts.{any_filter, any_map, count_agree, count_filter, none_stricter}
use Rattle.moment_query.proofs.Searching.{first_of, found_first}

same_span : (t since : ℤ) (until : Option ℤ) → holds t since until ≡ has_begun t since until
same_span t since None = and-true (int_le since t)
same_span t since (Some until) = refl

narrowed : (a b c d : Bool) → ((b && c) && d) ≡ false → ((a && b) && (c && d)) ≡ false
narrowed true true true d h = h
narrowed true true false d h = refl
narrowed true false c d h = refl
narrowed false b c d h = refl

turned : (a b c d : Bool) → ((a && b) && (c && d)) ≡ (((b && c) && d) && a)
turned true true true d = sym (and-true d)
turned true true false d = refl
turned true false c d = refl
turned false b c d = sym (and_right ((b && c) && d) false refl)

-- off the edges of each of the shapes
off_all : (p : Point) (shapes : List (List (List Vertex))) → list_any (is_bordered p) shapes ≡ false → off p (all_edges shapes) ≡ true
unfolding off
off_all p [] none = refl
off_all p (shape ∷ rest) none =
    let both = or_parts (is_bordered p shape) (list_any (is_bordered p) rest) none in
    off-append p (shape_edges shape) (all_edges rest) ∙ and_from (off p (shape_edges shape)) (off p (all_edges rest))
    (not-false (off p (shape_edges shape)) both.0) (off_all p rest both.1)

module _ (moment : ℤ) (p : Point) (h : List ℕ) where
  area_free : (areas : List AreaVersion) → list_any (is_area_border moment p) areas ≡ false
      → list_any (is_bordered p) (area_at moment h areas) ≡ false
  area_free [] none = refl
  area_free (a ∷ rest) none =
      let both = or_parts (is_area_border moment p a) (list_any (is_area_border moment p) rest) none in
      by_test (area_free rest both.1) both.0 (is_area_at moment h a) refl
    where
      by_test : list_any (is_bordered p) (area_at moment h rest) ≡ false → is_area_border moment p a ≡ false → (t : Bool)
          → is_area_at moment h a ≡ t
          → list_any (is_bordered p)
          (unwrap_or (option_map (λ (b : AreaVersion). b.shapes) (cond t (Some a) (find (is_area_at moment h) rest))) []) ≡ false
      by_test behind here false e = behind
      by_test behind here true e =
          let held = same_span moment a.since a.until ∙ (and_parts (bytes_eq a.holder h) (has_begun moment a.since a.until) e).1 in
          sym (ap (λ (t : Bool). t && list_any (is_bordered p) a.shapes) held) ∙ here

  parts_free : (vs : List Version) → list_any (is_part_border moment p) vs ≡ false
      → list_any (is_bordered p) (ground_of (parts_at moment h vs)) ≡ false
  parts_free vs none =
      any_map (λ (q : LevelItem). q.shape) (is_bordered p) (filter is_ground (parts_at moment h vs))
      ∙ (any_filter (λ (q : LevelItem). is_bordered p q.shape) is_ground (parts_at moment h vs)
      ∙ (any_map part_of (λ (q : LevelItem). is_ground q && is_bordered p q.shape) (filter (is_object_at moment h) vs)
      ∙ (any_filter (λ (v : Version). is_ground (part_of v) && is_bordered p v.item.rings) (is_object_at moment h) vs
      ∙ none_stricter (is_part_border moment p)
      (λ (v : Version). is_object_at moment h v && (is_ground (part_of v) && is_bordered p v.item.rings))
      stricter vs none)))
    where
      stricter : (v : Version) → is_part_border moment p v ≡ false
          → (is_object_at moment h v && (is_ground (part_of v) && is_bordered p v.item.rings)) ≡ false
      stricter v e =
          ap (λ (b : Bool). (bytes_eq v.holder h && b) && (is_ground (part_of v) && is_bordered p v.item.rings))
          (sym (same_span moment v.since v.until))
          ∙ narrowed (bytes_eq v.holder h) (holds moment v.since v.until) (is_ground (part_of v)) (is_bordered p v.item.rings) e

  -- a holder's ground parts in which the point lies
  counted : (vs : List Version) → cover_count p (ground_of (parts_at moment h vs)) ≡ count_by (is_own h) (filter (is_part_at moment p) vs)
  counted vs =
      count_map (λ (q : LevelItem). q.shape) (covers p) (filter is_ground (parts_at moment h vs))
      ∙ (count_filter (λ (q : LevelItem). covers p q.shape) is_ground (parts_at moment h vs)
      ∙ (count_map part_of (λ (q : LevelItem). is_ground q && covers p q.shape) (filter (is_object_at moment h) vs)
      ∙ (count_filter (λ (v : Version). is_ground (part_of v) && covers p v.item.rings) (is_object_at moment h) vs
      ∙ (count_agree (λ (v : Version). is_object_at moment h v && (is_ground (part_of v) && covers p v.item.rings))
      (λ (v : Version). is_part_at moment p v && is_own h v) same vs
      ∙ sym (count_filter (is_own h) (is_part_at moment p) vs)))))
    where
      same : (v : Version)
          → (is_object_at moment h v && (is_ground (part_of v) && covers p v.item.rings)) ≡ (is_part_at moment p v && is_own h v)
      same v =
          ap (λ (b : Bool). (bytes_eq v.holder h && b) && (is_ground (part_of v) && covers p v.item.rings))
          (sym (same_span moment v.since v.until))
          ∙ turned (bytes_eq v.holder h) (holds moment v.since v.until) (is_ground (part_of v)) (covers p v.item.rings)

-- off the borders is off the edges of each holder's map
pub free : (s : State) (moment : ℤ) (p : Point) → is_border s moment p ≡ false → (h : List ℕ) → off p (edges_of (map_at moment h s)) ≡ true
free s moment p off_border h =
    let both = or_parts (list_any (is_area_border moment p) s.areas) (list_any (is_part_border moment p) s.versions) off_border in
    let parts = all_edges (ground_of (parts_at moment h s.versions)) in
    let area = all_edges (area_at moment h s.areas) in
    off-append p parts (map reversed area)
    ∙ and_from (off p parts) (off p (map reversed area))
    (off_all p (ground_of (parts_at moment h s.versions)) (parts_free moment p h s.versions both.1))
    (off-map_reversed p area ∙ off_all p (area_at moment h s.areas) (area_free moment p h s.areas both.0))

word_of_first : (l : List Version) (word : List ℕ) → IsPartWord l word → word ≡ part_word (first_of l)
word_of_first [] word is = is
word_of_first (v ∷ []) word is = is
word_of_first (v ∷ w ∷ more) word is = absurd is

-- what is known of areas and ground parts around the point
module _ (s : State) (moment : ℤ) (p : Point)
    (one_area : (holder other : List ℕ) → covers_any p (area_at moment holder s.areas) ≡ true → covers_any p (area_at moment other s.areas) ≡ true
    → holder ≡ other)
    (one_part : (holder : List ℕ) → covers_any p (area_at moment holder s.areas) ≡ true
    → cover_count p (ground_of (parts_at moment holder s.versions)) ≡ 1)
    (none : (holder : List ℕ) → covers_any p (area_at moment holder s.areas) ≡ false
    → cover_count p (ground_of (parts_at moment holder s.versions)) ≡ 0) where
  -- the holder of a part around the point has the area around it
  in_area : (h : List ℕ) → 0 < count_by (is_own h) (parts_around s moment p) → covers_any p (area_at moment h s.areas) ≡ true
  in_area h some = elim (cases_Bool (covers_any p (area_at moment h s.areas))) [
    | inl t ↦ t
    | inr t ↦ absurd (omega (arith, some, counted moment p h s.versions, none h t))
  ]

  own_one : (v : Version) → ◌≡◌ {A = ℕ} (cond (is_own v.holder v) 1 0) 1
  own_one v = ap (λ (t : Bool). cond {A = ℕ} t 1 0) ((bytes_eq-Decides v.holder v.holder).1 refl)

  not_two : (v w : Version) (more : List Version) → parts_around s moment p ≡ v ∷ w ∷ more → ⊥
  not_two v w more e =
      let two : (h : List ℕ)
      → count_by (is_own h) (parts_around s moment p) ≡ cond (is_own h v) 1 0 + (cond (is_own h w) 1 0 + count_by (is_own h) more) =
      λ h. ap (count_by (is_own h))
      e ∙ (count_cons (is_own h) v (w ∷ more) ∙ ap (λ (n : ℕ). cond (is_own h v) 1 0 + n) (count_cons (is_own h) w more)) in
      let in_v = in_area v.holder (omega (arith, two v.holder, own_one v)) in
      let in_w = in_area w.holder (omega (arith, two w.holder, own_one w)) in
      let same = one_area v.holder w.holder in_v in_w in
      let w_own : ◌≡◌ {A = ℕ} (cond (is_own v.holder w) 1 0) 1 = ap (λ (h : List ℕ). cond {A = ℕ} (is_own h w) 1 0) same ∙ own_one w in
      omega (arith, two v.holder, own_one v, w_own, counted moment p v.holder s.versions, one_part v.holder in_v)

  first_word : (l : List Version) → parts_around s moment p ≡ l → (o : Option Version) → o ≡ first_of l → IsPartWord l (part_word o)
  first_word [] e o is = ap part_word is
  first_word (v ∷ []) e o is = ap part_word is
  first_word (v ∷ w ∷ more) e o is = absurd (not_two v w more e)

  pub part_is : IsPartWord (parts_around s moment p) (part_word (find (is_part_at moment p) s.versions))
  part_is = first_word (parts_around s moment p) refl (find (is_part_at moment p) s.versions) (found_first (is_part_at moment p) s.versions)

module _ (s : State) (moment : ℤ) (p : Vertex) where
  -- the word of the first part, or BORDER
  abbrev told : Bool → List ℕ
  told t = cond t (codes "BORDER") (part_word (part_at s moment (point_of p)))

  pub right_word : (t : Bool) → (t ≡ false → IsPartWord (parts_around s moment (point_of p)) (part_word (part_at s moment (point_of p))))
      → MatchBool t (told t ≡ codes "BORDER") (IsPartWord (parts_around s moment (point_of p)) (told t))
  right_word true off_border = refl
  right_word false off_border = off_border refl

  pub only_word : (t : Bool) (word : List ℕ) → MatchBool t (word ≡ codes "BORDER") (IsPartWord (parts_around s moment (point_of p)) word) → word ≡ told t
  only_word true word is = is
  only_word false word is =
      word_of_first (parts_around s moment (point_of p)) word is ∙ ap part_word
      (sym (found_first (is_part_at moment (point_of p)) s.versions))
