-- The shapes of an area block keep the rules of areas, or are refused with one note.
use Rattle.std.proofs.Common.{◌≡◌, ◌≢◌, ◌∙◌, ◌<◌, ℕ, List, [], length, ap, sym, refl, subst, arith, inl, inr}
use Rattle.std.specs.Cmp.Lexicographic.{slice_cmp}
use Rattle.std.specs.List.{All}
use Rattle.std.specs.Ordering.{nat_cmp, ordering_reverse}
use Rattle.std.specs.declared.cmp.Ordering.{Ordering}
use Rattle.std.specs.declared.cmp.Ordering.TheVariants.{Less, Equal, Greater}
use Rattle.std.proofs.lemmas.Bool.{cases_order}
use Rattle.std.proofs.lemmas.Cmp.{nat_list_cmp_total}
use Rattle.std.proofs.lemmas.List.{get_or-take, length-take-le}
use Rattle.std.specs.FinMap.{nat_cmp-IsAntisymmetric, slice_cmp-IsAntisymmetric}
use Rattle.rd_plane.specs.Covering.{IsSoundArea}
use Rattle.rd_plane.specs.Plane.{Vertex}
use Rattle.rd_plane.specs.Shapes.{IsSoundShape}
use Rattle.ring_simple.specs.Faults.{IsPairBefore}
use Rattle.part_shape.specs.declared.fault.ShapeNote.{ShapeNote}
use Rattle.part_shape.specs.Faults.{IsShapeNote}
use Rattle.area_book.specs.declared.version.AreaVersion.{AreaVersion}
use Rattle.area_book.specs.Rule.{IsFirstHolder, IsFirstPair, IsFirstUnsound, KeepApart, KeepsAreas, shape_at}
use Rattle.map_rules.specs.declared.refusal.AreaNote.{AreaNote}
use Rattle.map_rules.specs.declared.refusal.AreaNote.TheVariants as note
use Rattle.map_rules.specs.Sound.{IsAreaNote}

-- of two that are not less than each other, neither is greater
pub neither_less : (o p : Ordering) → o ≡ ordering_reverse p → o ≢ Less → p ≢ Less → o ≡ Equal
neither_less Less p e h k = absurd (h refl)
neither_less Equal p e h k = refl
neither_less Greater Less e h k = absurd (k refl)
neither_less Greater Equal e h k = cc
neither_less Greater Greater e h k = cc

-- texts that neither come before the other are one
pub list_equal : (a b : List ℕ) → slice_cmp nat_cmp a b ≡ Equal → a ≡ b
list_equal = slice_cmp-IsAntisymmetric nat_cmp-IsAntisymmetric

-- two shapes of a sound area keep apart
pub keep_of : (shapes : List (List (List Vertex))) → IsSoundArea shapes → (i j : ℕ) → i < j → j < length shapes
    → KeepApart (shape_at shapes i) (shape_at shapes j)
keep_of shapes a i j l n = record { apart = a.apart i j [] l n; touching = a.touching i j [] l n }

-- the shape at a place before the first that is not sound is sound
sound_before : (shapes : List (List (List Vertex))) (s t : ℕ) (what : ShapeNote) → IsFirstUnsound shapes t what → s < t
    → IsSoundShape (shape_at shapes s)
sound_before shapes s t what first before =
    subst (λ (r : List (List Vertex)). IsSoundShape r) (get_or-take t shapes s [] before)
    (first.before s [] (omega (arith, length-take-le t shapes (omega (arith, first.inside)))))

-- of two places neither of which is before the other, both are one
one_place : (s t : ℕ) → ¬ (s < t) → ¬ (t < s) → s ≡ t
one_place s t h k = omega (arith, h, k)

-- so it is with pairs of places
one_pair : (i j k l : ℕ) → ¬ IsPairBefore i j k l → ¬ IsPairBefore k l i j → (i ≡ k) × (j ≡ l)
one_pair i j k l h n = elim (cases_order i k) [
  | inl e ↦ (e, one_place j l (λ b. h (inr (e, b))) (λ b. n (inr (sym e, b))))
  | inr o ↦ elim o [ inl b ↦ absurd (h (inl b)) | inr b ↦ absurd (n (inl b)) ]
]

module _
    (one_note : (rings : List (List Vertex)) (what other : ShapeNote) → IsShapeNote rings what → IsShapeNote rings other → what ≡ other)
    (sound_has_none : (rings : List (List Vertex)) (what : ShapeNote) → IsSoundShape rings → ¬ IsShapeNote rings what)
    (areas : List AreaVersion) (own : List ℕ) (shapes : List (List (List Vertex))) where
  -- where all are sound, none is the first that is not
  pub no_shape : (s : ℕ) (what : ShapeNote) → IsFirstUnsound shapes s what → All IsSoundShape shapes → ⊥
  no_shape s what u a = sound_has_none (shape_at shapes s) what (a s [] u.inside) u.wrong

  not_before : (s t : ℕ) (what other : ShapeNote) → IsFirstUnsound shapes s what → IsFirstUnsound shapes t other → s < t → ⊥
  not_before s t what other h k before = sound_has_none (shape_at shapes s) what (sound_before shapes s t other k before) h.wrong

  -- one shape is the first that is not sound, for one reason
  pub one_shape : (s t : ℕ) (what other : ShapeNote) → IsFirstUnsound shapes s what → IsFirstUnsound shapes t other
      → (s ≡ t) × (what ≡ other)
  one_shape s t what other h k =
      let place : s ≡ t = one_place s t (not_before s t what other h k) (not_before t s other what k h) in
      (place, one_note (shape_at shapes t) what other (subst (λ (n : ℕ). IsShapeNote (shape_at shapes n) what) place h.wrong) k.wrong)

  -- one pair is the least that does not keep apart
  pub one_first_pair : (i j k l : ℕ) → IsFirstPair shapes i j → IsFirstPair shapes k l → (i ≡ k) × (j ≡ l)
  one_first_pair i j k l h n
      = one_pair i j k l (λ b. h.wrong (n.least i j h.before h.inside b)) (λ b. n.wrong (h.least k l n.before n.inside b))

  -- one holder is the least whose area is not apart
  pub one_holder : (x y : List ℕ) → IsFirstHolder areas own shapes x → IsFirstHolder areas own shapes y → x ≡ y
  one_holder x y h k = list_equal x y
      (neither_less (slice_cmp nat_cmp x y) (slice_cmp nat_cmp y x) (nat_list_cmp_total.antisymm x y) (λ l. h.wrong (k.least x h.other l))
      (λ l. k.wrong (h.least y k.other l)))

  -- shapes that keep the rules have no note
  pub no_area_note : (what : AreaNote) → KeepsAreas areas own shapes → ¬ IsAreaNote areas own shapes what
  no_area_note (note.Shape s what) h k = no_shape s what k h.sound.sound
  no_area_note (note.Own i j) h k = k.wrong (keep_of shapes h.sound i j k.before k.inside)
  no_area_note (note.Meets g) h k = k.wrong (h.apart g k.other)

  -- and others have one
  pub one_area_note : (what other : AreaNote) → IsAreaNote areas own shapes what → IsAreaNote areas own shapes other → what ≡ other
  one_area_note (note.Shape s what) (note.Shape t other) h k = let same = one_shape s t what other h k in
      ap (λ (n : ℕ). note.Shape n what) same.0 ∙ ap (λ (w : ShapeNote). note.Shape t w) same.1
  one_area_note (note.Shape s what) (note.Own i j) h k = absurd (no_shape s what h k.sound)
  one_area_note (note.Shape s what) (note.Meets g) h k = absurd (no_shape s what h k.sound.sound)
  one_area_note (note.Own i j) (note.Shape s what) h k = absurd (no_shape s what k h.sound)
  one_area_note (note.Own i j) (note.Own m l) h k = let same = one_first_pair i j m l h k in
      ap (λ (x : ℕ). note.Own x j) same.0 ∙ ap (λ (y : ℕ). note.Own m y) same.1
  one_area_note (note.Own i j) (note.Meets g) h k = absurd (h.wrong (keep_of shapes k.sound i j h.before h.inside))
  one_area_note (note.Meets g) (note.Shape s what) h k = absurd (no_shape s what k h.sound.sound)
  one_area_note (note.Meets g) (note.Own i j) h k = absurd (k.wrong (keep_of shapes h.sound i j k.before k.inside))
  one_area_note (note.Meets g) (note.Meets x) h k = ap (λ (l : List ℕ). note.Meets l) (one_holder g x h k)
