-- The shapes of an area block keep the rules of areas, or are refused for one reason.
use Rattle.std.proofs.Common.{◌≡◌, ◌∙◌, ℕ, List, ap, refl}
use Rattle.std.specs.Prelude.{Option, Some, None}
use Rattle.std.specs.List.{All}
use Rattle.rd_plane.specs.Plane.{Vertex}
use Rattle.rd_plane.specs.Shapes.{IsSoundShape}
use Rattle.part_shape.specs.declared.fault.ShapeNote.{ShapeNote}
use Rattle.part_shape.specs.Faults.{IsShapeNote}
use Rattle.area_book.specs.declared.fault.AreaFault.{AreaFault}
use Rattle.area_book.specs.declared.fault.AreaFault.TheVariants as fault
use Rattle.area_book.specs.declared.version.AreaVersion.{AreaVersion}
use Rattle.area_book.specs.Rule.{IsFirstHolder, IsFirstPair, IsFirstUnsound}
use Rattle.alone_law.specs.Judging.{ShapesRule}
use Rattle.map_rules.proofs.OneArea.{keep_of, no_shape, one_first_pair, one_holder, one_shape}
use Rattle.map_rules.proofs.OneRule.{HasOne}

module _
    (one_note : (rings : List (List Vertex)) (note other : ShapeNote) → IsShapeNote rings note → IsShapeNote rings other → note ≡ other)
    (sound_has_none : (rings : List (List Vertex)) (note : ShapeNote) → IsSoundShape rings → ¬ IsShapeNote rings note)
    (areas : List AreaVersion) (own : List ℕ) (shapes : List (List (List Vertex))) where
  none_first : (s : ℕ) (what : ShapeNote) → IsFirstUnsound shapes s what → All IsSoundShape shapes → ⊥
  none_first = no_shape one_note sound_has_none areas own shapes

  two_shapes : (s t : ℕ) (what other : ShapeNote) → IsFirstUnsound shapes s what → IsFirstUnsound shapes t other
      → Some (fault.Shape s what) ≡ Some (fault.Shape t other)
  two_shapes s t what other h k = let same = one_shape one_note sound_has_none areas own shapes s t what other h k in
      ap (λ (n : ℕ). Some (fault.Shape n what)) same.0 ∙ ap (λ (w : ShapeNote). Some (fault.Shape t w)) same.1

  two_pairs : (i j k l : ℕ) → IsFirstPair shapes i j → IsFirstPair shapes k l → Some (fault.Own i j) ≡ Some (fault.Own k l)
  two_pairs i j k l h n = let same = one_first_pair one_note sound_has_none areas own shapes i j k l h n in
      ap (λ (x : ℕ). Some (fault.Own x j)) same.0 ∙ ap (λ (y : ℕ). Some (fault.Own k y)) same.1

  two_holders : (x y : List ℕ) → IsFirstHolder areas own shapes x → IsFirstHolder areas own shapes y
      → Some (fault.Meets x) ≡ Some (fault.Meets y)
  two_holders x y h k = ap (λ (g : List ℕ). Some (fault.Meets g)) (one_holder one_note sound_has_none areas own shapes x y h k)

  pub one_shapes : HasOne (ShapesRule areas own shapes)
  one_shapes = record { same = told }
    where
      told : (a b : Option AreaFault) → ShapesRule areas own shapes a → ShapesRule areas own shapes b → a ≡ b
      told None None h k = refl
      told None (Some (fault.Shape s what)) h k = absurd (none_first s what k h.sound.sound)
      told None (Some (fault.Own i j)) h k = absurd (k.wrong (keep_of shapes h.sound i j k.before k.inside))
      told None (Some (fault.Meets g)) h k = absurd (k.wrong (h.apart g k.other))
      told None (Some fault.NoMemory) h k = absurd k
      told (Some (fault.Shape s what)) None h k = absurd (none_first s what h k.sound.sound)
      told (Some (fault.Shape s what)) (Some (fault.Shape t other)) h k = two_shapes s t what other h k
      told (Some (fault.Shape s what)) (Some (fault.Own i j)) h k = absurd (none_first s what h k.sound)
      told (Some (fault.Shape s what)) (Some (fault.Meets g)) h k = absurd (none_first s what h k.sound.sound)
      told (Some (fault.Shape s what)) (Some fault.NoMemory) h k = absurd k
      told (Some (fault.Own i j)) None h k = absurd (h.wrong (keep_of shapes k.sound i j h.before h.inside))
      told (Some (fault.Own i j)) (Some (fault.Shape s what)) h k = absurd (none_first s what k h.sound)
      told (Some (fault.Own i j)) (Some (fault.Own m l)) h k = two_pairs i j m l h k
      told (Some (fault.Own i j)) (Some (fault.Meets g)) h k = absurd (h.wrong (keep_of shapes k.sound i j h.before h.inside))
      told (Some (fault.Own i j)) (Some fault.NoMemory) h k = absurd k
      told (Some (fault.Meets g)) None h k = absurd (h.wrong (k.apart g h.other))
      told (Some (fault.Meets g)) (Some (fault.Shape s what)) h k = absurd (none_first s what k h.sound.sound)
      told (Some (fault.Meets g)) (Some (fault.Own i j)) h k = absurd (k.wrong (keep_of shapes h.sound i j k.before k.inside))
      told (Some (fault.Meets g)) (Some (fault.Meets x)) h k = two_holders g x h k
      told (Some (fault.Meets g)) (Some fault.NoMemory) h k = absurd k
      told (Some fault.NoMemory) b h k = absurd h
