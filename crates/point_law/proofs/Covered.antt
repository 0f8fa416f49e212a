-- A point off all borders: in one area at most, in one ground part exactly where it is in an area.
use Rattle.std.proofs.Common.{◌≡◌, ◌≢◌, ◌∙◌, ℕ, List, ap, cond, sym, inl, inr, true, false, Bool, map}
use Rattle.std.specs.Prelude.{ℤ, ◌&&◌}
use Rattle.std.specs.Str.{bytes_eq}
use Rattle.std.proofs.lemmas.Bool.{cases_Bool, and_from, and_parts, both_ways}
use Rattle.std.proofs.lemmas.Slice.Eq.{bytes_eq-Decides}
use Rattle.rd_plane.proofs.Winding.{off-append, off-map_reversed}
use Rattle.rd_plane.specs.Covering.{cover_count, covers_any}
use Rattle.rd_plane.specs.Plane.{Point, off, reversed}
use Rattle.rd_plane.specs.Shapes.{all_edges}
use Rattle.local_check.specs.Maps.{ground_of}
use Rattle.map_rules.specs.Good.{Good}
use Rattle.map_rules.specs.State.{State, area_at, edges_of, map_at, parts_at}

module _ (s : State) (moment : ℤ) (p : Point) (g : Good s) (free : (h : List ℕ) → off p (edges_of (map_at moment h s)) ≡ true) where
  -- off the edges of an area
  off_area : (h : List ℕ) → off p (all_edges (area_at moment h s.areas)) ≡ true
  off_area h =
      let parts = all_edges (ground_of (parts_at moment h s.versions)) in
      let turned = map reversed (all_edges (area_at moment h s.areas)) in
      sym (off-map_reversed p (all_edges (area_at moment h s.areas))) ∙ (and_parts (off p parts) (off p turned)
      (sym (off-append p parts turned) ∙ free h)).1

  pub one_area : (holder other : List ℕ) → covers_any p (area_at moment holder s.areas) ≡ true
      → covers_any p (area_at moment other s.areas) ≡ true → holder ≡ other
  one_area holder other a b = elim (cases_Bool (bytes_eq holder other)) [
    | inl t ↦ (bytes_eq-Decides holder other).0 t
    | inr t ↦ absurd (both_ways (covers_any p (area_at moment holder s.areas) && covers_any p (area_at moment other s.areas))
        (g.apart moment holder other (λ e. both_ways (bytes_eq holder other) t ((bytes_eq-Decides holder other).1 e)) p (off_area holder)
        (off_area other))
        (and_from (covers_any p (area_at moment holder s.areas)) (covers_any p (area_at moment other s.areas)) a b))
  ]

  count : (h : List ℕ) → cover_count p (ground_of (parts_at moment h s.versions)) ≡ cond (covers_any p (area_at moment h s.areas)) 1 0
  count h = (g.maps moment h).tiled p (free h)

  pub one_part : (holder : List ℕ) → covers_any p (area_at moment holder s.areas) ≡ true
      → cover_count p (ground_of (parts_at moment holder s.versions)) ≡ 1
  one_part holder a = count holder ∙ ap (λ (b : Bool). cond b 1 0) a

  pub none_outside : (holder : List ℕ) → covers_any p (area_at moment holder s.areas) ≡ false
      → cover_count p (ground_of (parts_at moment holder s.versions)) ≡ 0
  none_outside holder a = count holder ∙ ap (λ (b : Bool). cond b 1 0) a

  pub none_of_others : (holder other : List ℕ) → covers_any p (area_at moment holder s.areas) ≡ true → other ≢ holder
      → cover_count p (ground_of (parts_at moment other s.versions)) ≡ 0
  none_of_others holder other a d = elim (cases_Bool (covers_any p (area_at moment other s.areas))) [
    | inl t ↦ absurd (d (one_area other holder t a))
    | inr t ↦ none_outside other t
  ]
