-- Areas that share a point have boxes that meet.
use Rattle.std.proofs.Common.{◌≡◌, ℕ, sym, ap, ◌∙◌, arith, ◌+◌, ◌<◌, List, [], ◌∷◌, ◌++◌, length, get_or, take, subst}
use Rattle.std.specs.Prelude.{Option, Some, None, MatchOption}
use Rattle.std.specs.List.{AllByRecursion, Contains}
use Rattle.std.proofs.lemmas.List.{take_more, append-nil}
use Rattle.std.proofs.lemmas.List.Concat.{flat_map-append}
use Rattle.std.proofs.lemmas.List.Elements.{All-contains, All-from_recursion, recursion_from_All}
use Rattle.rd_plane.specs.Bounds.{Box, IsLeastBox, LiesInBox}
use Rattle.rd_plane.specs.EdgeBoxes.{HoldsEdge, HoldsEdges}
use Rattle.rd_plane.specs.Plane.{Vertex, point_of}
use Rattle.rd_plane.specs.Shapes.{ring_edges, shape_edges}
use Rattle.rd_plane.proofs.Members.{all_each, all_join, all_left, all_right}
use Rattle.rd_plane.proofs.RingEdges.{shape_balance}
use Rattle.slab_wind.proofs.Outside.{boxes_share}
use Rattle.part_shape.specs.Faults.{corners_of}
use Rattle.part_shape.proofs.InBoxes.{ends_of}
use Rattle.area_book.specs.Others.{PairsShare}
use Rattle.area_book.specs.Standing.{BoxesMeet, IsBoxOf, all_corners}

abbrev Shape : Type 0
Shape = List (List Vertex)

-- ---- a box of the corners holds the edges of each shape
abbrev InBox : Box → Vertex → Type 0
InBox box v = LiesInBox box (point_of v)

rings_held : (box : Box) (rings : Shape) → AllByRecursion (InBox box) (corners_of rings)
    → AllByRecursion (HoldsEdge box) (shape_edges rings)
rings_held box [] h = tt
rings_held box (ring ∷ rings) h = all_join (HoldsEdge box) (ring_edges ring) (shape_edges rings)
    (ends_of (InBox box) ring (all_left (InBox box) ring (corners_of rings) h))
    (rings_held box rings (all_right (InBox box) ring (corners_of rings) h))

shape_held : (box : Box) (shapes : List Shape) (s : Shape) → IsLeastBox (all_corners shapes) box → Contains shapes s
    → HoldsEdges box (shape_edges s)
shape_held box shapes s l c = All-from_recursion (HoldsEdge box) (shape_edges s) (rings_held box s
    (All-contains (λ r. AllByRecursion (InBox box) (corners_of r)) shapes s
    (All-from_recursion (λ r. AllByRecursion (InBox box) (corners_of r)) shapes
    (all_each (InBox box) corners_of shapes (recursion_from_All (InBox box) (all_corners shapes) l.holds))) c))

none_in : (s : Shape) (shapes : List Shape) → shapes ≡ [] → Contains shapes s → ⊥
none_in s shapes e c = omega (arith, c.1, ap (λ (l : List Shape). length l) e)

pub share_meet : (one other : Option Box) (shapes others : List Shape) → IsBoxOf one shapes → IsBoxOf other others
    → PairsShare shapes others
    → BoxesMeet one other
share_meet None other shapes others b c p = absurd (none_in p.0 shapes b p.1)
share_meet (Some box) None shapes others b c p = absurd (none_in p.2.0 others c p.2.1)
share_meet (Some box) (Some near) shapes others b c p
    = boxes_share box near (shape_edges p.0) (shape_edges p.2.0) (shape_held box shapes p.0 b p.1)
    (shape_held near others p.2.0 c p.2.1) (shape_balance p.0) (shape_balance p.2.0) p.2.2

-- ---- shape by shape
corners_so_far : (bounds : Option Box) (shapes : List Shape) → IsBoxOf bounds shapes
    → MatchOption bounds (all_corners shapes ≡ []) (IsLeastBox
    (all_corners shapes))
corners_so_far None shapes b = ap all_corners b
corners_so_far (Some box) shapes b = b

pub box_more : (bounds : Option Box) (new own : Box) (shapes : List Shape) (i : ℕ) (s : Shape) → i < length shapes → get_or shapes i s ≡ s
    → IsBoxOf bounds (take i shapes) → IsLeastBox (corners_of s) own
    → ((corners others : List Vertex) → MatchOption bounds (corners ≡ []) (IsLeastBox corners) → IsLeastBox others own
    → IsLeastBox (corners ++ others) new) → IsBoxOf (Some new) (take (i + 1) shapes)
box_more bounds new own shapes i s l q b k j
    = subst (λ (vs : List Vertex). IsLeastBox vs new) (sym whole) (j (all_corners (take i shapes)) (corners_of s)
    (corners_so_far bounds (take i shapes) b) k)
  where
    whole : all_corners (take (i + 1) shapes) ≡ all_corners (take i shapes) ++ corners_of s
    whole = ap all_corners (take_more shapes i s l ∙ ap (λ (t : Shape). take i shapes ++ t ∷ []) q) ∙ flat_map-append corners_of
        (take i shapes) (s ∷ [])
        ∙ ap (λ (vs : List Vertex). all_corners (take i shapes) ++ vs) (append-nil (corners_of s))
