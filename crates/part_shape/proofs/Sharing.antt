-- Two sound shapes: their edges are such as a sweep asks for, and where their boxes lie apart they share no point.
use Rattle.std.proofs.Common.{◌≡◌, refl, sym, ◌∙◌, inl, inr, List, [], ◌∷◌}
use Rattle.std.specs.Prelude.{true, ◌&&◌}
use Rattle.std.specs.List.{AllByRecursion}
use Rattle.std.proofs.lemmas.Bool.{cases_Bool, and_parts, both_ways}
use Rattle.std.proofs.lemmas.List.Elements.{All-from_recursion, recursion_from_All}
use Rattle.rd_plane.specs.Bounds.{Box, IsLeastBox, HaveCommonPoint, LiesInBox, Overlap}
use Rattle.rd_plane.specs.Covering.{AreApart as AreasApart, covers, covers_any}
use Rattle.rd_plane.specs.EdgeBoxes.{HoldsEdge, HoldsEdges}
use Rattle.rd_plane.specs.Plane.{Vertex, Point, point_of, off}
use Rattle.rd_plane.specs.Shapes.{IsSoundShape, shape_edges, ring_edges, all_edges}
use Rattle.rd_plane.proofs.Members.{all_left, all_right, all_join}
use Rattle.rd_plane.proofs.RingEdges.{shape_balance}
use Rattle.rd_plane.proofs.Winding.{off-append}
use Rattle.slab_wind.specs.Sharing.{AreOfShape, Share}
use Rattle.slab_wind.proofs.Outside.{boxes_overlap, boxes_share}
use Rattle.part_shape.specs.Faults.{corners_of}
use Rattle.part_shape.proofs.InBoxes.{ends_of}
use Rattle.part_shape.proofs.Joined.{shape_joined}
use Rattle.part_shape.proofs.OneFault.{sound_simple}

pub of_shape : (s : List (List Vertex)) → IsSoundShape s → AreOfShape (shape_edges s)
of_shape s h = record { joined = shape_joined s (sound_simple s h) h.apart; balanced = shape_balance s; wound = h.wound }

-- a box of the corners holds the edges
rings_held : (box : Box) (rings : List (List Vertex)) → AllByRecursion (λ v. LiesInBox box (point_of v)) (corners_of rings)
    → AllByRecursion (HoldsEdge box) (shape_edges rings)
rings_held box [] h = tt
rings_held box (ring ∷ rings) h = all_join (HoldsEdge box) (ring_edges ring) (shape_edges rings)
    (ends_of (λ v. LiesInBox box (point_of v)) ring (all_left (λ v. LiesInBox box (point_of v)) ring (corners_of rings) h))
    (rings_held box rings (all_right (λ v. LiesInBox box (point_of v)) ring (corners_of rings) h))

pub shape_held : (box : Box) (rings : List (List Vertex)) → IsLeastBox (corners_of rings) box → HoldsEdges box (shape_edges rings)
shape_held box rings l = All-from_recursion (HoldsEdge box) (shape_edges rings)
    (rings_held box rings (recursion_from_All (λ v. LiesInBox box (point_of v)) (corners_of rings) l.holds))

-- shapes that share a point have boxes that overlap
pub boxes_overlapping : (box other : Box) (s t : List (List Vertex)) → IsLeastBox (corners_of s) box → IsLeastBox (corners_of t) other
    → Share (shape_edges s) (shape_edges t) → Overlap box other
boxes_overlapping box other s t l m k
    = boxes_overlap box other (shape_edges s) (shape_edges t) (shape_held box s l) (shape_held other t m) (shape_balance s) (shape_balance t)
    k

-- and so a common point
pub boxes_common : (box other : Box) (s t : List (List Vertex)) → IsLeastBox (corners_of s) box → IsLeastBox (corners_of t) other
    → Share (shape_edges s) (shape_edges t) → HaveCommonPoint box other
boxes_common box other s t l m k
    = boxes_share box other (shape_edges s) (shape_edges t) (shape_held box s l) (shape_held other t m) (shape_balance s) (shape_balance t)
    k

pub not_overlapping : (box other : Box) (s t : List (List Vertex)) → IsLeastBox (corners_of s) box → IsLeastBox (corners_of t) other
    → (Overlap box other → ⊥) → Share (shape_edges s) (shape_edges t) → ⊥
not_overlapping box other s t l m n k = n (boxes_overlapping box other s t l m k)

-- ---- shapes that share no point are apart, and the other way round
off_one : (p : Point) (s : List (List Vertex)) → off p (all_edges (s ∷ [])) ≡ true → off p (shape_edges s) ≡ true
off_one p s o = (and_parts (off p (shape_edges s)) (off p []) (sym (off-append p (shape_edges s) []) ∙ o)).0

one_off : (p : Point) (s : List (List Vertex)) → off p (shape_edges s) ≡ true → off p (all_edges (s ∷ [])) ≡ true
unfolding off
one_off p s o = off-append p (shape_edges s) [] ∙ rw o refl

pub apart_from : (s t : List (List Vertex)) → (Share (shape_edges s) (shape_edges t) → ⊥) → AreasApart (s ∷ []) (t ∷ [])
apart_from s t n p os ot = elim (cases_Bool (covers p s)) [
  | inr a ↦ rw a refl
  | inl a ↦ elim (cases_Bool (covers p t)) [
    | inr b ↦ rw (a, b) refl
    | inl b ↦ absurd (n (p, record { off_first = off_one p s os; off_second = off_one p t ot; in_first = a; in_second = b }))
  ]
]

pub apart_shares_not : (s t : List (List Vertex)) → AreasApart (s ∷ []) (t ∷ []) → Share (shape_edges s) (shape_edges t) → ⊥
apart_shares_not s t a k = both_ways (covers_any k.0 (s ∷ []) && covers_any k.0 (t ∷ []))
    (a k.0 (one_off k.0 s k.1.off_first) (one_off k.0 t k.1.off_second)) both
  where
    both : (covers_any k.0 (s ∷ []) && covers_any k.0 (t ∷ [])) ≡ true
    both = let x : covers k.0 s ≡ true = k.1.in_first in let y : covers k.0 t ≡ true = k.1.in_second in rw (x, y) refl
