-- The points of an edge lie in each box that has both its ends, and boxes that grow by edges hold them.
use Rattle.std.proofs.Common.{◌≡◌, ℕ, refl, sym, ap, ◌∙◌, arith, ◌+◌, ◌<◌, suc, List, [], ◌∷◌, ◌++◌, length, take, get_or, subst}
use Rattle.std.specs.Prelude.{ℤ, pos, ◌*ℤ◌, ◌<ℤ◌, ◌≤ℤ◌, true}
use Rattle.std.specs.Int.{int_min, int_max}
use Rattle.std.specs.List.{AllByRecursion}
use Rattle.std.proofs.lemmas.Int.{clamps}
use Rattle.std.proofs.lemmas.List.{take_all, take_more}
use Rattle.std.proofs.lemmas.List.Elements.{All-from_recursion, recursion_from_All}
use Rattle.rd_plane.specs.Bounds.{Box, LiesInBox, IsLeastBox, HoldsAll, HaveCommonPoint}
use Rattle.rd_plane.specs.EdgeBoxes.{HoldsEdge, HoldsEdges}
use Rattle.rd_plane.specs.Plane.{Vertex, Segment, Point, point_of, on}
use Rattle.rd_plane.proofs.Polynomials.{linear, mul-le, one-mul}
use Rattle.rd_plane.proofs.Touching.{On-from_on}

-- a number between q a and q b, where a and b lie between low and high
above : (q m a b low : ℤ) → pos 0 <ℤ q → (pos 1 *ℤ low) ≤ℤ a → (pos 1 *ℤ low) ≤ℤ b → int_min (q *ℤ a) (q *ℤ b) ≤ℤ m → (q *ℤ low) ≤ℤ m
above q m a b low h k l u = omega (
  arith,
  linear,
  clamps,
  u,
  mul-le q low a (omega (arith, linear, h)) (omega (arith, linear, k, one-mul low)),
  mul-le q low b (omega (arith, linear, h)) (omega (arith, linear, l, one-mul low)),
)

below : (q m a b high : ℤ) → pos 0 <ℤ q → a ≤ℤ (pos 1 *ℤ high) → b ≤ℤ (pos 1 *ℤ high) → m ≤ℤ int_max (q *ℤ a) (q *ℤ b) → m ≤ℤ (q *ℤ high)
below q m a b high h k l u = omega (
  arith,
  linear,
  clamps,
  u,
  mul-le q a high (omega (arith, linear, h)) (omega (arith, linear, k, one-mul high)),
  mul-le q b high (omega (arith, linear, h)) (omega (arith, linear, l, one-mul high)),
)

-- a box that has both ends of an edge has each point of it
pub edge_in_box : (box : Box) (e : Segment) (p : Point) → HoldsEdge box e → on p e ≡ true → LiesInBox box p
edge_in_box box e p t o = let h = On-from_on p e o in record {
  west = above p.q p.px e.a.x e.b.x box.low.x p.positive t.0.west t.1.west h.from_x;
  east = below p.q p.px e.a.x e.b.x box.high.x p.positive t.0.east t.1.east h.to_x;
  south = above p.q p.py e.a.y e.b.y box.low.y p.positive t.0.south t.1.south h.from_y;
  north = below p.q p.py e.a.y e.b.y box.high.y p.positive t.0.north t.1.north h.to_y;
}

pub holds_edge : (box : Box) (e : Segment) → IsLeastBox (e.a ∷ e.b ∷ []) box → HoldsEdge box e
holds_edge box e l = (l.holds 0 e.a (omega arith), l.holds 1 e.a (omega arith))

-- edges whose boxes lie apart have no common point
pub boxes_meet : (box other : Box) (e f : Segment) (p : Point) → HoldsEdge box e → HoldsEdge other f → on p e ≡ true → on p f ≡ true
    → HaveCommonPoint box other
boxes_meet box other e f p h k oe of = (p, edge_in_box box e p h oe, edge_in_box other f p k of)

-- ---- the box of the first i edges behind the first one
abbrev pub corners : List Segment → List Vertex
corners [] = []
corners (e ∷ es) = e.a ∷ (e.b ∷ corners es)

corners-append : (es fs : List Segment) → corners (es ++ fs) ≡ corners es ++ corners fs
corners-append [] fs = refl
corners-append (e ∷ es) fs = ap (λ l. e.a ∷ (e.b ∷ l)) (corners-append es fs)

pub record IsEdgeBox (edges : List Segment) (i : ℕ) (box : Box) : Type 0 where
  pub least : IsLeastBox (corners (take (suc i) edges)) box

pub one_edge : (edges : List Segment) (first : Segment) (behind : List Segment) (box : Box) → edges ≡ first ∷ behind
    → IsLeastBox (first.a ∷ first.b ∷ []) box → IsEdgeBox edges 0 box
one_edge edges first behind box q l = record { least = subst (λ es. IsLeastBox (corners (take (suc 0) es)) box) (sym q) l }

pub edge_more : (edges : List Segment) (first : Segment) (behind : List Segment) (i : ℕ) (e : Segment) (box own grown : Box)
    → edges ≡ first ∷ behind → i < length behind → get_or behind i e ≡ e → IsEdgeBox edges i box → IsLeastBox (e.a ∷ e.b ∷ []) own →
    ((corners others : List Vertex) → IsLeastBox corners box → IsLeastBox others own → IsLeastBox (corners ++ others) grown)
    → IsEdgeBox edges (i + 1) grown
edge_more edges first behind i e box own grown p h q b l j = record {
  least = subst (λ es. IsLeastBox (corners (take (suc (i + 1)) es)) grown) (sym p)
      (subst (λ c. IsLeastBox c grown) whole
      (j (corners (first ∷ take i behind)) (e.a ∷ e.b ∷ []) (subst (λ es. IsLeastBox (corners (take (suc i) es)) box) p b.least) l));
}
  where
    whole : corners (first ∷ take i behind) ++ (e.a ∷ e.b ∷ []) ≡ corners (first ∷ take (i + 1) behind)
    whole = sym (corners-append (first ∷ take i behind) (e ∷ [])) ∙ ap (λ f. corners ((first ∷ take i behind) ++ f ∷ []))
        (sym q) ∙ ap (λ l. corners (first ∷ l)) (sym (take_more behind i e h))

held : (box : Box) (es : List Segment) → AllByRecursion (λ v. LiesInBox box (point_of v)) (corners es) → AllByRecursion (HoldsEdge box) es
held box [] h = tt
held box (e ∷ es) h = ((h.0, h.1.0), held box es h.1.1)

pub edges_held : (edges : List Segment) (first : Segment) (behind : List Segment) (i : ℕ) (box : Box) → edges ≡ first ∷ behind
    → length behind ≡ i → IsEdgeBox edges i box → HoldsEdges box edges
edges_held edges first behind i box q n b = All-from_recursion (HoldsEdge box) edges (held box edges
    (recursion_from_All (λ v. LiesInBox box (point_of v)) (corners edges)
    (subst (λ l. HoldsAll box (corners l)) (take_all (suc i) edges (omega (arith, ap length q, n))) b.least.holds)))
