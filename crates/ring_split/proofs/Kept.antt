-- What a line leaves of a list of edges.
use Rattle.std.proofs.Common.{◌≡◌, ℕ, ◌+◌, ◌<◌, ◌≤◌, sym, ◌∙◌, arith, List, [], ◌∷◌, ◌++◌, length, inl, inr, subst}
use Rattle.std.specs.Prelude.{slice_index_or, pos, ◌<ℤ◌, ◌≤ℤ◌, IsTrue}
use Rattle.std.specs.List.{Contains}
use Rattle.std.proofs.Math.ListN.{take}
use Rattle.std.proofs.lemmas.List.Elements.{Contains-push, Contains-push_cases, Contains-append_left, Contains-get_or}
use Rattle.rd_plane.specs.Plane.{Vertex, Segment, Point, on, side, reversed}
use Rattle.rd_plane.specs.Shapes.{ring_edges}
use Rattle.rd_plane.proofs.Crossing.{side-reversed}
use Rattle.rd_plane.proofs.Polynomials.{linear, by_sign}
use Rattle.rd_plane.proofs.RingPlaces.{length-ring, other_default}
use Rattle.ring_split.specs.Parts.{AreClean, AreInside, HasAllLeftOf}
use Rattle.ring_split.proofs.Lists.{all_of, more_of}

-- an edge right of the line may be passed over
pub passed_over : (line : Segment) (ring : List Vertex) (places kept : List ℕ) (i : ℕ) (e : Segment) → AreInside ring places
    → i < length places → e ≡ slice_index_or (ring_edges ring) (slice_index_or places i 0) e →
    ((p : Point) → IsTrue (on p e) → side p line <ℤ pos 0) → HasAllLeftOf line ring (take i places) kept
    → HasAllLeftOf line ring (take (i + 1) places) kept
passed_over line ring places kept i e a l q r h k d p = more_of
    (λ n. IsTrue (on p (slice_index_or (ring_edges ring) n d)) → pos 0 ≤ℤ side p line → Contains kept n) places i 0 l (λ n c. h n d p c)
    (λ o s. absurd (right o s)) k
  where
    here : e ≡ slice_index_or (ring_edges ring) (slice_index_or places i 0) d
    here = q ∙ other_default (ring_edges ring) (slice_index_or places i 0) e d
        (omega (arith, length-ring ring, a (slice_index_or places i 0) (Contains-get_or places i 0 l)))

    right : IsTrue (on p (slice_index_or (ring_edges ring) (slice_index_or places i 0) d)) → pos 0 ≤ℤ side p line → ⊥
    right o s = let t = r p (subst (λ f. IsTrue (on p f)) (sym here) o) in omega (arith, linear, t, s)

-- each other edge is kept
pub taken : (line : Segment) (ring : List Vertex) (places kept : List ℕ) (i : ℕ) → i < length places
    → HasAllLeftOf line ring (take i places) kept → HasAllLeftOf line ring (take (i + 1) places) (kept ++ slice_index_or places i 0 ∷ [])
taken line ring places kept i l h k d p c o s = more_of (λ n. IsTrue (on p (slice_index_or (ring_edges ring) n d)) → pos 0 ≤ℤ side p line
    → Contains (kept ++ slice_index_or places i 0 ∷ []) n) places i 0 l
    (λ n c o s. Contains-append_left kept (slice_index_or places i 0 ∷ []) n (h n d p c o s))
    (λ o s. Contains-push kept (slice_index_or places i 0)) k c o s

pub ended : (line : Segment) (ring : List Vertex) (places kept : List ℕ) (i : ℕ) → length places ≤ i
    → HasAllLeftOf line ring (take i places) kept → HasAllLeftOf line ring places kept
ended line ring places kept i l h k d p = all_of
    (λ n. IsTrue (on p (slice_index_or (ring_edges ring) n d)) → pos 0 ≤ℤ side p line → Contains kept n) places i l (λ n c. h n d p c) k

pub inside_more : (ring : List Vertex) (places kept : List ℕ) (i : ℕ) → AreInside ring places → i < length places → AreInside ring kept
    → AreInside ring (kept ++ slice_index_or places i 0 ∷ [])
inside_more ring places kept i a l h k c = elim (Contains-push_cases kept (slice_index_or places i 0) k c) [
  | inl t ↦ h k t
  | inr t ↦ subst (λ n. n < length ring) t (a (slice_index_or places i 0) (Contains-get_or places i 0 l))
]

-- two edges with a common point stand together on one side of the line
pub both_sides : (line : Segment) (ring : List Vertex) (places west east : List ℕ) → HasAllLeftOf line ring places west
    → HasAllLeftOf (reversed line) ring places east → AreClean ring west → AreClean ring east → AreClean ring places
both_sides line ring places west east w e cw ce i j ci cj b =
    let p = b.at in
    let left : pos 0 ≤ℤ side p line → ⊥ = λ s. cw i j (w i line p ci (b.first line) s) (w j line p cj (b.second line) s) b in
    by_sign (side p line) (λ s. left (omega (arith, linear, s))) (λ s. left (omega (arith, linear, s)))
    (λ s. let t : pos 0 ≤ℤ side p (reversed line) = omega (arith, linear, s, side-reversed p line) in ce i j
    (e i line p ci (b.first line) t) (e j line p cj (b.second line) t) b)
