-- The edges of a ring by index, and the edge that the code makes.
use Rattle.std.proofs.Common.{◌≡◌, ℕ, ◌+◌, ◌<◌, ◌≤◌, refl, sym, ap, ◌∙◌, arith, zero, suc, List, [], ◌∷◌, ◌++◌, length, take}
use Rattle.std.specs.Prelude.{slice_index_or, pos}
use Rattle.std.proofs.lemmas.Int.{by_lt_z}
use Rattle.std.proofs.lemmas.List.{append_assoc, take_all, take_more}
use Rattle.rd_plane.specs.Plane.{Vertex, Segment}
use Rattle.rd_plane.specs.Shapes.{edges_along, ring_edges}
use Rattle.rd_plane.proofs.Polynomials.{linear}

-- a ring has as many edges as corners
pub length-along : (first u : Vertex) (ws : List Vertex) → length (edges_along first u ws) ≡ suc (length ws)
length-along first u [] = refl
length-along first u (w ∷ ws) = ap suc (length-along first w ws)

pub length-ring : (ring : List Vertex) → length (ring_edges ring) ≡ length ring
length-ring [] = refl
length-ring (v ∷ vs) = length-along v v vs

-- the edge at i, which is not the last
pub inner_edge : (first u : Vertex) (ws : List Vertex) (i : ℕ) (d : Segment) (x : Vertex) → suc i < length (u ∷ ws) →
    slice_index_or (edges_along first u ws) i d ≡ record { a = slice_index_or (u ∷ ws) i x; b = slice_index_or (u ∷ ws) (suc i) x }
inner_edge first u [] i d x h = absurd (omega (arith, h))
inner_edge first u (w ∷ ws) zero d x h = refl
inner_edge first u (w ∷ ws) (suc i) d x h = inner_edge first w ws i d x (omega (arith, h))

-- the last edge
pub last_edge : (first u : Vertex) (ws : List Vertex) (i : ℕ) (d : Segment) (x : Vertex) → suc i ≡ length (u ∷ ws) →
    slice_index_or (edges_along first u ws) i d ≡ record { a = slice_index_or (u ∷ ws) i x; b = first }
last_edge first u [] zero d x h = refl
last_edge first u [] (suc i) d x h = absurd (omega (arith, h))
last_edge first u (w ∷ ws) zero d x h = absurd (omega (arith, h))
last_edge first u (w ∷ ws) (suc i) d x h = last_edge first w ws i d x (omega (arith, h))

-- the edges of a ring: each but the last
pub ring_inner : (ring : List Vertex) (i : ℕ) (d : Segment) (x : Vertex) → i + 1 < length ring →
    slice_index_or (ring_edges ring) i d ≡ record { a = slice_index_or ring i x; b = slice_index_or ring (i + 1) x }
ring_inner [] i d x h = absurd (omega (arith, h))
ring_inner (v ∷ vs) i d x h = let e : i + 1 ≡ suc i = omega arith in rw e (inner_edge v v vs i d x (omega (arith, h)))

-- and the last
pub ring_last : (ring : List Vertex) (i : ℕ) (d : Segment) (x : Vertex) → i + 1 ≡ length ring →
    slice_index_or (ring_edges ring) i d ≡ record { a = slice_index_or ring i x; b = slice_index_or ring 0 x }
ring_last [] i d x h = absurd (omega (arith, h))
ring_last (v ∷ vs) i d x h = last_edge v v vs i d x (omega (arith, h))

-- an element within the list does not depend on the default
pub other_default : {X : Type 0} (xs : List X) (i : ℕ) (c d : X) → i < length xs → slice_index_or xs i c ≡ slice_index_or xs i d
other_default [] i c d h = absurd (omega (arith, h))
other_default (x ∷ xs) zero c d h = refl
other_default (x ∷ xs) (suc i) c d h = other_default xs i c d (omega (arith, h))

pub by_lt : {P : Type 0} (m n : ℕ) → (m < n → P) → (n ≤ m → P) → P
by_lt m n f g = by_lt_z (pos m) (pos n) (λ h. f (omega (arith, linear, h))) (λ h. g (omega (arith, linear, h)))

-- where the edge at i begins and ends
pub starts_at : (ring : List Vertex) (i : ℕ) (d : Segment) (x : Vertex) → i < length ring
    → (slice_index_or (ring_edges ring) i d).a ≡ slice_index_or ring i x
starts_at ring i d x h
    = by_lt (i + 1) (length ring) (λ k. ap (λ (e : Segment). e.a) (ring_inner ring i d x k))
    (λ k. ap (λ (e : Segment). e.a) (ring_last ring i d x (omega arith)))

-- ---- the edge that the code makes
segment_from : (e : Segment) (a b : Vertex) → e.a ≡ a → e.b ≡ b → e ≡ record { a = a; b = b }
segment_from e a b p q = rw (← p, ← q) refl

-- the edge that the code makes is that of the ring
pub edge_inner : (ring : List Vertex) (i k : ℕ) (e : Segment) (u v : Vertex) → i + 1 < length ring → k ≡ i + 1 → e.a ≡ u → e.b ≡ v
    → u ≡ slice_index_or ring i u → v ≡ slice_index_or ring k v → e ≡ slice_index_or (ring_edges ring) i e
edge_inner ring i k e u v h q a b s t
    = segment_from e (slice_index_or ring i u) (slice_index_or ring (i + 1) u) (a ∙ s)
    (b ∙ t ∙ ap (λ n. slice_index_or ring n v) q ∙ other_default ring (i + 1) v u h) ∙ sym (ring_inner ring i e u h)

pub edge_last : (ring : List Vertex) (i k : ℕ) (e : Segment) (u v : Vertex) → i < length ring → length ring ≤ i + 1 → k ≡ 0 → e.a ≡ u
    → e.b ≡ v → u ≡ slice_index_or ring i u → v ≡ slice_index_or ring k v → e ≡ slice_index_or (ring_edges ring) i e
edge_last ring i k e u v l h q a b s t
    = segment_from e (slice_index_or ring i u) (slice_index_or ring 0 u) (a ∙ s) (b ∙ t ∙ ap (λ n. slice_index_or ring n v)
    q ∙ other_default ring 0 v u (omega (arith, l))) ∙ sym (ring_last ring i e u (omega (arith, l, h)))

-- ---- the edges that a loop has added
-- one more
pub edges_more : (ring : List Vertex) (i : ℕ) (e : Segment) (start es more : List Segment) → i < length ring
    → e ≡ slice_index_or (ring_edges ring) i e
    → es ≡ start ++ take i (ring_edges ring) → more ≡ es ++ e ∷ [] → more ≡ start ++ take (i + 1) (ring_edges ring)
edges_more ring i e start es more h at was now = now ∙ ap (λ l. l ++ e ∷ []) was ∙ append_assoc start (take i (ring_edges ring)) (e ∷ [])
    ∙ ap (λ l. start ++ l)
    (ap (λ f. take i (ring_edges ring) ++ f ∷ []) at ∙ sym (take_more (ring_edges ring) i e (omega (arith, h, length-ring ring))))

-- all of them
pub edges_whole : (ring : List Vertex) (i : ℕ) (start es : List Segment) → length ring ≤ i → es ≡ start ++ take i (ring_edges ring)
    → es ≡ start ++ ring_edges ring
edges_whole ring i start es h was = was ∙ ap (λ l. start ++ l) (take_all i (ring_edges ring) (omega (arith, h, length-ring ring)))
