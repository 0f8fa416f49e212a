-- The edges of a ring that meet in turn alone.
use Rattle.std.proofs.Common.{◌≡◌, ℕ, ◌+◌, refl, sym, ap, ◌∙◌, arith, ◌<◌, inl, inr, List, [], ◌∷◌, length}
use Rattle.std.specs.Prelude.{true, ◌≢◌, ◌⊎◌, slice_index_or}
use Rattle.std.specs.List.{AllByRecursion, Contains}
use Rattle.std.proofs.lemmas.Bool.{cases_lt}
use Rattle.std.proofs.lemmas.List.Elements.{All-from_recursion, All-contains}
use Rattle.rd_plane.specs.Plane.{Vertex, Segment, Point, point_of, on, is_at}
use Rattle.rd_plane.specs.Shapes.{edges_along, ring_edges, HasCorners, MeetsInTurn}
use Rattle.rd_plane.proofs.Members.{contains_head, contains_tail}
use Rattle.rd_plane.proofs.RingEdges.{ring_balance, ring_differs, one_of_ring}
use Rattle.rd_plane.proofs.OwnEdges.{own_ring, next_ring, last_ring}
use Rattle.rd_plane.proofs.RingPlaces.{length-ring, other_default, starts_at}
use Rattle.ring_law.proofs.Simple.{AreRingEdges}
use Rattle.ring_law.proofs.Straight.{at_corner, end_b_on}

-- ---- two edges of a ring
differ : (ring : List Vertex) → HasCorners ring → (e : Segment) → Contains (ring_edges ring) e → e.a ≢ e.b
differ ring h e ce
    = All-contains (λ f. f.a ≢ f.b) (ring_edges ring) e (All-from_recursion (λ f. f.a ≢ f.b) (ring_edges ring) (ring_differs ring h)) ce

-- the places of edges that begin alike
same_place : (ring : List Vertex) → HasCorners ring → (d : Segment) (i j : ℕ) → i < length (ring_edges ring) → j < length (ring_edges ring)
    → (slice_index_or (ring_edges ring) i d).a ≡ (slice_index_or (ring_edges ring) j d).a → i ≡ j
same_place ring h d i j li lj q = elim (cases_lt i j) [
  | inl l ↦ absurd (h.different i j d.a l (omega (arith, lj, length-ring ring)) corners)
  | inr k ↦ elim (cases_lt j i) [
    | inl l ↦ absurd (h.different j i d.a l (omega (arith, li, length-ring ring)) (sym corners))
    | inr l ↦ omega (arith, k, l)
  ]
]
  where
    corners : slice_index_or ring i d.a ≡ slice_index_or ring j d.a
    corners = sym (starts_at ring i d d.a (omega (arith, li, length-ring ring))) ∙ q ∙ starts_at ring j d d.a
        (omega (arith, lj, length-ring ring))

-- two edges at their places, with one default
record Placed (ring : List Vertex) (e f g : Segment) : Type 0 where
  i : ℕ
  j : ℕ
  k : ℕ
  in_i : i < length (ring_edges ring)
  in_j : j < length (ring_edges ring)
  in_k : k < length (ring_edges ring)
  at_i : slice_index_or (ring_edges ring) i e ≡ e
  at_j : slice_index_or (ring_edges ring) j e ≡ f
  at_k : slice_index_or (ring_edges ring) k e ≡ g

abbrev placed : (ring : List Vertex) (e f g : Segment) → Contains (ring_edges ring) e → Contains (ring_edges ring) f
    → Contains (ring_edges ring) g → Placed ring e f g
placed ring e f g ce cf cg = record {
  i = ce.0;
  j = cf.0;
  k = cg.0;
  in_i = ce.1;
  in_j = cf.1;
  in_k = cg.1;
  at_i = ce.2;
  at_j = other_default (ring_edges ring) cf.0 e f cf.1 ∙ cf.2;
  at_k = other_default (ring_edges ring) cg.0 e g cg.1 ∙ cg.2;
}

same_edge_at : (ring : List Vertex) (e f g : Segment) (t : Placed ring e f g) → t.j ≡ t.k → g ≡ f
same_edge_at ring e f g t q = sym t.at_k ∙ (ap (λ n. slice_index_or (ring_edges ring) n e) (sym q) ∙ t.at_j)

same_begin : (ring : List Vertex) → HasCorners ring → (e f g : Segment) (t : Placed ring e f g) → f.a ≡ g.a → t.j ≡ t.k
same_begin ring h e f g t q
    = same_place ring h e t.j t.k t.in_j t.in_k (ap (λ (x : Segment). x.a) t.at_j ∙ (q ∙ sym (ap (λ (x : Segment). x.a) t.at_k)))

corner : (ring : List Vertex) → HasCorners ring → MeetsInTurn ring → (e f g : Segment) → e.a ≢ e.b → Placed ring e f g → e.b ≡ f.a
    → on (point_of e.b) g ≡ true → (g ≡ e) ⊎ (g ≡ f)
corner ring h m e f g n t q o = elim (cases_lt t.i t.k) [
  | inl l ↦ elim (m t.i t.k e (point_of e.b) l t.in_k on_e on_g) [
    | inl s ↦ inr (same_edge_at ring e f g t (same_begin ring h e f g t (sym q ∙ (ap (λ (x : Segment). x.b)
        (sym t.at_i) ∙ (next_ring ring t.i t.k e (omega (arith, s.0)) t.in_k ∙ ap (λ (x : Segment). x.a) t.at_k)))))
    | inr s ↦ absurd (n (sym (at_corner e.b e.a (ap (λ (x : Segment). is_at (point_of e.b) x.a) (sym t.at_i) ∙ s.2))))
  ]
  | inr l ↦ elim (cases_lt t.k t.i) [
    | inl r ↦ elim (m t.k t.i e (point_of e.b) r t.in_i on_g on_e) [
      | inl s ↦ let a : e.b ≡ g.b = at_corner e.b g.b (ap (λ (x : Segment). is_at (point_of e.b) x.b) (sym t.at_k) ∙ s.1) in
          let b : g.b ≡ e.a = ap (λ (x : Segment). x.b)
          (sym t.at_k) ∙ (next_ring ring t.k t.i e (omega (arith, s.0)) t.in_i ∙ ap (λ (x : Segment). x.a) t.at_i) in absurd
          (n (sym (a ∙ b)))
      | inr s ↦ let a : e.b ≡ g.a = at_corner e.b g.a (ap (λ (x : Segment). is_at (point_of e.b) x.a) (sym t.at_k) ∙ s.2) in inr
          (same_edge_at ring e f g t (same_begin ring h e f g t (sym q ∙ a)))
    ]
    | inr r ↦ let s : t.k ≡ t.i = omega (arith, l, r) in inl (sym t.at_k ∙ (ap (λ x. slice_index_or (ring_edges ring) x e) s ∙ t.at_i))
  ]
]
  where
    on_e : on (point_of e.b) (slice_index_or (ring_edges ring) t.i e) ≡ true
    on_e = ap (on (point_of e.b)) t.at_i ∙ end_b_on e

    on_g : on (point_of e.b) (slice_index_or (ring_edges ring) t.k e) ≡ true
    on_g = ap (on (point_of e.b)) t.at_k ∙ o

-- what follows e in the ring
after_is : (ring : List Vertex) → HasCorners ring → (e f : Segment) (t : Placed ring e f f) → e.b ≡ f.a
    → ((t.j ≡ t.i + 1) ⊎ ((t.j ≡ 0) × (t.i + 1 ≡ length (ring_edges ring))))
after_is ring h e f t q = elim (cases_lt (t.i + 1) (length (ring_edges ring))) [
  | inl l ↦ inl (sym (same_place ring h e (t.i + 1) t.j l t.in_j (sym (next_ring ring t.i (t.i + 1) e (omega arith) l) ∙ (ap (λ (x : Segment).
      x.b) t.at_i ∙ (q ∙ sym (ap (λ (x : Segment). x.a) t.at_j))))))
  | inr l ↦ let last : t.i + 1 ≡ length (ring_edges ring) = omega (arith, l, t.in_i) in
      inr (
        sym (same_place ring h e 0 t.j (omega (arith, t.in_i)) t.in_j (last_ring ring 0 t.i e refl
            (omega (arith, last)) ∙ (ap (λ (x : Segment). x.b) t.at_i ∙ (q ∙ sym (ap (λ (x : Segment). x.a) t.at_j))))),
        last,
      )
]

-- one edge goes from a corner, and one comes to it
pub same_going : (ring : List Vertex) → HasCorners ring → (f g : Segment) → Contains (ring_edges ring) f → Contains (ring_edges ring) g
    → f.a ≡ g.a → g ≡ f
same_going ring h f g cf cg q
    = same_edge_at ring f f g (placed ring f f g cf cf cg) (same_begin ring h f f g (placed ring f f g cf cf cg) q)

pub same_coming : (ring : List Vertex) → HasCorners ring → (e g f : Segment) → Contains (ring_edges ring) e → Contains (ring_edges ring) g
    → Contains (ring_edges ring) f → e.b ≡ f.a → g.b ≡ f.a → g ≡ e
same_coming ring h e g f ce cg cf q r
    = same_edge_at ring e e g (placed ring e e g ce ce cg) (elim (after_is ring h e f (placed ring e f f ce cf cf) q) [
      | inl s ↦ elim (after_is ring h g f (placed ring g f f cg cf cf) r)
          [ inl u ↦ omega (arith, s, u) | inr u ↦ absurd (omega (arith, s, u.0)) ]
      | inr s ↦ elim (after_is ring h g f (placed ring g f f cg cf cf) r)
          [ inl u ↦ absurd (omega (arith, s.0, u)) | inr u ↦ omega (arith, s.1, u.1) ]
    ])

shared : (ring : List Vertex) → HasCorners ring → MeetsInTurn ring → (e f : Segment) (p : Point) → Placed ring e f f → e.b ≡ f.a
    → on p e ≡ true → on p f ≡ true → is_at p e.b ≡ true
shared ring h m e f p t q oe of = elim (after_is ring h e f t q) [
  | inl s ↦ elim (m t.i t.j e p (omega (arith, s)) t.in_j on_e on_f) [
    | inl u ↦ ap (λ (x : Segment). is_at p x.b) (sym t.at_i) ∙ u.1
    | inr u ↦ absurd (omega (arith, s, u.0, u.1, length-ring ring, h.three))
  ]
  | inr s ↦ elim (m t.j t.i e p (omega (arith, s.0, s.1, length-ring ring, h.three)) t.in_i on_f on_e) [
    | inl u ↦ absurd (omega (arith, s.0, s.1, u.0, length-ring ring, h.three))
    | inr u ↦ ap (is_at p) q ∙ (ap (λ (x : Segment). is_at p x.a) (sym t.at_j) ∙ u.2)
  ]
]
  where
    on_e : on p (slice_index_or (ring_edges ring) t.i e) ≡ true
    on_e = ap (on p) t.at_i ∙ oe

    on_f : on p (slice_index_or (ring_edges ring) t.j e) ≡ true
    on_f = ap (on p) t.at_j ∙ of

pub simple : (ring : List Vertex) → HasCorners ring → MeetsInTurn ring → AreRingEdges (ring_edges ring)
simple ring h m = record {
  balance = ring_balance ring;
  differ = differ ring h;
  own = own_ring ring m;
  once = λ p n. one_of_ring p ring m n;
  corner = λ e f g ce cf cg q o. corner ring h m e f g (differ ring h e ce) (placed ring e f g ce cf cg) q o;
  shared = λ e f p ce cf q oe of. shared ring h m e f p (placed ring e f f ce cf cf) q oe of;
}

-- ---- what goes on from each edge to the next holds of all
chain_along : (P : Segment → Type 0) (es : List Segment) → ((u v w : Vertex) → Contains es (record { a = u; b = v })
    → Contains es (record { a = v; b = w }) → P (record { a = u; b = v }) → P (record { a = v; b = w })) →
    (first t u : Vertex) (ws : List Vertex) → Contains es (record { a = t; b = u }) → P (record { a = t; b = u })
    → ((f : Segment) → Contains (edges_along first u ws) f → Contains es f) → AllByRecursion P (edges_along first u ws)
chain_along P es s first t u [] c h m
    = (s t u first c (m (record { a = u; b = first }) (contains_head (record { a = u; b = first }) [])) h, tt)
chain_along P es s first t u (w ∷ ws) c h m =
    let cw = m (record { a = u; b = w }) (contains_head (record { a = u; b = w }) (edges_along first w ws)) in let hw = s t u w c cw h in
    (hw, chain_along P es s first u w ws cw hw (λ f d. m f (contains_tail (record { a = u; b = w }) f (edges_along first w ws) d)))

pub chain : (P : Segment → Type 0) (v w : Vertex) (ws : List Vertex) → ((u v' w' : Vertex)
    → Contains (ring_edges (v ∷ (w ∷ ws))) (record { a = u; b = v' }) → Contains (ring_edges (v ∷ (w ∷ ws))) (record { a = v'; b = w' })
    → P (record { a = u; b = v' }) → P (record { a = v'; b = w' })) →
    P (record { a = v; b = w }) → (e : Segment) → Contains (ring_edges (v ∷ (w ∷ ws))) e → P e
chain P v w ws s h e ce = All-contains P es e (All-from_recursion P es (
  h,
  chain_along P es s v v w ws (contains_head (record { a = v; b = w }) (edges_along v w ws)) h
      (λ f d. contains_tail (record { a = v; b = w }) f (edges_along v w ws) d),
)) ce
  where
    es : List Segment
    es = ring_edges (v ∷ (w ∷ ws))
