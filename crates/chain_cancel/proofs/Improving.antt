-- The least end that lies strictly inside an edge: one edge after another, stretch by stretch.
use Rattle.std.proofs.Common.{◌≡◌, ℕ, refl, sym, ap, ◌∙◌, arith, ◌+◌, ◌-◌, ◌<◌, ◌≤◌, inl, inr, List, [], ◌∷◌, length, take, drop, get_or, subst}
use Rattle.std.specs.Prelude.{Bool, ◌≢◌, ◌⊎◌, Option, Some, None}
use Rattle.std.specs.List.{Contains}
use Rattle.std.specs.Cmp.{IsTotalOrder}
use Rattle.std.specs.declared.cmp.Ordering.TheVariants.{Less}
use Rattle.std.proofs.lemmas.Cmp.{on_total, then_total}
use Rattle.std.proofs.lemmas.List.{length-take}
use Rattle.rd_plane.specs.Bounds.{Box, HaveCommonPoint, IsLeastBox}
use Rattle.rd_plane.specs.EdgeBoxes.{HoldsEdge, HoldsEdges}
use Rattle.rd_plane.specs.Order.{vertex_cmp-total, segment_cmp-total}
use Rattle.rd_plane.specs.Plane.{Vertex, Segment, point_of}
use Rattle.rd_plane.proofs.EdgeBoxes.{boxes_meet, holds_edge}
use Rattle.rd_plane.proofs.Meetings.{own_on}
use Rattle.rd_plane.proofs.Improving.{Either, both, first, lesser, none, same}
use Rattle.rd_plane.proofs.Taken.{front_has, stretch_cases, stretch_has, take_before, take_cases, take_has, take_new, take_whole}
use Rattle.rd_plane.specs.Improving.{Improves}
use Rattle.chain_cancel.specs.Nodes.{node_cmp, IsStrictlyInside, IsEndInside, turned_if, IsIn, IsEndIn}

abbrev pub Node : Type 0
Node = Vertex × Segment

-- ---- the order
pub node_total : IsTotalOrder node_cmp
node_total = then_total (on_total (λ (x : Node). x.0) vertex_cmp-total) (on_total (λ (x : Node). x.1) segment_cmp-total)

-- ---- one vertex and one edge
pub tried_not : (a : Option Node) (v : Vertex) (e : Segment) → (IsStrictlyInside v e → ⊥) → Improves node_cmp (IsIn v e) a a
tried_not a v e n = none node_total a (λ x t. n t.1)

pub tried_first : (v : Vertex) (e : Segment) → IsStrictlyInside v e → Improves node_cmp (IsIn v e) None (Some (v, e))
tried_first v e s = first {T = IsIn v e} node_total (v, e) (refl, s) (λ x t. t.0)

-- the lesser of what was found and of v in e
pub tried_least : (a : Option Node) (found r : Node) (v : Vertex) (e : Segment) → a ≡ Some found → IsStrictlyInside v e
    → ((r ≡ found) × (node_cmp found (v, e) ≡ Less)) ⊎ ((r ≡ (v, e)) × (node_cmp found (v, e) ≢ Less))
    → Improves node_cmp (IsIn v e) a (Some r)
tried_least a found r v e q s c = lesser {T = IsIn v e} node_total a found r (v, e) q (refl, s) (λ x t. t.0) c

-- ---- the ends of some edges
nothing : (e : Segment) → Contains [] e → ⊥
nothing e c = omega (arith, c.1)

pub ends_begin : (ends : List Segment) (e : Segment) (a : Option Node) → Improves node_cmp (IsEndIn (take 0 ends) e) a a
ends_begin ends e a = none node_total a (λ x t. omega (arith, t.of.1, length-take 0 ends))

pub ends_more : (ends : List Segment) (e : Segment) (i : ℕ) (own : Segment) (a b c d : Option Node) → i < length ends
    → get_or ends i own ≡ own
    → Improves node_cmp (IsEndIn (take i ends) e) a b → Improves node_cmp (IsIn own.a e) b c → Improves node_cmp (IsIn own.b e) c d →
    Improves node_cmp (IsEndIn (take (i + 1) ends) e) a d
ends_more ends e i own a b c d h q f g k = same a d there back (both node_total a c d (both node_total a b c f g) k)
  where
    there : (x : Node) → Either (Either (IsEndIn (take i ends) e) (IsIn own.a e)) (IsIn own.b e) x → IsEndIn (take (i + 1) ends) e x
    there x t = elim t [
      | inl u ↦ elim u [
        | inl s ↦ record { own = s.own; of = take_before ends i s.own s.of; end = s.end; edge = s.edge; inside = s.inside }
        | inr s ↦ record {
          own = own;
          of = take_new ends i own h q;
          end = inl (ap (λ (y : Node). y.0) s.0);
          edge = ap (λ (y : Node). y.1) s.0;
          inside = subst (λ v. IsStrictlyInside v e) (sym (ap (λ (y : Node). y.0) s.0)) s.1;
        }
      ]
      | inr s ↦ record {
        own = own;
        of = take_new ends i own h q;
        end = inr (ap (λ (y : Node). y.0) s.0);
        edge = ap (λ (y : Node). y.1) s.0;
        inside = subst (λ v. IsStrictlyInside v e) (sym (ap (λ (y : Node). y.0) s.0)) s.1;
      }
    ]

    pair : (x : Node) (v : Vertex) → x.0 ≡ v → x.1 ≡ e → x ≡ (v, e)
    pair x v p r = ap (λ (w : Vertex). (w, x.1)) p ∙ ap (λ (g : Segment). (v, g)) r

    back : (x : Node) → IsEndIn (take (i + 1) ends) e x → Either (Either (IsEndIn (take i ends) e) (IsIn own.a e)) (IsIn own.b e) x
    back x t = elim (take_cases ends i own t.own h q t.of) [
      | inl s ↦ inl (inl (record { own = t.own; of = s; end = t.end; edge = t.edge; inside = t.inside }))
      | inr s ↦ elim t.end [
        | inl p ↦ let r : x.0 ≡ own.a = p ∙ ap (λ (f : Segment). f.a) s in inl
            (inr (pair x own.a r t.edge, subst (λ v. IsStrictlyInside v e) r t.inside))
        | inr p ↦ let r : x.0 ≡ own.b = p ∙ ap (λ (f : Segment). f.b) s in inr
            (pair x own.b r t.edge, subst (λ v. IsStrictlyInside v e) r t.inside)
      ]
    ]

pub ends_whole : (ends : List Segment) (e : Segment) (i : ℕ) (a b : Option Node) → length ends ≤ i
    → Improves node_cmp (IsEndIn (take i ends) e) a b
    → Improves node_cmp (IsEndIn ends e) a b
ends_whole ends e i a b h f = same a b
    (λ x t. record { own = t.own; of = take_has ends i t.own t.of; end = t.end; edge = t.edge; inside = t.inside })
    (λ x t. record { own = t.own; of = take_whole ends i t.own h t.of; end = t.end; edge = t.edge; inside = t.inside }) f

-- an end in an edge whose box lies apart
pub ends_apart : (ends : List Segment) (box near : Box) (e : Segment) (a : Option Node) → HoldsEdges box ends
    → IsLeastBox (e.a ∷ e.b ∷ []) near
    → (HaveCommonPoint near box → ⊥) → Improves node_cmp (IsEndIn ends e) a a
ends_apart ends box near e a h l n =
    none node_total a
    (λ x t. n (boxes_meet near box e t.own (point_of x.0) (holds_edge near e l) (held t.own t.of) t.inside.0 (own_on t.own x.0 t.end)))
  where
    held : (own : Segment) → Contains ends own → HoldsEdge box own
    held own c = subst (HoldsEdge box) c.2 (h c.0 own c.1)

-- ---- all edges
pub edges_begin : (ends edges : List Segment) (t : Bool) (a : Option Node) → Improves node_cmp (IsEndInside ends (take 0 edges) t) a a
edges_begin ends edges t a = none node_total a (λ x s. omega (arith, s.one.1, length-take 0 edges))

pub edges_more : (ends edges : List Segment) (t : Bool) (i : ℕ) (f : Segment) (a b c : Option Node) → i < length edges
    → get_or edges i f ≡ f
    → Improves node_cmp (IsEndInside ends (take i edges) t) a b → Improves node_cmp (IsEndIn ends (turned_if t f)) b c
    → Improves node_cmp (IsEndInside ends (take (i + 1) edges) t) a c
edges_more ends edges t i f a b c h q g k = same a c there back (both node_total a b c g k)
  where
    there : (x : Node) → Either (IsEndInside ends (take i edges) t) (IsEndIn ends (turned_if t f)) x
        → IsEndInside ends (take (i + 1) edges) t x
    there x u = elim u [
      | inl s ↦ record {
        own = s.own;
        of = s.of;
        end = s.end;
        from = s.from;
        one = take_before edges i s.from s.one;
        edge = s.edge;
        inside = s.inside;
      }
      | inr s ↦ record {
        own = s.own;
        of = s.of;
        end = s.end;
        from = f;
        one = take_new edges i f h q;
        edge = s.edge;
        inside = subst (IsStrictlyInside x.0) (sym s.edge) s.inside;
      }
    ]

    back : (x : Node) → IsEndInside ends (take (i + 1) edges) t x
        → Either (IsEndInside ends (take i edges) t) (IsEndIn ends (turned_if t f)) x
    back x s = elim (take_cases edges i f s.from h q s.one) [
      | inl u ↦ inl (record { own = s.own; of = s.of; end = s.end; from = s.from; one = u; edge = s.edge; inside = s.inside })
      | inr u ↦ let r : x.1 ≡ turned_if t f = s.edge ∙ ap (turned_if t) u in inr
          (record { own = s.own; of = s.of; end = s.end; edge = r; inside = subst (IsStrictlyInside x.0) r s.inside })
    ]

pub edges_whole : (ends edges : List Segment) (t : Bool) (i : ℕ) (a b : Option Node) → length edges ≤ i
    → Improves node_cmp (IsEndInside ends (take i edges) t) a b → Improves node_cmp (IsEndInside ends edges t) a b
edges_whole ends edges t i a b h f = same a b
    (λ x s. record {
      own = s.own;
      of = s.of;
      end = s.end;
      from = s.from;
      one = take_has edges i s.from s.one;
      edge = s.edge;
      inside = s.inside;
    })
    (λ x s. record {
      own = s.own;
      of = s.of;
      end = s.end;
      from = s.from;
      one = take_whole edges i s.from h s.one;
      edge = s.edge;
      inside = s.inside;
    }) f

-- no ends
pub no_ends : (ends edges : List Segment) (t : Bool) (a : Option Node) → ends ≡ [] → Improves node_cmp (IsEndInside ends edges t) a a
no_ends ends edges t a q = none node_total a (λ x s. omega (arith, s.of.1, ap length q))

-- ---- stretches
pub stretch_begin : (ends edges : List Segment) (t : Bool) (a : Option Node) → Improves node_cmp (IsEndInside (take 0 ends) edges t) a a
stretch_begin ends edges t a = none node_total a (λ x s. omega (arith, s.of.1, length-take 0 ends))

pub stretch_more : (ends edges : List Segment) (t : Bool) (from to : ℕ) (a b c : Option Node) → from < to → to ≤ length ends
    → Improves node_cmp (IsEndInside (take from ends) edges t) a b
    → Improves node_cmp (IsEndInside (take (to - from) (drop from ends)) edges t) b c
    → Improves node_cmp (IsEndInside (take to ends) edges t) a c
stretch_more ends edges t from to a b c w h g k = same a c there back (both node_total a b c g k)
  where
    moved : (fs : List Segment) (x : Node) (s : IsEndInside fs edges t x) (gs : List Segment) → Contains gs s.own → IsEndInside gs edges t x
    moved fs x s gs h = record { own = s.own; of = h; end = s.end; from = s.from; one = s.one; edge = s.edge; inside = s.inside }

    there : (x : Node) → Either (IsEndInside (take from ends) edges t) (IsEndInside (take (to - from) (drop from ends)) edges t) x
        → IsEndInside (take to ends) edges t x
    there x u = elim u [
      | inl s ↦ moved (take from ends) x s (take to ends) (front_has ends from to s.own (omega (arith, w)) s.of)
      | inr s ↦ moved (take (to - from) (drop from ends)) x s (take to ends) (stretch_has ends from to s.own (omega (arith, w)) h s.of)
    ]

    back : (x : Node) → IsEndInside (take to ends) edges t x
        → Either (IsEndInside (take from ends) edges t) (IsEndInside (take (to - from) (drop from ends)) edges t) x
    back x s = elim (stretch_cases ends from to s.own (omega (arith, w)) h s.of) [
      | inl u ↦ inl (moved (take to ends) x s (take from ends) u)
      | inr u ↦ inr (moved (take to ends) x s (take (to - from) (drop from ends)) u)
    ]

pub stretch_whole : (ends edges : List Segment) (t : Bool) (i : ℕ) (a b : Option Node) → length ends ≤ i
    → Improves node_cmp (IsEndInside (take i ends) edges t) a b → Improves node_cmp (IsEndInside ends edges t) a b
stretch_whole ends edges t i a b h f = same a b
    (λ x s.
    record { own = s.own; of = take_has ends i s.own s.of; end = s.end; from = s.from; one = s.one; edge = s.edge; inside = s.inside })
    (λ x s. record {
      own = s.own;
      of = take_whole ends i s.own h s.of;
      end = s.end;
      from = s.from;
      one = s.one;
      edge = s.edge;
      inside = s.inside;
    }) f
