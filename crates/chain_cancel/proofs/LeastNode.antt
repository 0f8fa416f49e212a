-- The whole search: what is found of all border edges, and that vertices are shared where nothing is.
use Rattle.std.proofs.Common.{◌≡◌, refl, sym, ap, ◌∙◌, arith, inl, inr, List, [], ◌∷◌, ◌++◌, map, subst}
use Rattle.std.specs.Prelude.{◌*ℤ◌, true, false, ◌≢◌, ◌⊎◌, cond, Option, Some, None, MatchOption}
use Rattle.std.specs.List.{Contains}
use Rattle.std.specs.declared.cmp.Ordering.TheVariants.{Less}
use Rattle.std.proofs.lemmas.Bool.{cases_Bool, both_ways}
use Rattle.std.proofs.lemmas.List.Elements.{Contains-append_cases}
use Rattle.rd_plane.specs.Covering.{IsNoded, border_of}
use Rattle.rd_plane.specs.Meeting.{IsEndOf}
use Rattle.rd_plane.specs.Order.{IsLeast}
use Rattle.rd_plane.specs.Plane.{Vertex, Segment, point_of, is_at, is_end, reversed}
use Rattle.rd_plane.proofs.FreePoint.{end_cases}
use Rattle.rd_plane.proofs.Meetings.{same_point_as}
use Rattle.rd_plane.proofs.Members.{contains_head, contains_tail, contains_cases}
use Rattle.rd_plane.proofs.Scaled.{on-same}
use Rattle.rd_plane.proofs.Through.{is_at-same}
use Rattle.chain_cancel.specs.Nodes.{node_cmp, IsEndInside, IsUnnoded}
use Rattle.rd_plane.proofs.Improving.{Either, both}
use Rattle.rd_plane.specs.Improving.{Improves}
use Rattle.chain_cancel.proofs.Improving.{Node, node_total}

-- ---- border edges
pub contains_left : (es fs : List Segment) (e : Segment) → Contains es e → Contains (es ++ fs) e
contains_left [] fs e c = absurd (omega (arith, c.1))
contains_left (x ∷ es) fs e c = elim (contains_cases x e es c) [
  | inl q ↦ subst (Contains (x ∷ (es ++ fs))) q (contains_head x (es ++ fs))
  | inr d ↦ contains_tail x e (es ++ fs) (contains_left es fs e d)
]

pub contains_right : (es fs : List Segment) (e : Segment) → Contains fs e → Contains (es ++ fs) e
contains_right [] fs e c = c
contains_right (x ∷ es) fs e c = contains_tail x e (es ++ fs) (contains_right es fs e c)

pub contains_turned : (es : List Segment) (e : Segment) → Contains es e → Contains (map reversed es) (reversed e)
contains_turned [] e c = absurd (omega (arith, c.1))
contains_turned (x ∷ es) e c = elim (contains_cases x e es c) [
  | inl q ↦ subst (λ f. Contains (map reversed (x ∷ es)) (reversed f)) q (contains_head (reversed x) (map reversed es))
  | inr d ↦ contains_tail (reversed x) (reversed e) (map reversed es) (contains_turned es e d)
]

turned_from : (es : List Segment) (e : Segment) → Contains (map reversed es) e → (f : Segment) × Contains es f × (e ≡ reversed f)
turned_from [] e c = absurd (omega (arith, c.1))
turned_from (x ∷ es) e c = elim (contains_cases (reversed x) e (map reversed es) c) [
  | inl q ↦ (x, contains_head x es, sym q)
  | inr d ↦ let k = turned_from es e d in (k.0, contains_tail x k.0 es k.1, k.2)
]

-- an edge of the border is one of the parts, or one of the area, run the other way
pub record IsOne (area parts : List Segment) (e : Segment) : Type 0 where
  pub case : Contains parts e ⊎ ((f : Segment) × Contains area f × (e ≡ reversed f))

pub one_of : (area parts : List Segment) (e : Segment) → Contains (border_of area parts) e → IsOne area parts e
one_of area parts e c = elim (Contains-append_cases parts (map reversed area) e c)
    [ inl d ↦ record { case = inl d } | inr d ↦ record { case = inr (turned_from area e d) } ]

pub end_turned : (e f : Segment) (v : Vertex) → e ≡ reversed f → IsEndOf e v → IsEndOf f v
end_turned e f v q h = elim h [ inl k ↦ inr (k ∙ ap (λ (g : Segment). g.a) q) | inr k ↦ inl (k ∙ ap (λ (g : Segment). g.b) q) ]

pub end_back : (f : Segment) (v : Vertex) → IsEndOf f v → IsEndOf (reversed f) v
end_back f v h = elim h [ inl k ↦ inr k | inr k ↦ inl k ]

-- the four searches
abbrev Found : List Segment → List Segment → Node → Type 0
Found area parts =
    Either (Either (Either (IsEndInside parts parts false) (IsEndInside parts area true)) (IsEndInside area parts false))
    (IsEndInside area area true)

found_so : (area parts : List Segment) (x : Node) → Found area parts x → IsUnnoded (border_of area parts) x
found_so area parts x t = elim t [
  | inl a ↦ elim a [
    | inl b ↦ elim b [
      | inl s ↦ record {
        own = s.own;
        of = contains_left parts (map reversed area) s.own s.of;
        end = s.end;
        edge = subst (Contains (border_of area parts)) (sym s.edge) (contains_left parts (map reversed area) s.from s.one);
        inside = s.inside;
      }
      | inr s ↦ record {
        own = s.own;
        of = contains_left parts (map reversed area) s.own s.of;
        end = s.end;
        edge = subst (Contains (border_of area parts)) (sym s.edge)
            (contains_right parts (map reversed area) (reversed s.from) (contains_turned area s.from s.one));
        inside = s.inside;
      }
    ]
    | inr s ↦ record {
      own = reversed s.own;
      of = contains_right parts (map reversed area) (reversed s.own) (contains_turned area s.own s.of);
      end = end_back s.own x.0 s.end;
      edge = subst (Contains (border_of area parts)) (sym s.edge) (contains_left parts (map reversed area) s.from s.one);
      inside = s.inside;
    }
  ]
  | inr s ↦ record {
    own = reversed s.own;
    of = contains_right parts (map reversed area) (reversed s.own) (contains_turned area s.own s.of);
    end = end_back s.own x.0 s.end;
    edge = subst (Contains (border_of area parts)) (sym s.edge)
        (contains_right parts (map reversed area) (reversed s.from) (contains_turned area s.from s.one));
    inside = s.inside;
  }
]

so_found : (area parts : List Segment) (x : Node) → IsUnnoded (border_of area parts) x → Found area parts x
so_found area parts x s = elim (one_of area parts s.own s.of).case [
  | inl own ↦ elim (one_of area parts x.1 s.edge).case [
    | inl c ↦ inl (inl (inl (record { own = s.own; of = own; end = s.end; from = x.1; one = c; edge = refl; inside = s.inside })))
    | inr c ↦ inl (inl (inr (record { own = s.own; of = own; end = s.end; from = c.0; one = c.1; edge = c.2; inside = s.inside })))
  ]
  | inr own ↦ elim (one_of area parts x.1 s.edge).case [
    | inl c ↦ inl (inr (record {
      own = own.0;
      of = own.1;
      end = end_turned s.own own.0 x.0 own.2 s.end;
      from = x.1;
      one = c;
      edge = refl;
      inside = s.inside;
    }))
    | inr c ↦ inr (record {
      own = own.0;
      of = own.1;
      end = end_turned s.own own.0 x.0 own.2 s.end;
      from = c.0;
      one = c.1;
      edge = c.2;
      inside = s.inside;
    })
  ]
]

-- ---- where nothing is found
pub noded : (edges : List Segment) → ((x : Node) → IsUnnoded edges x → ⊥) → IsNoded edges
noded edges n e f p ce cf h o = elim (cases_Bool (is_end p f)) [
  | inl t ↦ t
  | inr t ↦ absurd (elim (end_cases p e h) [
    | inl k ↦ at e.a (inl refl) k.0 k.1 t
    | inr k ↦ at e.b (inr refl) k.0 k.1 t
  ])
]
  where
    is_a : (v : Vertex) → p.px ≡ p.q *ℤ v.x → p.py ≡ p.q *ℤ v.y → v ≡ f.a → is_end p f ≡ true
    is_a v hx hy q = ap (λ t. cond t true (is_at p f.b)) (subst (λ u. is_at p u ≡ true) q (is_at-same p v hx hy))

    is_b : (v : Vertex) → p.px ≡ p.q *ℤ v.x → p.py ≡ p.q *ℤ v.y → v ≡ f.b → is_end p f ≡ true
    is_b v hx hy q = elim (cases_Bool (is_at p f.a)) [
      | inl t ↦ ap (λ u. cond u true (is_at p f.b)) t
      | inr t ↦ ap (λ u. cond u true (is_at p f.b)) t ∙ subst (λ u. is_at p u ≡ true) q (is_at-same p v hx hy)
    ]

    at : (v : Vertex) → IsEndOf e v → p.px ≡ p.q *ℤ v.x → p.py ≡ p.q *ℤ v.y → is_end p f ≡ false → ⊥
    at v own hx hy t = n (v, f) (record {
      own = e;
      of = ce;
      end = own;
      edge = cf;
      inside = (
        sym (on-same p (point_of v) f
            (same_point_as p v hx hy)) ∙ o,
        (λ q. both_ways (is_end p f) t (is_a v hx hy q)),
        λ q. both_ways (is_end p f) t (is_b v hx hy q),
      );
    })

pub least_of : (edges : List Segment) (T : Node → Type 0) → ((x : Node) → T x → IsUnnoded edges x) → ((x : Node) → IsUnnoded edges x → T x)
    → (r : Option Node) → Improves node_cmp T None r → MatchOption r (IsNoded edges) (IsLeast node_cmp (IsUnnoded edges))
least_of edges T f g None i = noded edges (λ x u. let k = i.under x (g x u) in no_some k.0 k.1)
  where
    no_some : (x : Node) → None ≡ Some x → ⊥
    no_some x q = cc
least_of edges T f g (Some r) i = record {
  has = elim i.came [ inl q ↦ absurd (no_some q) | inr k ↦ subst (IsUnnoded edges) (same_some k.0 r (sym k.2)) (f k.0 k.1) ];
  least = λ b u. let k = i.under b (g b u) in subst (λ x. node_cmp b x ≢ Less) (same_some k.0 r (sym k.1)) k.2;
}
  where
    no_some : Some r ≡ None → ⊥
    no_some q = cc

    same_some : (x y : Node) → Some x ≡ Some y → x ≡ y
    same_some x y q = cc

pub all_found : (area parts : List Segment) (a b c r : Option Node) → Improves node_cmp (IsEndInside parts parts false) None a
    → Improves node_cmp (IsEndInside parts area true) a b → Improves node_cmp (IsEndInside area parts false) b c
    → Improves node_cmp (IsEndInside area area true) c r →
    MatchOption r (IsNoded (border_of area parts)) (IsLeast node_cmp (IsUnnoded (border_of area parts)))
all_found area parts a b c r f g h k =
    least_of (border_of area parts) (Found area parts) (found_so area parts) (so_found area parts) r
    (both node_total None c r (both node_total None b c (both node_total None a b f g) h) k)
