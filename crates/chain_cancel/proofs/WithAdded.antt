-- The search with the added edges alone: where the others share their vertices, it finds what the whole search finds.
use Rattle.std.proofs.Common.{◌≡◌, refl, sym, ap, ◌∙◌, inl, inr, List, map, subst}
use Rattle.std.specs.Prelude.{true, false, Bool, cond, Option, None, MatchOption}
use Rattle.std.specs.List.{Contains}
use Rattle.rd_plane.specs.Covering.{IsNoded, border_of}
use Rattle.rd_plane.specs.Meeting.{IsEndOf}
use Rattle.rd_plane.specs.Order.{IsLeast, same_corner}
use Rattle.rd_plane.specs.Plane.{Vertex, Segment, point_of, is_at, is_end, reversed}
use Rattle.rd_plane.proofs.FreePoint.{end_cases}
use Rattle.rd_plane.proofs.Polynomials.{one-mul}
use Rattle.rd_plane.proofs.Through.{is_at-same}
use Rattle.chain_cancel.specs.Nodes.{AreAllBut, IsEndInside, IsStrictlyInside, IsUnnoded, node_cmp}
use Rattle.rd_plane.proofs.Improving.{Either, both}
use Rattle.rd_plane.specs.Improving.{Improves}
use Rattle.chain_cancel.proofs.Improving.{Node, node_total}
use Rattle.chain_cancel.proofs.LeastNode.{contains_left, contains_right, contains_turned, end_back, end_turned, least_of, one_of}

or_true : (b : Bool) → cond b true true ≡ true
or_true true = refl
or_true false = refl

end_is : (e : Segment) (v : Vertex) → IsEndOf e v → is_end (point_of v) e ≡ true
end_is e v h = elim h [
  | inl k ↦ rw (is_at-same (point_of v) e.a (ap (λ (w : Vertex). w.x) k ∙ sym (one-mul e.a.x))
      (ap (λ (w : Vertex). w.y) k ∙ sym (one-mul e.a.y))) refl
  | inr k ↦ rw (is_at-same (point_of v) e.b (ap (λ (w : Vertex). w.x) k ∙ sym (one-mul e.b.x))
      (ap (λ (w : Vertex). w.y) k ∙ sym (one-mul e.b.y))) (or_true (is_at (point_of v) e.a))
]

-- of edges that share their vertices none has an end of another strictly inside
pub none_inside : (old : List Segment) (own e : Segment) (v : Vertex) → IsNoded old → Contains old own → Contains old e → IsEndOf own v
    → IsStrictlyInside v e → ⊥
none_inside old own e v n a b end inside = elim (end_cases (point_of v) e (n own e (point_of v) a b (end_is own v end) inside.0)) [
  | inl k ↦ inside.1 (same_corner v e.a (k.0 ∙ one-mul e.a.x) (k.1 ∙ one-mul e.a.y))
  | inr k ↦ inside.2 (same_corner v e.b (k.0 ∙ one-mul e.b.x) (k.1 ∙ one-mul e.b.y))
]

-- the four searches
abbrev Found : List Segment → List Segment → List Segment → Node → Type 0
Found area parts added =
    Either (Either (Either (IsEndInside added parts false) (IsEndInside added area true)) (IsEndInside parts added false))
    (IsEndInside area added false)

module _ (area parts added : List Segment) (all : AreAllBut (border_of area parts) added) where
  found_so : (x : Node) → Found area parts added x → IsUnnoded (border_of area parts) x
  found_so x t = elim t [
    | inl a ↦ elim a [
      | inl b ↦ elim b [
        | inl s ↦ record {
          own = s.own;
          of = all.among s.own s.of;
          end = s.end;
          edge = subst (Contains (border_of area parts)) (sym s.edge) (contains_left parts (map reversed area) s.from s.one);
          inside = s.inside;
        }
        | inr s ↦ record {
          own = s.own;
          of = all.among s.own s.of;
          end = s.end;
          edge = subst (Contains (border_of area parts)) (sym s.edge)
              (contains_right parts (map reversed area) (reversed s.from) (contains_turned area s.from s.one));
          inside = s.inside;
        }
      ]
      | inr s ↦ record {
        own = s.own;
        of = contains_left parts (map reversed area) s.own s.of;
        end = s.end;
        edge = subst (Contains (border_of area parts)) (sym s.edge) (all.among s.from s.one);
        inside = s.inside;
      }
    ]
    | inr s ↦ record {
      own = reversed s.own;
      of = contains_right parts (map reversed area) (reversed s.own) (contains_turned area s.own s.of);
      end = end_back s.own x.0 s.end;
      edge = subst (Contains (border_of area parts)) (sym s.edge) (all.among s.from s.one);
      inside = s.inside;
    }
  ]

  so_found : (x : Node) → IsUnnoded (border_of area parts) x → Found area parts added x
  so_found x s = elim (all.others s.own s.of) [
    | inl own ↦ elim (one_of area parts x.1 s.edge).case [
      | inl c ↦ inl (inl (inl (record { own = s.own; of = own; end = s.end; from = x.1; one = c; edge = refl; inside = s.inside })))
      | inr c ↦ inl (inl (inr (record { own = s.own; of = own; end = s.end; from = c.0; one = c.1; edge = c.2; inside = s.inside })))
    ]
    | inr old ↦ elim (all.others x.1 s.edge) [
      | inl new ↦ elim (one_of area parts s.own s.of).case [
        | inl own ↦ inl (inr (record { own = s.own; of = own; end = s.end; from = x.1; one = new; edge = refl; inside = s.inside }))
        | inr own ↦ inr (record {
          own = own.0;
          of = own.1;
          end = end_turned s.own own.0 x.0 own.2 s.end;
          from = x.1;
          one = new;
          edge = refl;
          inside = s.inside;
        })
      ]
      | inr edge ↦ absurd (none_inside all.old s.own x.1 x.0 all.noded old edge s.end s.inside)
    ]
  ]

  pub with_found : (a b c r : Option Node) → Improves node_cmp (IsEndInside added parts false) None a
      → Improves node_cmp (IsEndInside added area true) a b → Improves node_cmp (IsEndInside parts added false) b c
      → Improves node_cmp (IsEndInside area added false) c r →
      MatchOption r (IsNoded (border_of area parts)) (IsLeast node_cmp (IsUnnoded (border_of area parts)))
  with_found a b c r f g h k = least_of (border_of area parts) (Found area parts added) found_so so_found r
      (both node_total None c r (both node_total None b c (both node_total None a b f g) h) k)
