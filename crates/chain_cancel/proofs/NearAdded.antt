-- The search among the edges near the added ones: it finds what the whole search finds.
use Rattle.std.proofs.Common.{refl, sym, inl, inr, List, subst}
use Rattle.std.specs.Prelude.{false, Option, None, MatchOption}
use Rattle.std.specs.List.{Contains}
use Rattle.rd_plane.specs.Covering.{IsNoded}
use Rattle.rd_plane.specs.Order.{IsLeast}
use Rattle.rd_plane.specs.Plane.{Segment, point_of}
use Rattle.rd_plane.proofs.Meetings.{own_on}
use Rattle.chain_cancel.specs.Nodes.{AreAllBut, AreNear, IsEndInside, IsUnnoded, node_cmp}
use Rattle.rd_plane.proofs.Improving.{Either, both}
use Rattle.rd_plane.specs.Improving.{Improves}
use Rattle.chain_cancel.proofs.Improving.{Node, node_total}
use Rattle.chain_cancel.proofs.LeastNode.{least_of}
use Rattle.chain_cancel.proofs.WithAdded.{none_inside}

abbrev Found : List Segment → List Segment → Node → Type 0
Found near added = Either (IsEndInside added near false) (IsEndInside near added false)

module _ (whole near added : List Segment) (all : AreAllBut whole added) (close : AreNear whole near added) where
  found_so : (x : Node) → Found near added x → IsUnnoded whole x
  found_so x t = elim t [
    | inl s ↦ record {
      own = s.own;
      of = all.among s.own s.of;
      end = s.end;
      edge = subst (Contains whole) (sym s.edge) (close.among s.from s.one);
      inside = s.inside;
    }
    | inr s ↦ record {
      own = s.own;
      of = close.among s.own s.of;
      end = s.end;
      edge = subst (Contains whole) (sym s.edge) (all.among s.from s.one);
      inside = s.inside;
    }
  ]

  so_found : (x : Node) → IsUnnoded whole x → Found near added x
  so_found x s = elim (all.others s.own s.of) [
    | inl new ↦ inl (record {
      own = s.own;
      of = new;
      end = s.end;
      from = x.1;
      one = close.enough x.1 s.own (point_of x.0) s.edge new s.inside.0 (own_on s.own x.0 s.end);
      edge = refl;
      inside = s.inside;
    })
    | inr old ↦ elim (all.others x.1 s.edge) [
      | inl new ↦ inr (record {
        own = s.own;
        of = close.enough s.own x.1 (point_of x.0) s.of new (own_on s.own x.0 s.end) s.inside.0;
        end = s.end;
        from = x.1;
        one = new;
        edge = refl;
        inside = s.inside;
      })
      | inr edge ↦ absurd (none_inside all.old s.own x.1 x.0 all.noded old edge s.end s.inside)
    ]
  ]

  pub near_found : (a r : Option Node) → Improves node_cmp (IsEndInside added near false) None a
      → Improves node_cmp (IsEndInside near added false) a r → MatchOption r (IsNoded whole) (IsLeast node_cmp (IsUnnoded whole))
  near_found a r f g = least_of whole (Found near added) found_so so_found r (both node_total None a r f g)
