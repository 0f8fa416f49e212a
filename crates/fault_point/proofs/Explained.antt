-- The answer, as the definition of an explanation has it.
use Rattle.std.proofs.Common.{◌≡◌, ℕ, refl, sym, ◌∙◌, arith, inl, List, get_or, subst}
use Rattle.std.specs.Prelude.{pos, ◌≢◌, ◌↔◌, Bool, false, Option, Some, None, MatchOption}
use Rattle.std.specs.List.{All, Contains}
use Rattle.std.proofs.lemmas.List.Elements.{recursion_from_All, Contains-get_or}
use Rattle.rd_plane.specs.Covering.{border, cover_count, covers_any, IsNoded, IsSoundArea, IsTiled}
use Rattle.rd_plane.specs.Frac.{Frac, StandsFor}
use Rattle.rd_plane.specs.Meeting.{IsMeet}
use Rattle.rd_plane.specs.declared.meet.Meet.TheVariants.{Cross}
use Rattle.rd_plane.specs.Order.{IsLeast, segment_cmp, segment_cmp-total, segment_equal}
use Rattle.rd_plane.specs.Plane.{Segment, Point}
use Rattle.rd_plane.specs.Shapes.{IsSoundShape, WindsBy}
use Rattle.slab_wind.specs.Rows.{IsLowestWrong}
use Rattle.slab_wind.specs.Wounds.{NoneCross}
use Rattle.rd_plane.proofs.Improving.{by_ordering, reverse_greater}
use Rattle.rd_plane.proofs.OnlyCross.{cross_back}
use Rattle.chain_cancel.proofs.Exact.{border_differs}
use Rattle.fault_point.specs.Faults.{Explains, IsCrossing, IsLowest, PointRule, pair_cmp}
use Rattle.fault_point.specs.declared.fault.Fault.{Fault}
use Rattle.fault_point.specs.declared.fault.Fault.TheVariants as fault
use Rattle.fault_point.proofs.Crossed.{cross_so, not_crossing}
use Rattle.fault_point.proofs.First.{first_point, first_wrong, moved_first}
use Rattle.fault_point.proofs.Uncrossed.{not_itself, tiled_uncrossed}
use Rattle.fault_point.proofs.Wounded.{Shapes, unwound_tiled}

-- ---- two edges cross: the map is not tiled
pub crossed_explains : (area parts : Shapes) → (x : Segment × Segment) → (r : Fault) → IsLeast pair_cmp (IsCrossing (border area parts)) x
    → r ≡ fault.Crossing x.0 x.1 → Explains area parts (Some r)
crossed_explains area parts x r l q = inl (x, l, q)

pub crossed_exact : (area parts : Shapes) → IsSoundArea area → All IsSoundShape parts → IsNoded (border area parts)
    → (x : Segment × Segment)
    → IsLeast pair_cmp (IsCrossing (border area parts)) x → (r : Fault) → (Some r ≡ None) ↔ IsTiled area parts
crossed_exact area parts sa sp n x l r
    = (λ q. cc, λ t. absurd (tiled_uncrossed area parts sa sp n t x.0 x.1 l.has.first l.has.second l.has.cross))

-- ---- no two edges cross: a sweep may be asked
pub none_cross : (area parts : Shapes) → IsSoundArea area → All IsSoundShape parts
    → ((x : Segment × Segment) → IsCrossing (border area parts) x → ⊥)
    → NoneCross (border area parts)
none_cross area parts sa sp n i j d h l = not_crossing e f (differ e ce) (differ f cf) (λ k. by_ordering (segment_cmp e f)
    (λ o. n (e, f) (record { first = ce; second = cf; cross = k; smaller = o }))
    (λ o. not_itself e (cross_so e e (differ e ce) (differ e ce) (subst (λ g. IsMeet e g Cross) (sym (segment_equal e f o)) k)))
    (λ o. n (f, e) (record {
      first = cf;
      second = ce;
      cross = cross_back e f k;
      smaller = segment_cmp-total.antisymm f e ∙ reverse_greater (segment_cmp e f) o;
    })))
  where
    e : Segment
    e = get_or (border area parts) i d

    f : Segment
    f = get_or (border area parts) j d

    ce : Contains (border area parts) e
    ce = Contains-get_or (border area parts) i d (omega (arith, h, l))

    cf : Contains (border area parts) f
    cf = Contains-get_or (border area parts) j d l

    differ : (g : Segment) → Contains (border area parts) g → g.a ≢ g.b
    differ g c = border_differs area parts (recursion_from_All IsSoundShape area sa.sound) (recursion_from_All IsSoundShape parts sp) g c

-- ---- nothing was found: the parts tile the area
pub none_exact : (area parts : Shapes) → IsSoundArea area → All IsSoundShape parts → WindsBy (pos 0) (border area parts)
    → IsTiled area parts
none_exact area parts sa sp w = unwound_tiled area parts sa sp w

-- ---- a point
pub point_explains : (area parts : Shapes) → IsSoundArea area → All IsSoundShape parts → (found at : Frac) (n : ℕ) (inside : Bool)
    → IsLowestWrong false (border area parts) found → ((p : Point) → StandsFor found p → StandsFor at p) → at.y_half ≡ found.y_half
    → IsLowest at →
    ((p : Point) → StandsFor at p → n ≡ cover_count p parts) → ((p : Point) → StandsFor at p → inside ≡ covers_any p area)
    → PointRule area parts (Some (fault.Point at n inside))
point_explains area parts sa sp found at n inside h same q low count within = let first = first_wrong area parts sa sp found h
    in let p = first_point area parts found first in (
      at,
      n,
      inside,
      record {
        first = moved_first area parts found at same q first;
        lowest = low;
        at = p.0;
        stands = same p.0 p.1;
        wrong = p.2;
        counted = count p.0 (same p.0 p.1);
        within = within p.0 (same p.0 p.1);
      },
      refl,
    )

pub point_exact : (area parts : Shapes) (r : Fault) → PointRule area parts (Some r) → (Some r ≡ None) ↔ IsTiled area parts
point_exact area parts r h = (λ q. cc, λ t. let w = h.3.wrong in absurd (w.wrong (t h.3.at w.off_border)))

-- ---- what the search for edges that cross found
pub found_crossing : (area parts : Shapes) (edges : List Segment) (found : Option (Segment × Segment)) (x : Segment × Segment)
    → edges ≡ border area parts
    → found ≡ Some x → MatchOption found ((x : Segment × Segment) → IsCrossing edges x → ⊥) (IsLeast pair_cmp (IsCrossing edges))
    → IsLeast pair_cmp (IsCrossing (border area parts)) x
found_crossing area parts edges found x q e h = subst (λ l. IsLeast pair_cmp (IsCrossing l) x) q (rw e at h)

pub none_found : (area parts : Shapes) (edges : List Segment) (found : Option (Segment × Segment)) → edges ≡ border area parts
    → found ≡ None
    → MatchOption found ((x : Segment × Segment) → IsCrossing edges x → ⊥) (IsLeast pair_cmp (IsCrossing edges)) → (x : Segment × Segment)
    → IsCrossing (border area parts) x → ⊥
none_found area parts edges found q e h = subst (λ l. (x : Segment × Segment) → IsCrossing l x → ⊥) q (rw e at h)

-- ---- what the sweep found
pub none_wound : (area parts : Shapes) (edges : List Segment) (found : Option Frac) → edges ≡ border area parts → found ≡ None
    → MatchOption found (WindsBy (pos 0) edges) (IsLowestWrong false edges) → WindsBy (pos 0) (border area parts)
none_wound area parts edges found q e h = subst (WindsBy (pos 0)) q (rw e at h)

pub found_wound : (area parts : Shapes) (edges : List Segment) (found : Option Frac) (f : Frac) → edges ≡ border area parts → found ≡ Some f
    → MatchOption found (WindsBy (pos 0) edges) (IsLowestWrong false edges) → IsLowestWrong false (border area parts) f
found_wound area parts edges found f q e h = subst (λ l. IsLowestWrong false l f) q (rw e at h)
