-- The least two edges that cross: one edge after another, stretch by stretch, block by block.
use Rattle.std.proofs.Common.{◌≡◌, ℕ, refl, sym, ap, ◌∙◌, arith, ◌+◌, ◌-◌, ◌<◌, ◌≤◌, inl, inr, List, [], ◌∷◌, ◌++◌, length, take, drop, get_or, subst}
use Rattle.std.specs.Prelude.{true, ◌≢◌, ◌⊎◌, Option, Some, None, MatchOption}
use Rattle.std.specs.List.{Contains}
use Rattle.std.specs.Cmp.{IsTotalOrder}
use Rattle.std.specs.declared.cmp.Ordering.TheVariants.{Less}
use Rattle.std.proofs.lemmas.Cmp.{on_total, then_total}
use Rattle.std.proofs.lemmas.List.{length-take}
use Rattle.std.proofs.lemmas.List.Elements.{Contains-append_cases, Contains-append_left, Contains-append_right}
use Rattle.rd_plane.specs.Bounds.{Box, HaveCommonPoint, IsLeastBox, LiesInBox}
use Rattle.rd_plane.specs.EdgeBoxes.{HoldsEdge, HoldsEdges}
use Rattle.rd_plane.specs.Order.{IsLeast, segment_cmp-total}
use Rattle.rd_plane.specs.Plane.{Segment, Point, on}
use Rattle.rd_plane.proofs.EdgeBoxes.{boxes_meet, edge_in_box, holds_edge}
use Rattle.rd_plane.proofs.Members.{contains_cases, contains_head}
use Rattle.rd_plane.proofs.Improving.{Either, both, first, least_of, lesser, none, same}
use Rattle.rd_plane.proofs.Taken.{front_has, stretch_cases, stretch_has, take_before, take_cases, take_has, take_new, take_whole}
use Rattle.rd_plane.specs.Improving.{Improves}
use Rattle.fault_point.specs.Crossings.{AreCrossing, AreNearBox, IsPair, IsPairWith, IsPairOf}
use Rattle.fault_point.specs.Faults.{IsCrossing, pair_cmp}

abbrev pub Pair : Type 0
Pair = Segment × Segment

-- ---- the order
pub pair_total : IsTotalOrder pair_cmp
pair_total = then_total (on_total (λ (x : Pair). x.0) segment_cmp-total) (on_total (λ (x : Pair). x.1) segment_cmp-total)

-- ---- one pair
pub tried_not : (a : Option Pair) (e f : Segment) → (AreCrossing e f → ⊥) → Improves pair_cmp (IsPair e f) a a
tried_not a e f n = none pair_total a (λ x t. n t.1)

pub tried_first : (e f : Segment) → AreCrossing e f → Improves pair_cmp (IsPair e f) None (Some (e, f))
tried_first e f s = first {T = IsPair e f} pair_total (e, f) (refl, s) (λ x t. t.0)

-- the lesser of what was found and of e and f
pub tried_least : (a : Option Pair) (found r : Pair) (e f : Segment) → a ≡ Some found → AreCrossing e f
    → ((r ≡ found) × (pair_cmp found (e, f) ≡ Less)) ⊎ ((r ≡ (e, f)) × (pair_cmp found (e, f) ≢ Less))
    → Improves pair_cmp (IsPair e f) a (Some r)
tried_least a found r e f q s c = lesser {T = IsPair e f} pair_total a found r (e, f) q (refl, s) (λ x t. t.0) c

-- ---- one edge with others
pub with_begin : (e : Segment) (fs : List Segment) (a : Option Pair) → Improves pair_cmp (IsPairWith e (take 0 fs)) a a
with_begin e fs a = none pair_total a (λ x t. omega (arith, t.second.1, length-take 0 fs))

pair_of : (x : Pair) (e f : Segment) → x.0 ≡ e → x.1 ≡ f → x ≡ (e, f)
pair_of x e f p q = ap (λ (g : Segment). (g, x.1)) p ∙ ap (λ (g : Segment). (e, g)) q

pub with_more : (e : Segment) (fs : List Segment) (i : ℕ) (f : Segment) (a b c : Option Pair) → i < length fs → get_or fs i f ≡ f
    → Improves pair_cmp (IsPairWith e (take i fs)) a b → Improves pair_cmp (IsPair e f) b c
    → Improves pair_cmp (IsPairWith e (take (i + 1) fs)) a c
with_more e fs i f a b c h q g k = same a c there back (both pair_total a b c g k)
  where
    there : (x : Pair) → Either (IsPairWith e (take i fs)) (IsPair e f) x → IsPairWith e (take (i + 1) fs) x
    there x u = elim u [
      | inl s ↦ record { first = s.first; second = take_before fs i x.1 s.second; crossing = s.crossing }
      | inr s ↦ let p = ap (λ (y : Pair). y.0) s.0 in let r = ap (λ (y : Pair). y.1) s.0 in
          record {
            first = p;
            second = subst (Contains (take (i + 1) fs)) (sym r) (take_new fs i f h q);
            crossing = subst (λ g. AreCrossing g x.1) (sym p) (subst (AreCrossing e) (sym r) s.1);
          }
    ]

    back : (x : Pair) → IsPairWith e (take (i + 1) fs) x → Either (IsPairWith e (take i fs)) (IsPair e f) x
    back x s = elim (take_cases fs i f x.1 h q s.second) [
      | inl u ↦ inl (record { first = s.first; second = u; crossing = s.crossing })
      | inr u ↦ inr (pair_of x e f s.first u, subst (λ g. AreCrossing g f) s.first (subst (AreCrossing x.0) u s.crossing))
    ]

pub with_whole : (e : Segment) (fs : List Segment) (i : ℕ) (a b : Option Pair) → length fs ≤ i
    → Improves pair_cmp (IsPairWith e (take i fs)) a b
    → Improves pair_cmp (IsPairWith e fs) a b
with_whole e fs i a b h g = same a b
    (λ x s. record { first = s.first; second = take_has fs i x.1 s.second; crossing = s.crossing })
    (λ x s. record { first = s.first; second = take_whole fs i x.1 h s.second; crossing = s.crossing }) g

-- edges whose box lies apart
pub with_apart : (e : Segment) (fs : List Segment) (box near : Box) (a : Option Pair) → HoldsEdges box fs → IsLeastBox (e.a ∷ e.b ∷ []) near
    → (HaveCommonPoint near box → ⊥) → Improves pair_cmp (IsPairWith e fs) a a
with_apart e fs box near a h l n = none pair_total a (λ x t. let c = t.crossing.0.1.common in n (boxes_meet near box e x.1 t.crossing.0.0
    (holds_edge near e l) (subst (HoldsEdge box) t.second.2 (h t.second.0 x.1 t.second.1))
    (subst (λ g. on t.crossing.0.0 g ≡ true) t.first c.0) c.1))

-- ---- all edges with those of a stretch
pub of_begin : (es fs : List Segment) (a : Option Pair) → Improves pair_cmp (IsPairOf (take 0 es) fs) a a
of_begin es fs a = none pair_total a (λ x t. omega (arith, t.first.1, length-take 0 es))

pub of_more : (es fs : List Segment) (i : ℕ) (e : Segment) (a b c : Option Pair) → i < length es → get_or es i e ≡ e
    → Improves pair_cmp (IsPairOf (take i es) fs) a b → Improves pair_cmp (IsPairWith e fs) b c
    → Improves pair_cmp (IsPairOf (take (i + 1) es) fs) a c
of_more es fs i e a b c h q g k = same a c there back (both pair_total a b c g k)
  where
    there : (x : Pair) → Either (IsPairOf (take i es) fs) (IsPairWith e fs) x → IsPairOf (take (i + 1) es) fs x
    there x u = elim u [
      | inl s ↦ record { first = take_before es i x.0 s.first; second = s.second; crossing = s.crossing }
      | inr s ↦ record {
        first = subst (Contains (take (i + 1) es)) (sym s.first) (take_new es i e h q);
        second = s.second;
        crossing = s.crossing;
      }
    ]

    back : (x : Pair) → IsPairOf (take (i + 1) es) fs x → Either (IsPairOf (take i es) fs) (IsPairWith e fs) x
    back x s = elim (take_cases es i e x.0 h q s.first) [
      | inl u ↦ inl (record { first = u; second = s.second; crossing = s.crossing })
      | inr u ↦ inr (record { first = u; second = s.second; crossing = s.crossing })
    ]

pub of_whole : (es fs : List Segment) (i : ℕ) (a b : Option Pair) → length es ≤ i → Improves pair_cmp (IsPairOf (take i es) fs) a b
    → Improves pair_cmp (IsPairOf es fs) a b
of_whole es fs i a b h g = same a b
    (λ x s. record { first = take_has es i x.0 s.first; second = s.second; crossing = s.crossing })
    (λ x s. record { first = take_whole es i x.0 h s.first; second = s.second; crossing = s.crossing }) g

pub of_none : (es fs : List Segment) (a : Option Pair) → fs ≡ [] → Improves pair_cmp (IsPairOf es fs) a a
of_none es fs a q = none pair_total a (λ x s. omega (arith, s.second.1, ap length q))

-- ---- stretch by stretch
pub stretch_begin : (es fs : List Segment) (a : Option Pair) → Improves pair_cmp (IsPairOf es (take 0 fs)) a a
stretch_begin es fs a = none pair_total a (λ x s. omega (arith, s.second.1, length-take 0 fs))

pub stretch_more : (es fs : List Segment) (from to : ℕ) (a b c : Option Pair) → from < to → to ≤ length fs
    → Improves pair_cmp (IsPairOf es (take from fs)) a b → Improves pair_cmp (IsPairOf es (take (to - from) (drop from fs))) b c
    → Improves pair_cmp (IsPairOf es (take to fs)) a c
stretch_more es fs from to a b c w h g k = same a c there back (both pair_total a b c g k)
  where
    there : (x : Pair) → Either (IsPairOf es (take from fs)) (IsPairOf es (take (to - from) (drop from fs))) x → IsPairOf es (take to fs) x
    there x u = elim u [
      | inl s ↦ record { first = s.first; second = front_has fs from to x.1 (omega (arith, w)) s.second; crossing = s.crossing }
      | inr s ↦ record { first = s.first; second = stretch_has fs from to x.1 (omega (arith, w)) h s.second; crossing = s.crossing }
    ]

    back : (x : Pair) → IsPairOf es (take to fs) x → Either (IsPairOf es (take from fs)) (IsPairOf es (take (to - from) (drop from fs))) x
    back x s = elim (stretch_cases fs from to x.1 (omega (arith, w)) h s.second) [
      | inl u ↦ inl (record { first = s.first; second = u; crossing = s.crossing })
      | inr u ↦ inr (record { first = s.first; second = u; crossing = s.crossing })
    ]

pub stretch_whole : (es fs : List Segment) (i : ℕ) (a b : Option Pair) → length fs ≤ i → Improves pair_cmp (IsPairOf es (take i fs)) a b
    → Improves pair_cmp (IsPairOf es fs) a b
stretch_whole es fs i a b h g = same a b
    (λ x s. record { first = s.first; second = take_has fs i x.1 s.second; crossing = s.crossing })
    (λ x s. record { first = s.first; second = take_whole fs i x.1 h s.second; crossing = s.crossing }) g

-- ---- what was found at the end
pub found : (es : List Segment) (i : ℕ) (r : Option Pair) → length es ≤ i → Improves pair_cmp (IsPairOf es (take i es)) None r
    → MatchOption r ((x : Pair) → IsCrossing es x → ⊥) (IsLeast pair_cmp (IsCrossing es))
found es i r h g = least_of r (same {T = IsPairOf es (take i es)} {U = IsCrossing es} None r
    (λ x t. record { first = t.first; second = take_has es i x.1 t.second; cross = t.crossing.0; smaller = t.crossing.1 })
    (λ x t. record { first = t.first; second = take_whole es i x.1 h t.second; crossing = (t.cross, t.smaller) }) g)

-- ---- the edges near a block
-- the edges that have a point of the box are listed, up to a place
pub record AreNearBefore (box : Box) (es : List Segment) (i : ℕ) (near : List Segment) : Type 0 where
  pub some : (e : Segment) → Contains near e → Contains es e
  pub all : (e : Segment) (p : Point) → Contains (take i es) e → on p e ≡ true → LiesInBox box p → Contains near e

pub near_begin : (box : Box) (es : List Segment) → AreNearBefore box es 0 []
near_begin box es = record { some = λ e c. absurd (omega (arith, c.1)); all = λ e p c. absurd (omega (arith, c.1, length-take 0 es)) }

pub near_in : (box : Box) (es near : List Segment) (i : ℕ) (f : Segment) → i < length es → get_or es i f ≡ f → AreNearBefore box es i near
    → AreNearBefore box es (i + 1) (near ++ f ∷ [])
near_in box es near i f h q n = record {
  some = λ e c. elim (Contains-append_cases near (f ∷ []) e c) [ inl d ↦ n.some e d | inr d ↦ subst (Contains es) (only f e d) (i, h, q) ];
  all = λ e p c o l. elim (take_cases es i f e h q c) [
    | inl d ↦ Contains-append_left near (f ∷ []) e (n.all e p d o l)
    | inr k ↦ subst (Contains (near ++ f ∷ [])) (sym k) (Contains-append_right near (f ∷ []) f (contains_head f []))
  ];
}
  where
    only : (f e : Segment) → Contains (f ∷ []) e → f ≡ e
    only f e d = elim (contains_cases f e [] d) [ inl k ↦ k | inr k ↦ absurd (omega (arith, k.1)) ]

pub near_past : (box own : Box) (es near : List Segment) (i : ℕ) (f : Segment) → i < length es → get_or es i f ≡ f
    → IsLeastBox (f.a ∷ f.b ∷ []) own
    → (HaveCommonPoint own box → ⊥) → AreNearBefore box es i near → AreNearBefore box es (i + 1) near
near_past box own es near i f h q b m n = record {
  some = n.some;
  all = λ e p c o l. elim (take_cases es i f e h q c) [
    | inl d ↦ n.all e p d o l
    | inr k ↦ absurd (m (p, edge_in_box own f p (holds_edge own f b) (subst (λ g. on p g ≡ true) k o), l))
  ];
}

pub near_end : (box : Box) (es near : List Segment) (i : ℕ) → length es ≤ i → AreNearBefore box es i near → AreNearBox box es near
near_end box es near i h n = record { some = n.some; all = λ e p c o l. n.all e p (take_whole es i e h c) o l }

-- so the search among them is one among all
pub near_pairs : (box : Box) (es near block : List Segment) (a b : Option Pair) → HoldsEdges box block → AreNearBox box es near
    → Improves pair_cmp (IsPairOf near block) a b → Improves pair_cmp (IsPairOf es block) a b
near_pairs box es near block a b h n g = same a b
    (λ x s. record { first = n.some x.0 s.first; second = s.second; crossing = s.crossing })
    (λ x s. let k = s.crossing.0 in record {
      first
          = n.all x.0 k.0 s.first k.1.common.0 (edge_in_box box x.1 k.0 (held x.1 s.second) k.1.common.1);
      second = s.second;
      crossing = s.crossing;
    }) g
  where
    held : (e : Segment) → Contains block e → HoldsEdge box e
    held e c = subst (HoldsEdge box) c.2 (h c.0 e c.1)
