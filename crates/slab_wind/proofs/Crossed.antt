-- Edges that do not cross, by the sides of their ends and by their boxes.
use Rattle.std.proofs.Common.{◌≡◌, ℕ, sym, ap, ◌∙◌, arith, ◌+◌, ◌-◌, ◌<◌, ◌≤◌, inl, inr, List, [], ◌∷◌, length, take, drop, get_or, subst}
use Rattle.std.specs.Prelude.{pos, ◌≢◌, MatchOption, Option, Some}
use Rattle.std.specs.List.{All, Contains}
use Rattle.std.proofs.lemmas.Bool.{cases_Bool}
use Rattle.std.proofs.lemmas.Int.{by_lt_z}
use Rattle.std.proofs.lemmas.List.{get_or_default, get_or-take, get_or-drop, length-take, length-drop}
use Rattle.rd_plane.specs.Bounds.{Box, HaveCommonPoint, IsLeastBox}
use Rattle.rd_plane.specs.EdgeBoxes.{HoldsEdge, HoldsEdges}
use Rattle.rd_plane.specs.Plane.{Segment, is_end}
use Rattle.rd_plane.proofs.Polynomials.{linear}
use Rattle.rd_plane.proofs.Touching.{On-from_on}
use Rattle.rd_plane.proofs.Sides.{heading}
use Rattle.rd_plane.proofs.FreePoint.{mutual_line}
use Rattle.rd_plane.proofs.Crossings.{parts_or_along}
use Rattle.rd_plane.proofs.EdgeBoxes.{boxes_meet, holds_edge}
use Rattle.slab_wind.specs.Wounds.{DoNotCross}
use Rattle.slab_wind.specs.Sharing.{Parts, SomeCross, NoneCrosses}

-- edges that do not part each other's ends
pub not_parted : (e f : Segment) → e.a ≢ e.b → f.a ≢ f.b → (Parts e f → Parts f e → ⊥) → DoNotCross e f
not_parted e f de df n p oe of = elim (cases_Bool (is_end p e)) [
  | inl t ↦ inl (inl t)
  | inr ne ↦ elim (cases_Bool (is_end p f)) [
    | inl t ↦ inl (inr t)
    | inr nf ↦ elim (parts_or_along e f p df (On-from_on p e oe) (On-from_on p f of) nf) [
      | inr k ↦ inr (k, mutual_line f e (heading e de) k)
      | inl k ↦ elim (parts_or_along f e p de (On-from_on p f of) (On-from_on p e oe) ne) [
        | inr l ↦ inr (mutual_line e f (heading f df) l, l)
        | inl l ↦ absurd (n k l)
      ]
    ]
  ]
]

-- nor do edges whose boxes lie apart cross
pub boxes_apart : (box other : Box) (e f : Segment) → HoldsEdge box e → HoldsEdge other f → (HaveCommonPoint box other → ⊥) → DoNotCross e f
boxes_apart box other e f h k n p oe of = absurd (n (boxes_meet box other e f p h k oe of))

pub edge_apart : (own box : Box) (e : Segment) (es : List Segment) → IsLeastBox (e.a ∷ e.b ∷ []) own → HoldsEdges box es
    → (HaveCommonPoint own box → ⊥) → All (DoNotCross e) es
edge_apart own box e es l h n i d k = boxes_apart own box e (get_or es i d) (holds_edge own e l) (h i d k) n

pub lists_apart : (box other : Box) (es fs : List Segment) → HoldsEdges other es → HoldsEdges box fs → (HaveCommonPoint box other → ⊥)
    → NoneCrosses es fs
lists_apart box other es fs h k n i d l j c m
    = boxes_apart other box (get_or es i d) (get_or fs j c) (h i d l) (k j c m) (λ t. n (t.0, t.2, t.1))

pub found_box : (found : Option Box) (es : List Segment) (box : Box) → MatchOption found (es ≡ []) (λ b. HoldsEdges b es) → found ≡ Some box
    → HoldsEdges box es
found_box found es box h q = rw q at h

-- ---- one edge more
pub more : (P : Segment → Type 0) (es : List Segment) (i : ℕ) (e : Segment) → i < length es → get_or es i e ≡ e
    → ((k : ℕ) (d : Segment) → k < i → P (get_or es k d)) → P e → (k : ℕ) (d : Segment) → k < i + 1 → P (get_or es k d)
more P es i e l q h p k d m = by_lt_z (pos k) (pos i) (λ n. h k d (omega (arith, linear, n)))
    (λ n. let s : i ≡ k = omega (arith, linear, n, m) in subst P (sym q ∙ get_or_default es i e d l ∙ ap (λ j. get_or es j d) s) p)

-- ---- stretches
pub in_stretch : (es : List Segment) (from to k : ℕ) (d : Segment) → to ≤ length es → from ≤ k → k < to
    → get_or (take (to - from) (drop from es)) (k - from) d ≡ get_or es k d
in_stretch es from to k d h l m = get_or-take (to - from) (drop from es) (k - from) d (omega (arith, l, m)) ∙ get_or-drop from es (k - from)
    d ∙ ap (λ n. get_or es n d) (omega (arith, l))

length-stretch : (es : List Segment) (from to : ℕ) → to ≤ length es → length (take (to - from) (drop from es)) ≡ to - from
length-stretch es from to h = omega (arith, length-take (to - from) (drop from es), length-drop from es, h)

-- none of the edges before a place crosses one of the list
abbrev pub NoneBefore : List Segment → List Segment → ℕ → Type 0
NoneBefore es second to = (k : ℕ) (d : Segment) → k < to → All (λ f. DoNotCross f (get_or es k d)) second

pub stretch_more : (es second : List Segment) (from to : ℕ) → to ≤ length es → NoneBefore es second from
    → NoneCrosses second (take (to - from) (drop from es)) → NoneBefore es second to
stretch_more es second from to h b n k d m j c l = by_lt_z (pos k) (pos from) (λ t. b k d (omega (arith, linear, t)) j c l)
    (λ t. let w : from ≤ k = omega (arith, linear, t) in subst (DoNotCross (get_or second j c)) (in_stretch es from to k d h w m)
    (n j c l (k - from) d (omega (arith, length-stretch es from to h, m, w))))

pub none_before_end : (es second : List Segment) (to : ℕ) → length es ≤ to → NoneBefore es second to → NoneCrosses second es
none_before_end es second to h b j c l k d m = b k d (omega (arith, m, h)) j c l

-- an edge of a stretch is one of the list
pub stretch_has : (es : List Segment) (from to : ℕ) (e : Segment) → to ≤ length es → from ≤ to
    → Contains (take (to - from) (drop from es)) e → Contains es e
stretch_has es from to e h w c = (
  from + c.0,
  omega (arith, c.1, length-stretch es from to h, h),
  sym (in_stretch es from to (from + c.0) e
      h (omega arith) (omega (arith, c.1, length-stretch es from to h))) ∙ ap (λ n. get_or (take (to - from) (drop from es)) n e)
      (omega arith) ∙ c.2,
)

pub stretch_crossed : (es second : List Segment) (from to : ℕ) → to ≤ length es → from ≤ to
    → SomeCross second (take (to - from) (drop from es)) → SomeCross second es
stretch_crossed es second from to h w c = (c.0, c.1, (c.2.0, stretch_has es from to c.2.0 h w c.2.1, c.2.2))

pub none_of_empty : (second es : List Segment) → second ≡ [] → NoneCrosses second es
none_of_empty second es q i d l = absurd (omega (arith, l, ap length q))

pub stretch_some : (es : List Segment) (from to : ℕ) → from < to → to ≤ length es → take (to - from) (drop from es) ≢ []
stretch_some es from to w h q = omega (arith, length-stretch es from to h, ap length q, w)
