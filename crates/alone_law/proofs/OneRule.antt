-- Rules that have one answer at most: in a row, told in other words, and those of the new map.
use Rattle.std.proofs.Common.{◌≡◌, ◌≢◌, ℕ, ◌∙◌, List, [], ◌∷◌, Option, Some, None, ap, sym, refl, arith, inl, inr}
use Rattle.std.specs.Cmp.{IsTotalOrder}
use Rattle.std.specs.Cmp.Lexicographic.{slice_cmp}
use Rattle.std.specs.Ordering.{nat_cmp, ordering_reverse, ordering_then}
use Rattle.std.specs.declared.cmp.Ordering.{Ordering}
use Rattle.std.specs.declared.cmp.Ordering.TheVariants.{Less, Equal, Greater}
use Rattle.std.specs.Prelude.{Bool, true, false, cond, ◌⊎◌}
use Rattle.std.proofs.lemmas.Cmp.{nat_list_cmp_total, on_total, then_total}
use Rattle.rd_plane.specs.Covering.{border, Cancels, IsNoded, IsUncancelled}
use Rattle.rd_plane.specs.Order.{IsLeast, segment_cmp, segment_cmp-total, segment_equal, vertex_cmp, vertex_cmp-total, vertex_equal}
use Rattle.rd_plane.specs.Meeting.{IsEndOf}
use Rattle.rd_plane.specs.Plane.{Vertex, Segment, is_at, is_end, point_of}
use Rattle.rd_plane.proofs.FreePoint.{end_cases, point_from}
use Rattle.rd_plane.proofs.Polynomials.{one-mul}
use Rattle.rd_plane.proofs.Through.{is_at-same}
use Rattle.rd_plane.specs.Rule.{Rule, ◌then◌, Is}
use Rattle.chain_cancel.specs.Nodes.{IsUnnoded, node_cmp}
use Rattle.level_rules.specs.declared.item.LevelItem.{LevelItem}
use Rattle.level_rules.specs.Levels.{BreaksIn, LevelsHold, pair_cmp}
use Rattle.local_check.specs.declared.fault.MapFault.{MapFault}
use Rattle.local_check.specs.declared.fault.MapFault.TheVariants as fault
use Rattle.local_check.specs.Maps.{HolderParts, ground_of}
use Rattle.local_check.specs.MapRules.{CancelRule, LevelRule, MapRule, NodeRule}
use Rattle.map_rules.proofs.OneArea.{list_equal, neither_less}
use Rattle.map_rules.proofs.OneRule.{HasOne, one_is, one_then}
use Rattle.alone_law.specs.Judging.{Through}

pub one_through : {R S : Type 0} (told : R → S) {rule : Rule R} → HasOne rule → HasOne (Through told rule)
one_through {R} {S} told {rule} one = record { same = joined }
  where
    joined : (a b : Option S) → Through told rule a → Through told rule b → a ≡ b
    joined None None h k = refl
    joined None (Some s) h k = let e : None ≡ Some k.0 = one.same None (Some k.0) h k.1 in cc
    joined (Some r) None h k = let e : Some h.0 ≡ None = one.same (Some h.0) None h.1 k in cc
    joined (Some r) (Some s) h k = let e : Some h.0 ≡ Some k.0 = one.same (Some h.0) (Some k.0) h.1 k.1 in let f : h.0 ≡ k.0 = cc in ap Some
        (h.2 ∙ ap told f ∙ sym k.2)

-- ---- the least of an order
one_least : {A : Type 0} (order : A → A → Ordering) → IsTotalOrder order → ((x y : A) → order x y ≡ Equal → x ≡ y)
    → (P : A → Type 0) (x y : A)
    → IsLeast order P x → IsLeast order P y → x ≡ y
one_least order total equal P x y h k
    = equal x y (neither_less (order x y) (order y x) (total.antisymm x y) (k.least x h.has) (h.least y k.has))

both_equal : (o p : Ordering) → ordering_then o p ≡ Equal → (o ≡ Equal) × (p ≡ Equal)
both_equal Less p h = cc
both_equal Equal p h = (refl, h)
both_equal Greater p h = cc

abbrev Node : Type 0
Node = Vertex × Segment

abbrev node : Vertex → Segment → Node
node v e = (v, e)

node_total : IsTotalOrder node_cmp
node_total = then_total (on_total (λ (x : Node). x.0) vertex_cmp-total) (on_total (λ (x : Node). x.1) segment_cmp-total)

node_equal : (x y : Node) → node_cmp x y ≡ Equal → x ≡ y
node_equal x y h = let t = both_equal (vertex_cmp x.0 y.0) (segment_cmp x.1 y.1) h in ap (λ (v : Vertex). node v x.1)
    (vertex_equal x.0 y.0 t.0) ∙ ap
    (node y.0) (segment_equal x.1 y.1 t.1)

abbrev Pair : Type 0
Pair = List ℕ × List ℕ

abbrev pair : List ℕ → List ℕ → Pair
pair a b = (a, b)

pair_total : IsTotalOrder pair_cmp
pair_total = then_total (on_total (λ (x : Pair). x.0) nat_list_cmp_total) (on_total (λ (x : Pair). x.1) nat_list_cmp_total)

pair_equal : (x y : Pair) → pair_cmp x y ≡ Equal → x ≡ y
pair_equal x y h = let t = both_equal (slice_cmp nat_cmp x.0 y.0) (slice_cmp nat_cmp x.1 y.1) h in ap (λ (a : List ℕ). pair a x.1)
    (list_equal x.0 y.0 t.0) ∙ ap (pair y.0) (list_equal x.1 y.1 t.1)

-- ---- the new map
levels_or : (objects : List LevelItem) (x : Pair) → LevelsHold objects → BreaksIn objects x → ⊥
levels_or [] x h b = absurd (omega (arith, b.inside))
levels_or (d ∷ objects) x h b = h b.one b.other d b.before b.inside (b.breaks d)

one_levels : (objects : List LevelItem) → HasOne (LevelRule fault.LevelOverlap objects)
one_levels objects = record { same = told }
  where
    told : (a b : Option MapFault) → LevelRule fault.LevelOverlap objects a → LevelRule fault.LevelOverlap objects b → a ≡ b
    told None None h k = refl
    told None (Some s) h k = absurd (levels_or objects k.0 h k.1.has)
    told (Some r) None h k = absurd (levels_or objects h.0 k h.1.has)
    told (Some r) (Some s) h k = ap Some (h.2 ∙ ap (λ (x : Pair). fault.LevelOverlap x.0 x.1)
        (one_least pair_cmp pair_total pair_equal (BreaksIn objects) h.0 k.0 h.1 k.1) ∙ sym k.2)

or_true : (b : Bool) → cond b true true ≡ true
or_true true = refl
or_true false = refl

end_is : (e : Segment) (v : Vertex) → IsEndOf e v → is_end (point_of v) e ≡ true
end_is e v h = elim h [
  | inl k ↦ rw (is_at-same (point_of v) e.a (ap (λ (w : Vertex). w.x) k ∙ sym (one-mul e.a.x))
      (ap (λ (w : Vertex). w.y) k ∙ sym (one-mul e.a.y))) refl
  | inr k ↦ rw (is_at-same (point_of v) e.b (ap (λ (w : Vertex). w.x) k ∙ sym (one-mul e.b.x))
      (ap (λ (w : Vertex). w.y) k ∙ sym (one-mul e.b.y)))
      (or_true (is_at (point_of v) e.a))
]

which_end : (v : Vertex) (e : Segment) → is_end (point_of v) e ≡ true → (v ≡ e.a) ⊎ (v ≡ e.b)
which_end v e h = elim (end_cases (point_of v) e h) [
  | inl k ↦ inl (point_from v e.a (k.0 ∙ one-mul e.a.x) (k.1 ∙ one-mul e.a.y))
  | inr k ↦ inr (point_from v e.b (k.0 ∙ one-mul e.b.x) (k.1 ∙ one-mul e.b.y))
]

noded_or : (edges : List Segment) (x : Node) → IsNoded edges → IsUnnoded edges x → ⊥
noded_or edges x h u = elim (which_end x.0 x.1 (h u.own x.1 (point_of x.0) u.of u.edge (end_is u.own x.0 u.end) u.inside.0)) [
  | inl q ↦ u.inside.1 q
  | inr q ↦ u.inside.2 q
]

one_node : (edges : List Segment) → HasOne (NodeRule fault.Node edges)
one_node edges = record { same = told }
  where
    told : (a b : Option MapFault) → NodeRule fault.Node edges a → NodeRule fault.Node edges b → a ≡ b
    told None None h k = refl
    told None (Some s) h k = absurd (noded_or edges k.0 h k.1.has)
    told (Some r) None h k = absurd (noded_or edges h.0 k h.1.has)
    told (Some r) (Some s) h k = ap Some (h.2 ∙ ap (λ (x : Node). fault.Node x.0 x.1)
        (one_least node_cmp node_total node_equal (IsUnnoded edges) h.0 k.0 h.1 k.1) ∙ sym k.2)

cancels_or : (edges : List Segment) (e : Segment) → Cancels edges → IsUncancelled edges e → ⊥
cancels_or edges e cancels u = let both = cancels e u.occurs in elim u.wrong
    [ inl two ↦ omega (arith, two, both.0) | inr none ↦ omega (arith, none, both.1) ]

one_cancel : (edges : List Segment) → HasOne (CancelRule fault.Tiled edges)
one_cancel edges = record { same = told }
  where
    told : (a b : Option MapFault) → CancelRule fault.Tiled edges a → CancelRule fault.Tiled edges b → a ≡ b
    told None None h k = refl
    told None (Some s) h k = absurd (cancels_or edges k.0 h k.1.has)
    told (Some r) None h k = absurd (cancels_or edges h.0 k h.1.has)
    told (Some r) (Some s) h k = ap Some (h.2 ∙ ap (λ (e : Segment). fault.Tiled e)
        (one_least segment_cmp segment_cmp-total segment_equal (IsUncancelled edges) h.0 k.0 h.1 k.1) ∙ sym k.2)

pub one_map : (m : HolderParts) → HasOne (MapRule m)
one_map m = one_then (one_levels m.parts)
    (one_then (one_node (border m.area (ground_of m.parts))) (one_cancel (border m.area (ground_of m.parts))))
