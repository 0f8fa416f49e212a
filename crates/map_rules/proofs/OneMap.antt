-- The rules of a map have one answer at most.
use Rattle.std.proofs.Common.{◌≡◌, ℕ, ◌∙◌, List, [], ◌∷◌, Option, Some, None, ap, sym, refl, arith, inl, inr}
use Rattle.std.specs.Cmp.{IsTotalOrder}
use Rattle.std.specs.Cmp.Lexicographic.{slice_cmp}
use Rattle.std.specs.Ordering.{nat_cmp, ordering_then}
use Rattle.std.specs.declared.cmp.Ordering.{Ordering}
use Rattle.std.specs.declared.cmp.Ordering.TheVariants.{Less, Equal, Greater}
use Rattle.std.specs.Prelude.{Bool, true, false, cond, ◌⊎◌}
use Rattle.std.proofs.lemmas.Cmp.{nat_list_cmp_total, on_total, then_total}
use Rattle.rd_plane.specs.Covering.{IsNoded, IsUncancelled}
use Rattle.rd_plane.specs.Order.{IsLeast, segment_cmp, segment_cmp-total, segment_equal, vertex_cmp, vertex_cmp-total, vertex_equal}
use Rattle.rd_plane.specs.Meeting.{IsEndOf}
use Rattle.rd_plane.specs.Plane.{Vertex, Segment, is_at, is_end, point_of}
use Rattle.rd_plane.proofs.FreePoint.{end_cases, point_from}
use Rattle.rd_plane.proofs.Polynomials.{one-mul}
use Rattle.rd_plane.proofs.Through.{is_at-same}
use Rattle.chain_cancel.specs.Nodes.{IsUnnoded, node_cmp}
use Rattle.level_rules.specs.declared.item.LevelItem.{LevelItem}
use Rattle.level_rules.specs.Levels.{BreaksIn, LevelsHold, pair_cmp}
use Rattle.local_check.specs.Maps.{HolderParts}
use Rattle.local_check.specs.MapRules.{LevelRule, NodeRule}
use Rattle.map_rules.proofs.OneArea.{list_equal, neither_less}
use Rattle.map_rules.proofs.OneRule.{HasOne}
use Rattle.map_rules.specs.declared.refusal.Refusal.{Refusal}
use Rattle.map_rules.specs.declared.refusal.Refusal.TheVariants as refusal
use Rattle.map_rules.specs.Rules.{TiledRule}
use Rattle.map_rules.specs.State.{edges_of}

-- ---- the least of an order
one_least : {A : Type 0} (order : A → A → Ordering) → IsTotalOrder order → ((x y : A) → order x y ≡ Equal → x ≡ y)
    → (P : A → Type 0) (x y : A)
    → IsLeast order P x → IsLeast order P y → x ≡ y
one_least order total equal P x y h k
    = equal x y (neither_less (order x y) (order y x) (total.antisymm x y) (k.least x h.has) (h.least y k.has))

both_equal : (o p : Ordering) → ordering_then o p ≡ Equal → (o ≡ Equal) × (p ≡ Equal)
both_equal Less p h = cc
both_equal Equal p h = (refl, h)
both_equal Greater p h = cc

abbrev Node : Type 0
Node = Vertex × Segment

abbrev node : Vertex → Segment → Node
node v e = (v, e)

node_total : IsTotalOrder node_cmp
node_total = then_total (on_total (λ (x : Node). x.0) vertex_cmp-total) (on_total (λ (x : Node). x.1) segment_cmp-total)

node_equal : (x y : Node) → node_cmp x y ≡ Equal → x ≡ y
node_equal x y h = let t = both_equal (vertex_cmp x.0 y.0) (segment_cmp x.1 y.1) h in ap (λ (v : Vertex). node v x.1)
    (vertex_equal x.0 y.0 t.0) ∙ ap
    (node y.0) (segment_equal x.1 y.1 t.1)

abbrev Pair : Type 0
Pair = List ℕ × List ℕ

abbrev pair : List ℕ → List ℕ → Pair
pair a b = (a, b)

pair_total : IsTotalOrder pair_cmp
pair_total = then_total (on_total (λ (x : Pair). x.0) nat_list_cmp_total) (on_total (λ (x : Pair). x.1) nat_list_cmp_total)

pair_equal : (x y : Pair) → pair_cmp x y ≡ Equal → x ≡ y
pair_equal x y h = let t = both_equal (slice_cmp nat_cmp x.0 y.0) (slice_cmp nat_cmp x.1 y.1) h in ap (λ (a : List ℕ). pair a x.1)
    (list_equal x.0 y.0 t.0) ∙ ap (pair y.0) (list_equal x.1 y.1 t.1)

-- ---- the rules of a map
levels_or : (objects : List LevelItem) (x : Pair) → LevelsHold objects → BreaksIn objects x → ⊥
levels_or [] x h b = absurd (omega (arith, b.inside))
levels_or (d ∷ objects) x h b = h b.one b.other d b.before b.inside (b.breaks d)

pub one_levels : {R : Type 0} (refused : List ℕ → List ℕ → R) (objects : List LevelItem) → HasOne (LevelRule refused objects)
one_levels {R} refused objects = record { same = told }
  where
    told : (a b : Option R) → LevelRule refused objects a → LevelRule refused objects b → a ≡ b
    told None None h k = refl
    told None (Some s) h k = absurd (levels_or objects k.0 h k.1.has)
    told (Some r) None h k = absurd (levels_or objects h.0 k h.1.has)
    told (Some r) (Some s) h k = ap Some (h.2 ∙ ap (λ (x : Pair). refused x.0 x.1)
        (one_least pair_cmp pair_total pair_equal (BreaksIn objects) h.0 k.0 h.1 k.1) ∙ sym k.2)

or_true : (b : Bool) → cond b true true ≡ true
or_true true = refl
or_true false = refl

end_is : (e : Segment) (v : Vertex) → IsEndOf e v → is_end (point_of v) e ≡ true
end_is e v h = elim h [
  | inl k ↦ rw (is_at-same (point_of v) e.a (ap (λ (w : Vertex). w.x) k ∙ sym (one-mul e.a.x))
      (ap (λ (w : Vertex). w.y) k ∙ sym (one-mul e.a.y))) refl
  | inr k ↦ rw (is_at-same (point_of v) e.b (ap (λ (w : Vertex). w.x) k ∙ sym (one-mul e.b.x))
      (ap (λ (w : Vertex). w.y) k ∙ sym (one-mul e.b.y)))
      (or_true (is_at (point_of v) e.a))
]

which_end : (v : Vertex) (e : Segment) → is_end (point_of v) e ≡ true → (v ≡ e.a) ⊎ (v ≡ e.b)
which_end v e h = elim (end_cases (point_of v) e h) [
  | inl k ↦ inl (point_from v e.a (k.0 ∙ one-mul e.a.x) (k.1 ∙ one-mul e.a.y))
  | inr k ↦ inr (point_from v e.b (k.0 ∙ one-mul e.b.x) (k.1 ∙ one-mul e.b.y))
]

noded_or : (edges : List Segment) (x : Node) → IsNoded edges → IsUnnoded edges x → ⊥
noded_or edges x h u = elim (which_end x.0 x.1 (h u.own x.1 (point_of x.0) u.of u.edge (end_is u.own x.0 u.end) u.inside.0)) [
  | inl q ↦ u.inside.1 q
  | inr q ↦ u.inside.2 q
]

pub one_node : {R : Type 0} (refused : Vertex → Segment → R) (edges : List Segment) → HasOne (NodeRule refused edges)
one_node {R} refused edges = record { same = told }
  where
    told : (a b : Option R) → NodeRule refused edges a → NodeRule refused edges b → a ≡ b
    told None None h k = refl
    told None (Some s) h k = absurd (noded_or edges k.0 h k.1.has)
    told (Some r) None h k = absurd (noded_or edges h.0 k h.1.has)
    told (Some r) (Some s) h k = ap Some (h.2 ∙ ap (λ (x : Node). refused x.0 x.1)
        (one_least node_cmp node_total node_equal (IsUnnoded edges) h.0 k.0 h.1 k.1) ∙ sym k.2)

-- a map is tiled, or refused with one least edge that is wrong
pub one_tiled : (m : HolderParts) → HasOne (TiledRule m)
one_tiled m = record { same = told }
  where
    told : (a b : Option Refusal) → TiledRule m a → TiledRule m b → a ≡ b
    told None None h k = refl
    told None (Some s) h k = absurd (k.0 h)
    told (Some r) None h k = absurd (h.0 k)
    told (Some r) (Some s) h k = ap Some (h.3 ∙ ap refusal.Tiled
        (one_least segment_cmp segment_cmp-total segment_equal (IsUncancelled (edges_of m)) h.1 k.1 h.2 k.2) ∙ sym k.3)
