-- What is found of a map by edges that cancel is what the register's rules say of it.
use Rattle.std.proofs.Common.{List, Option, Some, None, sym, refl, inl, inr, subst, arith}
use Rattle.std.specs.Prelude.{IfSome}
use Rattle.std.specs.List.{All}
use Rattle.rd_plane.specs.Covering.{Cancels, IsNoded, IsSoundArea, IsTiled, IsUncancelled, border}
use Rattle.rd_plane.specs.Plane.{Vertex, Segment}
use Rattle.rd_plane.specs.Shapes.{IsSoundShape}
use Rattle.local_check.specs.declared.fault.MapFault.{MapFault}
use Rattle.local_check.specs.declared.fault.MapFault.TheVariants as fault
use Rattle.local_check.specs.Maps.{HolderParts, ground_of}
use Rattle.local_check.specs.MapRules.{CancelRule, LevelRule, MapRule, NodeRule}
use Rattle.map_rules.specs.declared.refusal.Refusal.{Refusal}
use Rattle.map_rules.specs.declared.refusal.Refusal.TheVariants as refusal
use Rattle.map_rules.specs.Rules.{MapRules, TiledRule, refusal_by}
use Rattle.map_rules.specs.State.{edges_of}

abbrev Shapes : Type 0
Shapes = List (List (List Vertex))

cancels_or : (edges : List Segment) (e : Segment) → Cancels edges → IsUncancelled edges e → ⊥
cancels_or edges e cancels u = let both = cancels e u.occurs in elim u.wrong
    [ inl two ↦ omega (arith, two, both.0) | inr none ↦ omega (arith, none, both.1) ]

-- nothing was found
pub taken : ((area parts : Shapes) → IsSoundArea area → All IsSoundShape parts → Cancels (border area parts) → IsTiled area parts)
    → (m : HolderParts) → IsSoundArea m.area → All IsSoundShape (ground_of m.parts) → MapRule m None → MapRules m None
taken tiles m area parts h = (h.0, (h.1.0, tiles m.area (ground_of m.parts) area parts h.1.1))

module _ (m : HolderParts) where
  of_levels : (f : MapFault) → LevelRule fault.LevelOverlap m.parts (Some f)
      → IfSome (refusal_by f) (λ r. LevelRule refusal.Levels m.parts (Some r))
  of_levels f h
      = subst (λ (x : MapFault). IfSome (refusal_by x) (λ r. LevelRule refusal.Levels m.parts (Some r))) (sym h.2) (h.0, h.1, refl)

  of_node : (f : MapFault) → NodeRule fault.Node (edges_of m) (Some f)
      → IfSome (refusal_by f) (λ r. NodeRule refusal.Node (edges_of m) (Some r))
  of_node f h
      = subst (λ (x : MapFault). IfSome (refusal_by x) (λ r. NodeRule refusal.Node (edges_of m) (Some r))) (sym h.2) (h.0, h.1, refl)

  of_tiled : (f : MapFault) → (IsTiled m.area (ground_of m.parts) → Cancels (edges_of m)) → CancelRule fault.Tiled (edges_of m) (Some f)
      → IfSome (refusal_by f) (λ r. TiledRule m (Some r))
  of_tiled f cancels h = subst (λ (x : MapFault). IfSome (refusal_by x) (λ r. TiledRule m (Some r))) (sym h.2)
      ((λ tiled. cancels_or (edges_of m) h.0 (cancels tiled) h.1.has), h.0, h.1, refl)

  -- a refusal of one of the rules is one of the row
  by_levels : (o : Option Refusal) → IfSome o (λ r. LevelRule refusal.Levels m.parts (Some r)) → IfSome o (λ r. MapRules m (Some r))
  by_levels None h = tt
  by_levels (Some r) h = inl h

  by_node : (o : Option Refusal) → LevelRule refusal.Levels m.parts None → IfSome o (λ r. NodeRule refusal.Node (edges_of m) (Some r))
      → IfSome o (λ r. MapRules m (Some r))
  by_node None levels h = tt
  by_node (Some r) levels h = inr (levels, inl h)

  by_tiled : (o : Option Refusal) → LevelRule refusal.Levels m.parts None → IsNoded (edges_of m) → IfSome o (λ r. TiledRule m (Some r))
      → IfSome o (λ r. MapRules m (Some r))
  by_tiled None levels noded h = tt
  by_tiled (Some r) levels noded h = inr (levels, inr (noded, h))

-- this fault was found
pub refused : ((area parts : Shapes) → IsSoundArea area → All IsSoundShape parts → IsNoded (border area parts) → IsTiled area parts
    → Cancels (border area parts))
    → (m : HolderParts) (f : MapFault) → IsSoundArea m.area → All IsSoundShape (ground_of m.parts) → MapRule m (Some f)
    → IfSome (refusal_by f) (λ r. MapRules m (Some r))
refused cancels m f area parts (inl h) = by_levels m (refusal_by f) (of_levels m f h)
refused cancels m f area parts (inr (levels, inl h)) = by_node m (refusal_by f) levels (of_node m f h)
refused cancels m f area parts (inr (levels, inr (noded, h))) = by_tiled m (refusal_by f) levels noded
    (of_tiled m f (cancels m.area (ground_of m.parts) area parts noded) h)
