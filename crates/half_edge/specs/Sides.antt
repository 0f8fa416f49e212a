-- The sides of borders: directed edges, each with the owner of what lies at its left.
use Rattle.std.specs.Prelude.{ℕ, List, [], ◌∷◌, length, map, flat_map, Option, Some, None}
use Rattle.rd_plane.specs.Plane.{Segment}
use Rattle.rd_plane.specs.Shapes.{ring_edges}
use Rattle.half_edge.specs.declared.border.Owner.{Owner}
use Rattle.half_edge.specs.declared.border.Border.{Border}
use Rattle.half_edge.specs.declared.border.HalfEdge.{HalfEdge}

-- a directed edge, and whose ground lies at its left
pub record Side : Type 0 where
  pub edge : Segment
  pub owner : Owner

-- the edge as a side of that owner
abbrev pub owned : Owner → Segment → Side
owned o e = record { edge = e; owner = o }

-- the sides of the border, in the order of its ring
abbrev pub border_sides : Border → List Side
border_sides b = map (owned b.owner) (ring_edges b.ring)

-- the sides of all the borders
abbrev pub sides : List Border → List Side
sides bs = flat_map border_sides bs

-- how many edges the borders have together
abbrev pub edge_count : List Border → ℕ
edge_count bs = length (sides bs)

-- the edges of the sides
abbrev pub edges_of : List Side → List Segment
edges_of ss = map (λ s. s.edge) ss

-- the side that a half-edge is
abbrev pub side_of : HalfEdge → Side
side_of h = owned h.owner h.edge

-- the half-edges in the slots that are live
abbrev pub live : List (Option HalfEdge) → List HalfEdge
live [] = []
live (None ∷ xs) = live xs
live (Some h ∷ xs) = h ∷ live xs

-- the sides that stand in the slots
abbrev pub standing : List (Option HalfEdge) → List Side
standing slots = map side_of (live slots)
