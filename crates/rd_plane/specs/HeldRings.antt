-- Rings that are held by one owner or by several.
use Rattle.std.specs.Prelude.{List}
use Rattle.rd_plane.specs.Plane.{Vertex}
use Rattle.rd_plane.specs.declared.shared_rings.Held.{Held}
use Rattle.rd_plane.specs.declared.shared_rings.Held.TheVariants.{Own, Shared}

-- the rings, whoever holds them
abbrev pub held_rings : Held → List (List Vertex)
held_rings (Own rings) = rings
held_rings (Shared rings) = rings.value
