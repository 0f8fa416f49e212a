use Rattle.std.proofs.Common.{◌≡◌, sym, subst}
use Rattle.rd_plane.specs.Shapes.{shape_edges}
use Rattle.slab_wind.specs.Sharing.{AreOfShape}
use Rattle.part_shape.proofs.Sharing.{of_shape}
use Rattle.part_shape.proofs.shape.Shape.edges.Goals as goal

pub returns-clause-sound : goal.returns-clause-sound
returns-clause-sound c = let e : c.push_shape.new.edges ≡ shape_edges c.self.inside.rings = cc
    (c.in_ok-push_shape.ensures.ok, c.new-edges.ensures) in subst AreOfShape (sym e) (of_shape c.self.inside.rings c.self.invariant)
