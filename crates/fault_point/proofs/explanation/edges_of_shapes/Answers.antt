use Rattle.std.proofs.Common.{◌++◌, sym, ap, ◌∙◌}
use Rattle.rd_plane.specs.Shapes.{shape_edges}
use Rattle.part_shape.proofs.Parity.{flat_so}
use Rattle.fault_point.proofs.Lists.{sound_more}
use Rattle.fault_point.proofs.explanation.edges_of_shapes.Goals as goal

pub loop-shape-preserved : goal.loop-shape-preserved
loop-shape-preserved c = (
  c.in_ok-push_shape.ensures.ok ∙ ap (λ x. c.loop-shape.edges ++ shape_edges x)
      c.rings.ensures.value ∙ ap (λ l. l ++ shape_edges c.shape-item.result) c.loop-shape.invariant.0
      ∙ sym (flat_so shape_edges c.as_slice-shape-items.result.now c.loop-shape.shape-index c.shape-item.result c.loop-shape-test.true
      c.shape-item.is),
  sound_more c.as_slice-shape-items.result.now c.loop-shape.shape-index c.shape-item.result c.loop-shape-test.true (sym c.shape-item.is)
      c.rings.ensures.sound c.loop-shape.invariant.1,
)
