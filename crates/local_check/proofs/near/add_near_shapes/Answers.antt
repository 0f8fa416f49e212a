use Rattle.std.proofs.Common.{List, arith, sym}
use Rattle.rd_plane.specs.Plane.{Vertex}
use Rattle.local_check.proofs.Keeping.{near_all, near_more}
use Rattle.local_check.proofs.near.add_near_shapes.Goals as goal

pub loop-shape-init : goal.loop-shape-init
loop-shape-init c = λ k d l. absurd (omega (arith, l))

pub loop-shape-preserved : goal.loop-shape-preserved
loop-shape-preserved c = λ k d l. near_more {X = List (List Vertex)} (λ r. r) (λ r. Unit {0}) c.args.boxes.now c.loop-shape.near.keys
    c.add_near.new.near.keys c.args.shapes.now c.loop-shape.shape-index c.shape-item.result c.loop-shape-test.true (sym c.shape-item.is)
    (λ s. c.in_ok-add_near.ensures.here) c.in_ok-add_near.ensures.kept (λ j e m s. c.loop-shape.invariant j e m) k d l tt

pub returns : goal.returns
returns c = λ r d. near_all {X = List (List Vertex)} (λ x. x) (λ x. Unit {0}) c.args.boxes.now c.loop-shape.near.keys c.args.shapes.now
    c.loop-shape.shape-index (omega (arith, c.loop-shape-test.false)) (λ j e m s. c.loop-shape.invariant j e m) r d tt
