use Rattle.rd_plane.proofs.RingPlaces.{edge_inner, edge_last}
use Rattle.rd_plane.proofs.rings.edge_at.Goals as goal
use Rattle.rd_plane.proofs.rings.edge_at.Goals.{then-i-points, else-i-points}

pub returns : goal.returns
returns c = elim c.if-i-points.branch [
  | then-i-points w ↦ edge_inner c.args.points.now c.args.i c.if-i-points.next c.edge_between.result c.index-points-i.result
      c.index-points-next.result w.if-i-points.true w.next-is c.edge_between.ensures.first c.edge_between.ensures.second
      c.index-points-i.is c.index-points-next.is
  | else-i-points w ↦ edge_last c.args.points.now c.args.i c.if-i-points.next c.edge_between.result c.index-points-i.result
      c.index-points-next.result c.requires.inside w.if-i-points.false w.next-is c.edge_between.ensures.first
      c.edge_between.ensures.second c.index-points-i.is c.index-points-next.is
]
