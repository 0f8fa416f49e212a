use Rattle.ring_simple.proofs.Turning.{west_of, east_of, south_of, north_of, below_x, above_x, below_y, above_y}
use Rattle.ring_simple.proofs.pairs.lies_beyond.Goals as goal

pub returns-then-are_below : goal.returns-then-are_below
returns-then-are_below c = λ _. west_of c.args.bounds.now (record { a = c.args.a; b = c.args.b })
    (rw (← c.a.view_is, ← c.b.view_is, ← c.bounds.view_is, ← c.bounds-inside.view_is)
    (below_x _ _ _ c.a.invariant c.b.invariant c.bounds-inside.invariant.0 (c.are_below.ensures c.if-are_below.true)))

pub returns-then-are_above : goal.returns-then-are_above
returns-then-are_above c = λ _. east_of c.args.bounds.now (record { a = c.args.a; b = c.args.b })
    (rw (← c.a.view_is, ← c.b.view_is, ← c.bounds.view_is, ← c.bounds-inside.view_is)
    (above_x _ _ _ c.a.invariant c.b.invariant c.bounds-inside.invariant.1 (c.are_above.ensures c.if-are_above.true)))

pub returns-then-are_below-2 : goal.returns-then-are_below-2
returns-then-are_below-2 c = λ _. south_of c.args.bounds.now (record { a = c.args.a; b = c.args.b })
    (rw (← c.a.view_is, ← c.b.view_is, ← c.bounds.view_is, ← c.bounds-inside.view_is)
    (below_y _ _ _ c.a.invariant c.b.invariant c.bounds-inside.invariant.0 (c.are_below-2.ensures c.if-are_below-2.true)))

pub returns : goal.returns
returns c = λ t. north_of c.args.bounds.now (record { a = c.args.a; b = c.args.b })
    (rw (← c.a.view_is, ← c.b.view_is, ← c.bounds.view_is, ← c.bounds-inside.view_is)
    (above_y _ _ _ c.a.invariant c.b.invariant c.bounds-inside.invariant.1 (c.are_above-2.ensures t)))
