use Rattle.std.proofs.Common.{◌≡◌, ◌∙◌, ◌*◌, ◌+◌, subst, arith}
use Rattle.imgeo_types.proofs.ByWords.{AreAlike, more_alike, decides, last_eight}
use Rattle.imgeo_types.proofs.ident.order.Goals as goal

pub returns-then-differ_at : goal.returns-then-differ_at
returns-then-differ_at c =
    c.order_at.ensures ∙ decides (8 * c.loop-k.k) c.args.a.now c.args.b.now _ c.loop-k.invariant c.differ_at.ensures c.if-differ_at.true

pub loop-k-preserved : goal.loop-k-preserved
loop-k-preserved c =
    let next : 8 * c.loop-k.k + 8 ≡ 8 * (c.loop-k.k + 1) = omega arith in
    subst (λ i. AreAlike i c.args.a.now c.args.b.now) next
    (more_alike (8 * c.loop-k.k) c.args.a.now c.args.b.now _ c.loop-k.invariant c.differ_at.ensures c.if-differ_at.false)

pub returns : goal.returns
returns c = c.order_at-2.ensures ∙ last_eight (8 * c.loop-k.k) 30 c.args.a.now c.args.b.now (omega arith) c.loop-k.invariant c.told-a c.told-b
