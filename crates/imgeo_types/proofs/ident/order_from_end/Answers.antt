use Rattle.std.proofs.Common.{◌∙◌, sym, ap, nat_cmp}
use Rattle.std.specs.Cmp.Lexicographic.{slice_cmp}
use Rattle.std.specs.Ordering.{ordering_then}
use Rattle.imgeo_types.specs.Eights.{eight_cmp}
use Rattle.imgeo_types.specs.Keys.{key_cmp}
use Rattle.imgeo_types.proofs.ByWords.{first_decides, level}
use Rattle.imgeo_types.proofs.ident.order_from_end.Goals as goal

pub returns-then-differ_at : goal.returns-then-differ_at
unfolding key_cmp
returns-then-differ_at c =
    let all = slice_cmp nat_cmp c.args.a.now c.args.b.now in
    c.order_at.ensures ∙ first_decides (eight_cmp 30 c.args.a.now c.args.b.now) all (sym c.differ_at.ensures ∙ c.if-differ_at.true)

pub returns : goal.returns
unfolding key_cmp
returns c =
    let all = slice_cmp nat_cmp c.args.a.now c.args.b.now in
    let alike = level (eight_cmp 30 c.args.a.now c.args.b.now) (sym c.differ_at.ensures ∙ c.if-differ_at.false) in
    c.order.ensures ∙ sym (ap (λ a. ordering_then a all) alike)
