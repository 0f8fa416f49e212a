use Rattle.std.proofs.Common.{◌∙◌, arith, ap₂, nat_cmp}
use Rattle.imgeo_types.proofs.ByWords.{by_words}
use Rattle.imgeo_types.proofs.ident.order_at.Goals as goal

pub returns : goal.returns
returns c = c.cmp.ensures ∙ ap₂ nat_cmp c.word_at.ensures c.word_at-2.ensures ∙ by_words c.args.i c.args.a.now c.args.b.now
    (omega arith) (omega arith) c.fits-a c.fits-b
