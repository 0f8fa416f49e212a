use Rattle.std.proofs.Common.{◌∙◌, arith, ap, ap₂, nat_cmp}
use Rattle.std.specs.Ordering.{is_ne}
use Rattle.imgeo_types.proofs.ByWords.{by_words, unlike}
use Rattle.imgeo_types.proofs.ident.differ_at.Goals as goal

pub returns : goal.returns
returns c = unlike c.word_at.result c.word_at-2.result ∙ ap is_ne
    (ap₂ nat_cmp c.word_at.ensures c.word_at-2.ensures ∙ by_words c.args.i c.args.a.now c.args.b.now (omega arith) (omega arith)
    c.fits-a c.fits-b)
