use Rattle.std.proofs.Common.{◌≡◌, ◌<◌, ◌∙◌, List, ℕ, length, get_or, sym, subst, arith}
use Rattle.std.proofs.lemmas.Grind.{common_steps}
use Rattle.bgt_cli.proofs.Trials.{read, size_first, size_read, size_some}
use Rattle.bgt_cli.proofs.trial.read_size.Goals as goal

pub returns-then-is_empty : goal.returns-then-is_empty
returns-then-is_empty c = λ n size.
    let some = subst (λ (w : List ℕ). 0 < length w) (sym c.as_bytes-bytes.ensures.value) (size_some c.args.word.now n size) in
    grind (arith, common_steps, some)

pub returns-then-bytes-le48 : goal.returns-then-bytes-le48
returns-then-bytes-le48 c = λ n size.
    let first = subst (λ (w : List ℕ). 48 < get_or w 0 0) (sym c.as_bytes-bytes.ensures.value) (size_first c.args.word.now n size) in
    absurd (omega (arith, first))

pub returns-in_default : goal.returns-in_default
returns-in_default c = λ n size. c.in_default.not-Ok n (size_read c.args.word.now c.parse.result n c.parse.ensures.value.0 size)

pub returns-then-size-lt2 : goal.returns-then-size-lt2
returns-then-size-lt2 c = λ n size.
    let e = sym c.in-Ok.is ∙ size_read c.args.word.now c.parse.result n c.parse.ensures.value.0 size in
    let same : c.in-Ok.size ≡ n = cc in
    absurd (omega (arith, same, size.0.0))

pub returns-then-size-gt400 : goal.returns-then-size-gt400
returns-then-size-gt400 c = λ n size.
    let e = sym c.in-Ok.is ∙ size_read c.args.word.now c.parse.result n c.parse.ensures.value.0 size in
    let same : c.in-Ok.size ≡ n = cc in
    absurd (omega (arith, same, size.0.1))

pub returns : goal.returns
returns c =
    let first = subst (λ (w : List ℕ). 48 < get_or w 0 0) c.as_bytes-bytes.ensures.value c.if-bytes-le48.false in (
      (omega arith, omega arith),
      read c.args.word.now c.parse.result c.in-Ok.size c.parse.ensures.value.0 first c.in-Ok.is,
    )
