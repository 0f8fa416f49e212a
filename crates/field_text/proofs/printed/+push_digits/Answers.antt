use Rattle.std.proofs.Common.{◌++◌, ◌/◌, ◌≡◌, ℕ, List, ◌∙◌, ap, sym, arith, length, length-append, append_assoc}
use Rattle.std.specs.Fmt.{decimal}
use Rattle.std.proofs.lemmas.Fmt.{decimal_digit, decimal_step}
use Rattle.field_text.proofs.Decimals.{length-decimal_step}
use Rattle.field_text.proofs.printed.+push_digits.Goals as goal

pub push_digits-requires : goal.push_digits-requires
push_digits-requires t c = (omega arith, omega (arith, length-decimal_step c.args.number c.if-number-lt10.false c.ranges.number.fits))

pub push-requires : goal.push-requires
push-requires t c = let one : length (decimal c.args.number) ≡ 1 = ap length (decimal_digit c.args.number c.if-number-lt10.true) in omega
    arith

pub push-requires-2 : goal.push-requires-2
push-requires-2 t c =
    rw c.push_digits.ensures
    (omega (
      arith,
      length-append c.args.field.now (decimal (c.args.number / 10)),
      length-decimal_step c.args.number c.if-number-lt10.false c.ranges.number.fits,
    ))

pub returns-then-number-lt10 : goal.returns-then-number-lt10
returns-then-number-lt10 t c
    = c.push.ensures.pushed ∙ ap (λ (text : List ℕ). c.args.field.now ++ text) (sym (decimal_digit c.args.number c.if-number-lt10.true))

pub returns : goal.returns
returns t c =
    c.push-2.ensures.pushed ∙ (rw (c.push_digits.ensures, append_assoc)
    (ap (λ (text : List ℕ). c.args.field.now ++ text) (sym (decimal_step c.args.number c.if-number-lt10.false c.ranges.number.fits))))
