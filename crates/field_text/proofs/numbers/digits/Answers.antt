use Rattle.std.proofs.Common.{rules, arith, ◌≡◌, ◌^◌, ◌*◌, ◌+◌, ◌<◌, ◌-◌, get_or, length, add-one}
use Rattle.std.specs.Char.{IsAsciiDigit}
use Rattle.std.proofs.lemmas.List.Elements.{All-more}
use Rattle.std.proofs.lemmas.List.Sums.{fold_more}
use Rattle.std.proofs.Math.Nat.{pow-succ'}
use Rattle.field_text.proofs.FewDigits.{small}
use Rattle.field_text.proofs.numbers.digits.Goals as goal

pub loop-b-preserved : goal.loop-b-preserved
loop-b-preserved c =
    let i = c.loop-b.b-index in
    let lt : i < length c.args.field.now = omega arith in
    let digit : IsAsciiDigit (get_or c.args.field.now i 0) = search rules in
    let power : 10 ^ (i + 1) ≡ 10 * 10 ^ i = rw add-one (pow-succ' 10 i) in
    let e = fold_more (λ n d. 10 * n + (d - 48)) 0 c.args.field.now i 0 lt in
    record {
      bound = omega (arith, power, digit);
      digits = All-more IsAsciiDigit c.args.field.now i 0 lt c.loop-b.invariant.digits digit;
      value = omega (arith, e);
    }

pub overflow_mul-value : goal.overflow_mul-value
overflow_mul-value c = omega (arith, small c.loop-b.b-index c.loop-b.value c.loop-b.invariant.bound (omega arith))

pub overflow_add-value : goal.overflow_add-value
overflow_add-value c =
    let digit : IsAsciiDigit (get_or c.args.field.now c.loop-b.b-index 0) = search rules in
    omega (arith, digit, small c.loop-b.b-index c.loop-b.value c.loop-b.invariant.bound (omega arith))
