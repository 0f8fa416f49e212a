use Rattle.std.proofs.Common.{rules, arith, ◌≡◌, length}
use Rattle.message_text.proofs.Fronts.{whole_4, finish_has}
use Rattle.message_text.proofs.line.read_end.Goals as goal

pub returns-in_default : goal.returns-in_default
returns-in_default c = λ ident was day h.
    let n = finish_has c.args.fields.now ident was day h in
    grind arith

pub returns-in_default-read_moment : goal.returns-in_default-read_moment
returns-in_default-read_moment c =
    let n : length c.args.fields.now ≡ 4 = omega arith in
    rw (whole_4 c.args.fields.now n) (λ ident was day h. c.in_default-read_moment.ensures.value was h.2)

pub returns-in_default-read_day : goal.returns-in_default-read_day
returns-in_default-read_day c =
    let n : length c.args.fields.now ≡ 4 = omega arith in
    rw (whole_4 c.args.fields.now n) (λ ident was day h. c.in_default-read_day.ensures.value day h.3)

pub returns : goal.returns
returns c = let n : length c.args.fields.now ≡ 4 = omega arith in rw (whole_4 c.args.fields.now n) (search rules)
