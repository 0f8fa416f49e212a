use Rattle.std.proofs.Common.{rules, ◌≡◌, unsigned_abs}
use Rattle.std.proofs.lemmas.Int.{to_z-of_z}
use Rattle.field_text.proofs.Metres.{mm_pushed}
use Rattle.field_text.proofs.coordinate.print_mm.Goals as goal

pub returns : goal.returns
returns c =
    let size : c.unsigned_abs-size.result ≡ unsigned_abs c.args.mm = search rules in
    let signed = simp (to_z-of_z, c.ranges.mm) at c.push_sign.ensures.pushed in
    mm_pushed c.args.mm _ _ _ _ _ _ size c.unsigned_abs-size.ensures.bound c.new-field.ensures signed
    c.push_decimal.ensures.pushed c.push.ensures.pushed c.push_three.ensures
