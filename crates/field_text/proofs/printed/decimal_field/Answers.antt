use Rattle.std.proofs.Common.{arith}
use Rattle.field_text.proofs.Decimals.{length-decimal_long}
use Rattle.field_text.proofs.printed.decimal_field.Goals as goal

pub push_digits-requires : goal.push_digits-requires
push_digits-requires c = rw c.new-field.ensures (omega (arith, length-decimal_long c.args.number c.ranges.number.fits))

pub returns-clause-len : goal.returns-clause-len
returns-clause-len c = rw (c.push_digits.ensures, c.new-field.ensures) (length-decimal_long c.args.number c.ranges.number.fits)
