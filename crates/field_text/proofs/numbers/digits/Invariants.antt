use Rattle.std.proofs.Common.{◌≡◌, ◌^◌, ◌<◌, take}
use Rattle.std.specs.List.{All}
use Rattle.std.specs.Char.{IsAsciiDigit}
use Rattle.field_text.specs.Forms.{number}
use Rattle.field_text.proofs.numbers.digits.Given as goal

abbrev pub invariant-loop-b : goal.invariant-loop-b
invariant-loop-b l = record {
  bound : l.value < 10 ^ l.b-index;
  digits : All IsAsciiDigit (take l.b-index l.field);
  value : l.value ≡ number (take l.b-index l.field);
}
