use Rattle.std.proofs.Common.{take}
use Rattle.std.specs.Prelude.{IsSome}
use Rattle.std.specs.List.{All}
use Rattle.local_check.specs.Numbered.{IsGrown, IsNumbering, KeepsPlaces, number_at}
use Rattle.local_check.proofs.places.give_all.Given as goal

abbrev pub invariant-loop-part : goal.invariant-loop-part
invariant-loop-part l = record {
  numbering : IsNumbering l.numbers;
  grown : IsGrown l.initial.numbers l.numbers;
  places : KeepsPlaces l.initial.numbers l.numbers;
  known : All (λ p. IsSome (number_at l.numbers p.ident)) (take l.part-index l.parts);
}
