use Rattle.std.proofs.Common.{◌≡◌, ℕ, List, ◌-◌, ◌<◌, true, Some, map, slice_get}
use Rattle.code_tables.specs.Codes.{is_before}
use Rattle.code_tables.proofs.codes.are_rising.Given as goal

abbrev pub invariant-loop-place : goal.invariant-loop-place
invariant-loop-place g l =
    (j : ℕ) → j < l.place → 0 < j → (text next : List ℕ) → slice_get (map g.T.HasText.bytes l.texts) (j - 1) ≡ Some text
    → slice_get (map g.T.HasText.bytes l.texts) j ≡ Some next → is_before text next ≡ true
