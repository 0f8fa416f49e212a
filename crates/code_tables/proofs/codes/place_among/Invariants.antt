use Rattle.std.proofs.Common.{◌≢◌, ℕ, ◌<◌, Some, map, slice_get}
use Rattle.code_tables.proofs.codes.place_among.Given as goal

abbrev pub invariant-loop-place : goal.invariant-loop-place
invariant-loop-place g l = (k : ℕ) → k < l.place → slice_get (map g.T.HasText.bytes l.texts) k ≢ Some l.text
