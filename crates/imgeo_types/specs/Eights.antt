-- Bytes in order, eight at a time.
use Rattle.std.specs.Prelude.{ℕ, List, take, drop}
use Rattle.std.specs.Ordering.{nat_cmp}
use Rattle.std.specs.declared.cmp.Ordering.{Ordering}
use Rattle.std.specs.Cmp.Lexicographic.{slice_cmp}

-- how the eight bytes from the place on compare
abbrev pub eight_cmp : ℕ → List ℕ → List ℕ → Ordering
eight_cmp i xs ys = slice_cmp nat_cmp (take 8 (drop i xs)) (take 8 (drop i ys))
