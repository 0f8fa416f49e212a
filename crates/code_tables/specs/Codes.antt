-- Tables of texts that rise by bytes, and the place of a text in one.
use Rattle.std.specs.Prelude.{◌&&◌, ℕ, Bool, true, List, [], ◌∷◌, Option, position}
use Rattle.std.specs.Ordering.{nat_cmp, is_lt}
use Rattle.std.specs.Cmp.Lexicographic.{slice_cmp}
use Rattle.std.specs.Str.{bytes_eq}

-- the first byte that differs decides, and a text stands before what it begins
abbrev pub is_before : List ℕ → List ℕ → Bool
is_before text next = is_lt (slice_cmp nat_cmp text next)

-- the text stands before the first of these, if there is one
abbrev pub leads : List ℕ → List (List ℕ) → Bool
leads text [] = true
leads text (next ∷ texts) = is_before text next

-- each text stands before the next
abbrev pub rises : List (List ℕ) → Bool
rises [] = true
rises (text ∷ texts) = leads text texts && rises texts

-- the place of a text among those listed, from 0; none where it is not listed
abbrev pub place_of : List (List ℕ) → List ℕ → Option ℕ
place_of listed text = position (λ code. bytes_eq code text) listed
