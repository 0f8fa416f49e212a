-- The place of a text in a list of texts.
use Rattle.std.proofs.Common.{◌≡◌, ◌≢◌, ℕ, zero, suc, ◌<◌, Bool, true, false, List, [], ◌∷◌, Option, Some, None, MatchOption, slice_get, length, get_or, refl, ap, ◌∙◌, arith}
use Rattle.std.specs.Option.{option_map}
use Rattle.std.specs.List.{Contains}
use Rattle.std.specs.Str.{bytes_eq}
use Rattle.std.proofs.lemmas.Bool.Decides.{nat_tests}
use Rattle.std.proofs.lemmas.Slice.Eq.{bytes_eq-Decides}
use Rattle.code_tables.specs.Codes.{place_of}

-- a text that the list begins with has the place 0
begins : (code text : List ℕ) (codes : List (List ℕ)) → bytes_eq code text ≡ true → place_of (code ∷ codes) text ≡ Some 0
begins code text codes same = grind (arith, nat_tests)

-- any other has the place that it has behind the first, and one more
pub stands_behind : (code text : List ℕ) (codes : List (List ℕ)) → bytes_eq code text ≡ false
    → place_of (code ∷ codes) text ≡ option_map (λ k. suc k) (place_of codes text)
stands_behind code text codes other = grind (arith, nat_tests)

-- texts of which one is not the other
differs : (code text : List ℕ) → Some code ≢ Some text → bytes_eq code text ≡ false
differs code text other = grind (arith, bytes_eq-Decides)

-- a text at place 0 has that place
pub first_of_all : (code text : List ℕ) (codes : List (List ℕ)) → Some code ≡ Some text → place_of (code ∷ codes) text ≡ Some 0
first_of_all code text codes same = begins code text codes ((bytes_eq-Decides code text).1 (cc))

-- the first place at which a text stands is its place
pub first_place : (codes : List (List ℕ)) (text : List ℕ) (k : ℕ) → slice_get codes k ≡ Some text
    → ((j : ℕ) → j < k → slice_get codes j ≢ Some text) → place_of codes text ≡ Some k
first_place [] text k at before = cc
first_place (code ∷ codes) text zero at before = first_of_all code text codes at
first_place (code ∷ codes) text (suc k) at before =
    stands_behind code text codes (differs code text (before 0 (omega arith)))
    ∙ ap (option_map (λ k. suc k)) (first_place codes text k at (λ j within. before (suc j) (omega arith)))

-- a text that stands nowhere has no place
pub no_place : (codes : List (List ℕ)) (text : List ℕ) → ((j : ℕ) → slice_get codes j ≢ Some text) → place_of codes text ≡ None
no_place [] text nowhere = refl
no_place (code ∷ codes) text nowhere =
    stands_behind code text codes (differs code text (nowhere 0))
    ∙ ap (option_map (λ k. suc k)) (no_place codes text (λ j. nowhere (suc j)))

-- a place is none exactly where the text is not listed, and else the text stands there
Stands : List (List ℕ) → List ℕ → Option ℕ → Type 0
Stands codes text place = MatchOption place (¬ Contains codes text) (λ k. slice_get codes k ≡ Some text)

-- a text that is neither the first nor listed behind it is not listed
behind_only : (code text : List ℕ) (codes : List (List ℕ)) → bytes_eq code text ≡ false → ¬ Contains codes text → (k : ℕ)
    → k < length (code ∷ codes) → get_or (code ∷ codes) k text ≡ text → ⊥
behind_only code text codes other nowhere zero within at = let same = (bytes_eq-Decides code text).1 at in cc
behind_only code text codes other nowhere (suc k) within at = nowhere (k, omega arith, at)

-- the place behind a first text that is another
behind : (code text : List ℕ) (codes : List (List ℕ)) (place : Option ℕ) → Stands codes text place → bytes_eq code text ≡ false
    → Stands (code ∷ codes) text (option_map (λ k. suc k) place)
unfolding Stands
behind code text codes None nowhere other = λ listed. behind_only code text codes other nowhere listed.0 listed.1 listed.2
behind code text codes (Some k) at other = at

-- the place from the first text on, whichever it is
from_first : (code text : List ℕ) (codes : List (List ℕ)) (same : Bool) → bytes_eq code text ≡ same
    → Stands codes text (place_of codes text) → Stands (code ∷ codes) text (place_of (code ∷ codes) text)
unfolding Stands
from_first code text codes true same rest = rw (begins code text codes same) (ap Some ((bytes_eq-Decides code text).0 same))
from_first code text codes false other rest
    = rw (stands_behind code text codes other) (behind code text codes (place_of codes text) rest other)

-- a text has a place exactly where it is listed, and stands there
pub stands : (codes : List (List ℕ)) (text : List ℕ)
    → MatchOption (place_of codes text) (¬ Contains codes text) (λ k. slice_get codes k ≡ Some text)
unfolding Stands
stands [] text = λ listed. omega (arith, listed.1)
stands (code ∷ codes) text = from_first code text codes (bytes_eq code text) refl (stands codes text)
