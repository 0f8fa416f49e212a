-- The definitions at worked values.
use Rattle.std.proofs.Common.{◌≡◌, true, false, [], ◌∷◌, Some, None, codes, refl}
use Rattle.code_tables.specs.declared.table.Table.TheVariants.{WegdeelFunctie, ScheidingSoort, OnbegroeidVoorkomen}
use Rattle.code_tables.specs.Codes.{rises, place_of}
use Rattle.code_tables.specs.Catalogue.{values_of}

-- a capital stands before a small letter, a dash before both, and a text before what it begins
rising : rises (codes "a-b" ∷ codes "aB" ∷ codes "a_" ∷ codes "ab" ∷ codes "abc" ∷ []) ≡ true
rising = refl

twice : rises (codes "hek" ∷ codes "hek" ∷ []) ≡ false
twice = refl

falling : rises (codes "muur" ∷ codes "hek" ∷ []) ≡ false
falling = refl

nothing : rises [] ≡ true
nothing = refl

first : place_of (values_of WegdeelFunctie) (codes "OV-baan") ≡ Some 0
first = refl

last : place_of (values_of WegdeelFunctie) (codes "woonerf") ≡ Some 16
last = refl

fence : place_of (values_of ScheidingSoort) (codes "hek") ≡ Some 2
fence = refl

in_capitals : place_of (values_of OnbegroeidVoorkomen) (codes "Erf") ≡ None
in_capitals = refl

no_text : place_of (values_of OnbegroeidVoorkomen) [] ≡ None
no_text = refl
