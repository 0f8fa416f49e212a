-- Which items have no fault.
use Rattle.std.proofs.Common.{◌≡◌, ◌≤ℤ◌, ◌&&◌, ◌==◌, ℕ, ℤ, pos, negsuc, int_le, Bool, true, false, List, Option, Some, None, MatchOption, IfSome, is_some, length, slice_get, refl, arith, get_or, ◌≤◌}
use Rattle.std.specs.List.{All, Contains, list_all}
use Rattle.std.specs.Option.{option_or}
use Rattle.std.specs.Char.{is_ascii_digit, IsAsciiDigit}
use Rattle.std.proofs.lemmas.Int.{ints}
use Rattle.std.proofs.lemmas.Bool.Decides.{nat_tests, Decides-eqb}
use Rattle.std.proofs.lemmas.List.Sums.{AllPass-from_list_all, list_all-from_AllPass}
use Rattle.std.proofs.lemmas.Option.{slice_get_within, get_or_from_slice_get}
use Rattle.code_tables.specs.declared.table.Table.{Table}
use Rattle.code_tables.specs.Codes.{place_of}
use Rattle.code_tables.specs.Catalogue.{values_of}
use Rattle.imgeo_types.specs.declared.kind.Kind.{Kind}
use Rattle.imgeo_types.specs.declared.kind.Kind.TheVariants.{Pand}
use Rattle.imgeo_types.specs.declared.kind.Attr.{Attr}
use Rattle.imgeo_types.specs.declared.kind.Attr.TheVariants.{Functie, Voorkomen, Soort}
use Rattle.imgeo_types.specs.declared.fault.ItemFault.{ItemFault}
use Rattle.imgeo_types.specs.declared.fault.ItemFault.TheVariants.{Level, Code, PandNumber}
use Rattle.imgeo_types.specs.declared.item.Item.{Item}
use Rattle.imgeo_types.specs.ItemRule.{IsRight, table_of, is_pand_number, unless, attr_fault, pand_fault, item_fault}

-- what the law of the tables says of every list of texts
abbrev pub Stands : Type 0
Stands = (texts : List (List ℕ)) (text : List ℕ)
    → MatchOption (place_of texts text) (¬ Contains texts text) (λ k. slice_get texts k ≡ Some text)

-- both tests hold where their conjunction does
each : (x y : Bool) → (x && y) ≡ true → (x ≡ true) × (y ≡ true)
each x y p = grind arith

-- and the other way round
both : (x y : Bool) → x ≡ true → y ≡ true → (x && y) ≡ true
both x y p q = grind arith

-- where there is no fault, the test holds
no_fault : (right : Bool) (fault : ItemFault) → unless right fault ≡ None → right ≡ true
no_fault true fault h = refl
no_fault false fault h = cc

-- and the other way round
passes : (right : Bool) (fault : ItemFault) → right ≡ true → unless right fault ≡ None
passes true fault h = refl
passes false fault h = cc

-- no first fault: neither is one
none_of_both : (a b : Option ItemFault) → option_or a b ≡ None → (a ≡ None) × (b ≡ None)
none_of_both None b h = (refl, h)
none_of_both (Some fault) b h = cc

-- and the other way round
neither : (a b : Option ItemFault) → a ≡ None → b ≡ None → option_or a b ≡ None
neither None b p q = q
neither (Some fault) b p q = cc

-- what the test of the lowest level says
above_lowest : (level : ℤ) → int_le (negsuc 98) level ≡ true → negsuc 98 ≤ℤ level
above_lowest (pos n) h = omega (arith, ints)
above_lowest (negsuc n) h = let within : n ≤ 98 = grind (arith, nat_tests) in omega (arith, ints)

-- what the test of the highest level says
below_highest : (level : ℤ) → int_le level (pos 99) ≡ true → level ≤ℤ pos 99
below_highest (pos n) h = let within : n ≤ 99 = grind (arith, nat_tests) in omega (arith, ints)
below_highest (negsuc n) h = omega (arith, ints)

-- a level that is not below the lowest passes
tested_lowest : (level : ℤ) → negsuc 98 ≤ℤ level → int_le (negsuc 98) level ≡ true
tested_lowest (pos n) h = refl
tested_lowest (negsuc n) h = let within : n ≤ 98 = omega (arith, ints) in grind (arith, nat_tests)

-- a level that is not above the highest passes
tested_highest : (level : ℤ) → level ≤ℤ pos 99 → int_le level (pos 99) ≡ true
tested_highest (pos n) h = let within : n ≤ 99 = omega (arith, ints) in grind (arith, nat_tests)
tested_highest (negsuc n) h = refl

-- a text that has a place is listed
listed_at : (texts : List (List ℕ)) (text : List ℕ) (place : Option ℕ)
    → MatchOption place (¬ Contains texts text) (λ k. slice_get texts k ≡ Some text) → is_some place ≡ true → Contains texts text
listed_at texts text None nowhere h = cc
listed_at texts text (Some k) at h = (k, slice_get_within texts k text at, get_or_from_slice_get texts k text text at)

-- a text that is listed has a place
place_from : (texts : List (List ℕ)) (text : List ℕ) (place : Option ℕ)
    → MatchOption place (¬ Contains texts text) (λ k. slice_get texts k ≡ Some text) → Contains texts text → is_some place ≡ true
place_from texts text None nowhere listed = absurd (nowhere listed)
place_from texts text (Some k) at listed = refl

-- what the test of a digit says
digit : (b : ℕ) → is_ascii_digit b ≡ true → IsAsciiDigit b
digit b h = grind (arith, nat_tests)

-- a digit passes
tested_digit : (b : ℕ) → IsAsciiDigit b → is_ascii_digit b ≡ true
tested_digit b h = grind (arith, nat_tests)

-- a value without a fault suits
suits : Stands → (attr : Attr) (table : Option Table) (value : Option (List ℕ)) → attr_fault attr table value ≡ None
    → MatchOption table (value ≡ None) (λ table. (code : List ℕ) × (value ≡ Some code) × Contains (values_of table) code)
suits stands attr None None h = refl
suits stands attr None (Some code) h = cc
suits stands attr (Some table) None h = cc
suits stands attr (Some table) (Some code) h = (
  code,
  refl,
  listed_at (values_of table) code (place_of (values_of table) code) (stands (values_of table) code)
      (no_fault (is_some (place_of (values_of table) code)) (Code attr) h),
)

-- a value that suits has no fault
suited : Stands → (attr : Attr) (table : Option Table) (value : Option (List ℕ))
    → MatchOption table (value ≡ None) (λ table. (code : List ℕ) × (value ≡ Some code) × Contains (values_of table) code)
    → attr_fault attr table value ≡ None
suited stands attr None None h = refl
suited stands attr None (Some code) h = cc
suited stands attr (Some table) value h =
    let known = place_from (values_of table) h.0 (place_of (values_of table) h.0) (stands (values_of table) h.0) h.2 in
    rw h.1 (passes (is_some (place_of (values_of table) h.0)) (Code attr) known)

-- what the test of the number of a building says
digits : (number : List ℕ) → is_pand_number number ≡ true → (length number ≡ 16) × All IsAsciiDigit number
digits number h =
    let parts = each (length number == 16) (list_all is_ascii_digit number) h in (
      (Decides-eqb (length number) 16).0 parts.0,
      λ k d within. digit (get_or number k d) (AllPass-from_list_all is_ascii_digit number parts.1 k d within),
    )

-- 16 digits pass
of_digits : (number : List ℕ) → length number ≡ 16 → All IsAsciiDigit number → is_pand_number number ≡ true
of_digits number len all =
    both (length number == 16) (list_all is_ascii_digit number) ((Decides-eqb (length number) 16).1 len)
    (list_all-from_AllPass is_ascii_digit number (λ k d within. tested_digit (get_or number k d) (all k d within)))

-- a number of a building is of a building, and of 16 digits
Numbers : Kind → Option (List ℕ) → Type 0
Numbers kind value = IfSome value (λ number. (kind ≡ Pand) × (length number ≡ 16) × All IsAsciiDigit number)

-- a number without a fault is right
numbers : (kind : Kind) (value : Option (List ℕ)) → pand_fault kind value ≡ None → Numbers kind value
unfolding Numbers
numbers kind None h = tt
numbers Pand (Some number) h = let found = digits number (no_fault (is_pand_number number) PandNumber h) in (refl, found.0, found.1)
numbers kind (Some number) h = absurd (cc)

-- a number that is right has no fault
numbered : (kind : Kind) (value : Option (List ℕ)) → Numbers kind value → pand_fault kind value ≡ None
unfolding Numbers
numbered kind None h = refl
numbered Pand (Some number) h = passes (is_pand_number number) PandNumber (of_digits number h.1 h.2)
numbered kind (Some number) h = absurd (cc)

-- an item that is right has no fault
pub right_has_none : Stands → (item : Item) → IsRight item → item_fault item ≡ None
unfolding Numbers
right_has_none stands item h =
    neither _ _ (passes _ Level (both _ _ (tested_lowest item.level h.above) (tested_highest item.level h.below)))
    (neither _ _ (suited stands Functie (table_of item.kind Functie) item.functie h.functie)
    (neither _ _ (suited stands Voorkomen (table_of item.kind Voorkomen) item.voorkomen h.voorkomen)
    (neither _ _ (suited stands Soort (table_of item.kind Soort) item.soort h.soort) (numbered item.kind item.pand h.pand))))

-- an item that has no fault is right
pub none_is_right : Stands → (item : Item) → item_fault item ≡ None → IsRight item
unfolding Numbers
none_is_right stands item h =
    let from_level = none_of_both _ _ h in
    let from_functie = none_of_both _ _ from_level.1 in
    let from_voorkomen = none_of_both _ _ from_functie.1 in
    let from_soort = none_of_both _ _ from_voorkomen.1 in
    let level = each (int_le (negsuc 98) item.level) (int_le item.level (pos 99)) (no_fault _ Level from_level.0) in
    record {
      above = above_lowest item.level level.0;
      below = below_highest item.level level.1;
      functie = suits stands Functie (table_of item.kind Functie) item.functie from_functie.0;
      voorkomen = suits stands Voorkomen (table_of item.kind Voorkomen) item.voorkomen from_voorkomen.0;
      soort = suits stands Soort (table_of item.kind Soort) item.soort from_soort.0;
      pand = numbers item.kind item.pand from_soort.1;
    }
