-- Which items are right, at worked values.
use Rattle.std.proofs.Common.{◌≡◌, ℕ, ℤ, pos, negsuc, List, [], Option, Some, None, codes, refl}
use Rattle.imgeo_types.specs.declared.kind.Kind.{Kind}
use Rattle.imgeo_types.specs.declared.kind.Kind.TheVariants.{OnbegroeidTerreindeel, Wegdeel, Waterdeel, Pand, Tunneldeel}
use Rattle.imgeo_types.specs.declared.kind.Attr.TheVariants.{Functie, Voorkomen, Soort}
use Rattle.imgeo_types.specs.declared.fault.ItemFault.TheVariants.{Level, Code, Missing, PandNumber}
use Rattle.imgeo_types.specs.declared.item.Item.{Item}
use Rattle.imgeo_types.specs.ItemRule.{item_fault}

-- an item without rings, of 1970
abbrev item : Kind → ℤ → Option (List ℕ) → Option (List ℕ) → Option (List ℕ) → Option (List ℕ) → Item
item kind level functie voorkomen soort pand =
    record { kind = kind; level = level; begin = pos 0; functie = functie; voorkomen = voorkomen; soort = soort; pand = pand; rings = [] }

abbrev ground : ℤ → Option (List ℕ) → Item
ground level voorkomen = item OnbegroeidTerreindeel level None voorkomen None None

abbrev building : Option (List ℕ) → Item
building number = item Pand (pos 0) None None None number

yard : item_fault (ground (pos 0) (Some (codes "erf"))) ≡ None
yard = refl

no_such_code : item_fault (ground (pos 0) (Some (codes "gras"))) ≡ Some (Code Voorkomen)
no_such_code = refl

no_code : item_fault (ground (pos 0) None) ≡ Some (Missing Voorkomen)
no_code = refl

-- the level is tried first
too_high : item_fault (ground (pos 100) (Some (codes "gras"))) ≡ Some Level
too_high = refl

highest : item_fault (ground (pos 99) (Some (codes "erf"))) ≡ None
highest = refl

lowest : item_fault (ground (negsuc 98) (Some (codes "erf"))) ≡ None
lowest = refl

too_low : item_fault (ground (negsuc 99) (Some (codes "erf"))) ≡ Some Level
too_low = refl

footpath : item_fault (item Wegdeel (pos 0) (Some (codes "voetpad")) (Some (codes "open_verharding")) None None) ≡ None
footpath = refl

-- the functie is tried before the fysiekVoorkomen, whatever is wrong with them
two_faults : item_fault (item Wegdeel (pos 0) (Some (codes "berm")) None None None) ≡ Some (Code Functie)
two_faults = refl

other_two_faults : item_fault (item Wegdeel (pos 0) None (Some (codes "erf")) None None) ≡ Some (Missing Functie)
other_two_faults = refl

-- a number is for a building alone, and a kind has no other attributes than those of its tables
number_of_a_water : item_fault (item Waterdeel (pos 0) None None (Some (codes "zee")) (Some (codes "0000100000000001"))) ≡ Some PandNumber
number_of_a_water = refl

type_of_building : item_fault (item Pand (pos 0) None None (Some (codes "transitie")) None) ≡ Some (Code Soort)
type_of_building = refl

tunnel : item_fault (item Tunneldeel (negsuc 0) None None None None) ≡ None
tunnel = refl

without_number : item_fault (building None) ≡ None
without_number = refl

sixteen_digits : item_fault (building (Some (codes "0000100000000001"))) ≡ None
sixteen_digits = refl

fifteen_digits : item_fault (building (Some (codes "000010000000001"))) ≡ Some PandNumber
fifteen_digits = refl

seventeen_digits : item_fault (building (Some (codes "00001000000000001"))) ≡ Some PandNumber
seventeen_digits = refl

a_letter : item_fault (building (Some (codes "000010000000000A"))) ≡ Some PandNumber
a_letter = refl
