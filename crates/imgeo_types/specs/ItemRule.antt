-- Which items are right: the level, the codes that the kind of an object has, and the number of a building.
use Rattle.std.specs.Prelude.{◌≡◌, ◌&&◌, ◌==◌, ℕ, ℤ, pos, negsuc, int_le, Bool, List, Option, Some, None, Result, MatchResult, MatchOption, IfSome, ◌≤ℤ◌, is_some, length, if◌then◌else◌}
use Rattle.std.specs.List.{list_all, All, Contains}
use Rattle.std.specs.Option.{option_or}
use Rattle.std.specs.Char.{is_ascii_digit, IsAsciiDigit}
use Rattle.code_tables.specs.declared.table.Table.{Table}
use Rattle.code_tables.specs.declared.table.Table.TheVariants as tables
use Rattle.code_tables.specs.Codes.{place_of}
use Rattle.code_tables.specs.Catalogue.{values_of}
use Rattle.imgeo_types.specs.declared.kind.Kind.{Kind}
use Rattle.imgeo_types.specs.declared.kind.Kind.TheVariants.{Wegdeel, OndersteunendWegdeel, BegroeidTerreindeel, OnbegroeidTerreindeel, Waterdeel, OndersteunendWaterdeel, Pand, OverigBouwwerk, Kunstwerkdeel, Scheiding, Overbruggingsdeel}
use Rattle.imgeo_types.specs.declared.kind.Attr.{Attr}
use Rattle.imgeo_types.specs.declared.kind.Attr.TheVariants.{Functie, Voorkomen, Soort}
use Rattle.imgeo_types.specs.declared.fault.ItemFault.{ItemFault}
use Rattle.imgeo_types.specs.declared.fault.ItemFault.TheVariants.{Level, Code, Missing, PandNumber}
use Rattle.imgeo_types.specs.declared.item.Item.{Item}

-- the attributes that a kind has, each with the table of its values; a kind has no others
abbrev pub table_of : Kind → Attr → Option Table
table_of Wegdeel Functie = Some tables.WegdeelFunctie
table_of Wegdeel Voorkomen = Some tables.WegdeelVoorkomen
table_of OndersteunendWegdeel Functie = Some tables.OndersteunendWegdeelFunctie
table_of OndersteunendWegdeel Voorkomen = Some tables.OndersteunendWegdeelVoorkomen
table_of BegroeidTerreindeel Voorkomen = Some tables.BegroeidVoorkomen
table_of OnbegroeidTerreindeel Voorkomen = Some tables.OnbegroeidVoorkomen
table_of Waterdeel Soort = Some tables.WaterdeelSoort
table_of OndersteunendWaterdeel Soort = Some tables.OndersteunendWaterdeelSoort
table_of OverigBouwwerk Soort = Some tables.OverigBouwwerkSoort
table_of Kunstwerkdeel Soort = Some tables.KunstwerkdeelSoort
table_of Scheiding Soort = Some tables.ScheidingSoort
table_of Overbruggingsdeel Soort = Some tables.OverbruggingsdeelSoort
table_of _ _ = None

-- from -99 to 99
abbrev pub is_level : ℤ → Bool
is_level level = int_le (negsuc 98) level && int_le level (pos 99)

-- 16 digits
abbrev pub is_pand_number : List ℕ → Bool
is_pand_number number = length number == 16 && list_all is_ascii_digit number

-- a fault where the test fails
abbrev pub unless : Bool → ItemFault → Option ItemFault
unless right fault = if right then None else Some fault

-- where the kind has the attribute, a value of its table is wanted, and else none
abbrev pub attr_fault : Attr → Option Table → Option (List ℕ) → Option ItemFault
attr_fault attr (Some table) (Some code) = unless (is_some (place_of (values_of table) code)) (Code attr)
attr_fault attr (Some table) None = Some (Missing attr)
attr_fault attr None (Some code) = Some (Code attr)
attr_fault attr None None = None

-- a number may be given of a building alone
abbrev pub pand_fault : Kind → Option (List ℕ) → Option ItemFault
pand_fault _ None = None
pand_fault Pand (Some number) = unless (is_pand_number number) PandNumber
pand_fault _ (Some number) = Some PandNumber

-- the first fault of an item; none where the item is right
abbrev pub item_fault : Item → Option ItemFault
item_fault item =
    option_or (unless (is_level item.level) Level)
    (option_or (attr_fault Functie (table_of item.kind Functie) item.functie)
    (option_or (attr_fault Voorkomen (table_of item.kind Voorkomen) item.voorkomen)
    (option_or (attr_fault Soort (table_of item.kind Soort) item.soort)
    (pand_fault item.kind item.pand))))

-- the result is good where there is no fault, and else it is that fault
abbrev pub Tells : {A : Type 0} → Result A ItemFault → Option ItemFault → Type 0
Tells result fault = MatchResult result (λ _. fault ≡ None) (λ found. fault ≡ Some found)

-- where the kind has the attribute, the value is a code that its table lists, and else there is no value
abbrev pub Suits : Kind → Attr → Option (List ℕ) → Type 0
Suits kind attr value
    = MatchOption (table_of kind attr) (value ≡ None) (λ table. (code : List ℕ) × (value ≡ Some code) × Contains (values_of table) code)

-- an item that is right by the catalogue
pub record IsRight (item : Item) : Type 0 where
  pub above : negsuc 98 ≤ℤ item.level
  pub below : item.level ≤ℤ pos 99
  pub functie : Suits item.kind Functie item.functie
  pub voorkomen : Suits item.kind Voorkomen item.voorkomen
  pub soort : Suits item.kind Soort item.soort
  pub pand : IfSome item.pand (λ number. (item.kind ≡ Pand) × (length number ≡ 16) × All IsAsciiDigit number)
