-- What a message changes of its holder's map.
use Rattle.std.specs.Prelude.{◌++◌, ℕ, List, [], ◌∷◌}
use Rattle.std.specs.List.{flat_map}
use Rattle.message_text.specs.declared.message.Message.{Message}
use Rattle.message_text.specs.declared.message.Mutation.{Mutation}
use Rattle.message_text.specs.declared.message.Mutation.TheVariants.{Add, Change as Alter, End}
use Rattle.imgeo_types.specs.declared.item.Item.{Item}
use Rattle.level_rules.specs.declared.item.LevelItem.{LevelItem}
use Rattle.local_check.specs.declared.change.Change.{Change}

-- the object of an identification with this item
abbrev pub part : List ℕ → Item → LevelItem
part ident item = record { ident = ident; kind = item.kind; level = item.level; shape = item.rings }

-- whose version a mutation ends
abbrev pub leaving_by : Mutation → List (List ℕ)
leaving_by (Add ident item) = []
leaving_by (Alter ident was item) = ident ∷ []
leaving_by (End ident was day) = ident ∷ []

-- the object that a mutation brings
abbrev pub coming_by : Mutation → List LevelItem
coming_by (Add ident item) = part ident item ∷ []
coming_by (Alter ident was item) = part ident item ∷ []
coming_by (End ident was day) = []

-- what these mutations add to a change of a map
abbrev pub with_mutations : List Mutation → Change → Change
with_mutations mutations change = record {
  area = change.area;
  leaving = change.leaving ++ flat_map leaving_by mutations;
  coming = change.coming ++ flat_map coming_by mutations;
}

-- what a message changes of its holder's map
abbrev pub change_of : Message → Change
change_of m = record { area = m.area; leaving = flat_map leaving_by m.mutations; coming = flat_map coming_by m.mutations }
