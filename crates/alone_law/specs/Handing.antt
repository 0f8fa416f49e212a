-- What a message of two holders leaves: it may change both areas, and hand objects over.
use Rattle.std.specs.Prelude.{◌+◌, ◌≡◌, ◌⊎◌, ℕ, ℤ, List, [], ◌∷◌, ◌++◌, map, Option, Some, option_map, unwrap_or}
use Rattle.std.specs.Bool.{if◌then◌else◌}
use Rattle.std.specs.List.{flat_map}
use Rattle.std.specs.Str.{bytes_eq}
use Rattle.rd_plane.specs.Plane.{Vertex}
use Rattle.imgeo_types.specs.declared.item.Item.{Item}
use Rattle.imgeo_types.specs.Fields.{holder_of}
use Rattle.message_text.specs.declared.message.Mutation.{Mutation}
use Rattle.message_text.specs.declared.message.Mutation.TheVariants.{Add, Change, End}
use Rattle.version_history.specs.declared.version.Version.{Version}
use Rattle.version_history.specs.Versions.{current_of, new_version}
use Rattle.map_rules.specs.After.{areas_after, last_after, touched_by}
use Rattle.map_rules.specs.State.{State}

-- a mutation, or an object that goes over to the other holder
pub data Deed : Type 0 where
  alone : Mutation → Deed
  handover : List ℕ → ℤ → Item → Deed

-- the mutation that ends the same version
abbrev pub mutation_of : Deed → Mutation
mutation_of (alone x) = x
mutation_of (handover ident was item) = Change ident was item

-- a message of the holder `own`, which may change the area of `other` too
pub record Joint : Type 0 where
  pub own : List ℕ
  pub other : List ℕ
  pub moment : ℤ
  pub area : Option (List (List (List Vertex)))
  pub other_area : Option (List (List (List Vertex)))
  pub deeds : List Deed

-- whose the current version is
abbrev pub kept_holder : List ℕ → List ℕ → List Version → List ℕ
kept_holder own ident versions = unwrap_or (option_map (λ (v : Version). v.holder) (current_of ident versions)) own

-- of two holders the one that is not this
abbrev pub other_than : List ℕ → List ℕ → List ℕ → List ℕ
other_than own other kept = if bytes_eq kept own then other else own

-- the version that a deed begins: a change leaves the holder, a handover takes the other of the two
abbrev pub begun_by : List ℕ → List ℕ → ℤ → List Version → Deed → List Version
begun_by own other moment versions (alone (Add ident item)) = new_version own ident item moment ∷ []
begun_by own other moment versions (alone (Change ident was item)) = new_version (kept_holder own ident versions) ident item moment ∷ []
begun_by own other moment versions (alone (End ident was day)) = []
begun_by own other moment versions (handover ident was item)
    = new_version (other_than own other (kept_holder own ident versions)) ident item moment ∷ []

-- the state that a message of two holders leaves
abbrev pub after_joint : State → Joint → State
after_joint s j = record {
  versions
      = map (touched_by j.moment (map mutation_of j.deeds)) s.versions ++ flat_map (begun_by j.own j.other j.moment s.versions) j.deeds;
  areas = areas_after j.other j.moment j.other_area (areas_after j.own j.moment j.area s.areas);
  last = last_after j.other j.moment (last_after j.own j.moment s.last);
  accepted = s.accepted + 1;
}

-- the current version of the identification is one of the two holders'
pub record IsOfTwo (own other : List ℕ) (versions : List Version) (ident : List ℕ) : Type 0 where
  pub version : Version
  pub is : current_of ident versions ≡ Some version
  pub holder : (version.holder ≡ own) ⊎ (version.holder ≡ other)

-- what a deed names is of one of the two holders, or is new and without the code of `third`
abbrev pub KeepsOff : List ℕ → List ℕ → List ℕ → List Version → Deed → Type 0
KeepsOff third own other versions (alone (Add ident item)) = holder_of ident ≡ third → ⊥
KeepsOff third own other versions (alone (Change ident was item)) = IsOfTwo own other versions ident
KeepsOff third own other versions (alone (End ident was day)) = IsOfTwo own other versions ident
KeepsOff third own other versions (handover ident was item) = IsOfTwo own other versions ident
