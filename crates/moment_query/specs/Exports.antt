-- The map at a moment as messages, one for each holder, and that they build the map again.
use Rattle.std.specs.Prelude.{◌≡◌, ◌++◌, ℕ, ℤ, Bool, List, [], ◌∷◌, length, nat_lt, map, filter, find, Option, Some, None}
use Rattle.std.specs.Bool.{if◌then◌else◌}
use Rattle.std.specs.List.{flat_map}
use Rattle.std.specs.Str.{bytes_eq}
use Rattle.message_text.specs.declared.message.Message.{Message}
use Rattle.message_text.specs.declared.message.Mutation.{Mutation}
use Rattle.message_text.specs.declared.message.Mutation.TheVariants.{Add}
use Rattle.message_text.specs.Texts.{IsCanonical}
use Rattle.version_history.specs.declared.version.Version.{Version}
use Rattle.version_history.specs.Moments.{rising, versions_at}
use Rattle.area_book.specs.declared.version.AreaVersion.{AreaVersion}
use Rattle.map_rules.specs.State.{State}
use Rattle.rd_plane.specs.Plane.{Vertex}
use Rattle.imgeo_types.specs.declared.item.Item.{Item}
use Rattle.moment_query.specs.Queries.{areas_at}

-- each once, where equal ones stand together
unfoldable pub once : List (List ℕ) → List (List ℕ)
once [] = []
once (a ∷ []) = a ∷ []
once (a ∷ b ∷ rest) = if bytes_eq a b then once (b ∷ rest) else a ∷ once (b ∷ rest)

-- the area has a shape
abbrev pub has_shapes : AreaVersion → Bool
has_shapes a = nat_lt 0 (length a.shapes)

-- the holders with a shape of one of these areas, or with one of these versions, rising
abbrev pub holders_of : List AreaVersion → List Version → List (List ℕ)
holders_of areas versions = once (rising (λ (h : List ℕ). h)
    (map (λ (a : AreaVersion). a.holder) (filter has_shapes areas) ++ map (λ (v : Version). v.holder) versions))

-- the holders with a shape of an area, or an object, at the moment, rising
abbrev pub holders_at : State → ℤ → List (List ℕ)
holders_at s moment = holders_of (areas_at moment s.areas) (versions_at moment s.versions)

-- the area is the holder's
abbrev pub is_own_area : List ℕ → AreaVersion → Bool
is_own_area holder a = bytes_eq a.holder holder

-- the shapes of the area, none where there is none
abbrev pub shapes_or_none : Option AreaVersion → List (List (List Vertex))
shapes_or_none None = []
shapes_or_none (Some a) = a.shapes

-- the shapes of the holder's area, none where it has none
abbrev pub own_shapes : List ℕ → List AreaVersion → List (List (List Vertex))
own_shapes holder areas = shapes_or_none (find (is_own_area holder) areas)

-- the version is the holder's
abbrev pub is_own : List ℕ → Version → Bool
is_own holder v = bytes_eq v.holder holder

-- the version as a new object, where it is the holder's
abbrev pub own_addition : List ℕ → Version → List Mutation
own_addition holder v = if is_own holder v then Add v.ident v.item ∷ [] else []

-- what the holder has of these, as a message
abbrev pub export_from : List AreaVersion → List Version → ℤ → List ℕ → Message
export_from areas versions moment holder = record {
  holder = holder;
  moment = moment;
  area = Some (own_shapes holder areas);
  mutations = flat_map (own_addition holder) versions;
}

-- what the holder has at the moment, as a message
abbrev pub export_of : State → ℤ → List ℕ → Message
export_of s moment holder = export_from (areas_at moment s.areas) (versions_at moment s.versions) moment holder

-- what each holder has at the moment, as one message each
abbrev pub exported : State → ℤ → List Message
exported s moment = map (export_of s moment) (holders_at s moment)

-- these are the canonical texts of the messages
unfoldable pub AreTexts : List (List ℕ) → List Message → Type 0
AreTexts [] [] = Unit {0}
AreTexts (text ∷ texts) (m ∷ messages) = IsCanonical text m × AreTexts texts messages
AreTexts _ _ = ⊥

-- the canonical text of the message stands after the old bytes
pub record PushesMessage (m : Message) (old new : List ℕ) : Type 0 where
  pub text : List ℕ
  pub is : IsCanonical text m
  pub pushed : new ≡ old ++ text

-- the bytes are the canonical texts of the messages, one after the other
pub record AreJoined (messages : List Message) (bytes : List ℕ) : Type 0 where
  pub texts : List (List ℕ)
  pub are : AreTexts texts messages
  pub joined : bytes ≡ flat_map (λ text. text) texts

-- the bytes are the canonical texts of the map at the moment, one after the other
abbrev pub IsExportText : State → ℤ → List ℕ → Type 0
IsExportText s moment bytes = AreJoined (exported s moment) bytes

-- an identification with its holder and what is said of it
pub record Named : Type 0 where
  pub holder : List ℕ
  pub ident : List ℕ
  pub item : Item

-- so much of a version
abbrev pub named : Version → Named
named v = record { holder = v.holder; ident = v.ident; item = v.item }
