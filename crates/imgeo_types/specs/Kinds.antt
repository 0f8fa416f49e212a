-- The kinds of objects: their words, and which of them divide the ground.
use Rattle.std.specs.Prelude.{ℕ, Bool, true, false, List, codes}
use Rattle.imgeo_types.specs.declared.kind.Kind.{Kind}
use Rattle.imgeo_types.specs.declared.kind.Kind.TheVariants.{Wegdeel, OndersteunendWegdeel, BegroeidTerreindeel, OnbegroeidTerreindeel, Waterdeel, OndersteunendWaterdeel, Pand, OverigBouwwerk, Kunstwerkdeel, Scheiding, OngeclassificeerdObject, Overbruggingsdeel, Tunneldeel}
use Rattle.imgeo_types.specs.declared.kind.Attr.{Attr}
use Rattle.imgeo_types.specs.declared.kind.Attr.TheVariants.{Functie, Voorkomen, Soort}

-- the word of a kind
abbrev pub word_of : Kind → List ℕ
word_of Wegdeel = codes "wegdeel"
word_of OndersteunendWegdeel = codes "ondersteunend_wegdeel"
word_of BegroeidTerreindeel = codes "begroeid_terreindeel"
word_of OnbegroeidTerreindeel = codes "onbegroeid_terreindeel"
word_of Waterdeel = codes "waterdeel"
word_of OndersteunendWaterdeel = codes "ondersteunend_waterdeel"
word_of Pand = codes "pand"
word_of OverigBouwwerk = codes "overig_bouwwerk"
word_of Kunstwerkdeel = codes "kunstwerkdeel"
word_of Scheiding = codes "scheiding"
word_of OngeclassificeerdObject = codes "ongeclassificeerd_object"
word_of Overbruggingsdeel = codes "overbruggingsdeel"
word_of Tunneldeel = codes "tunneldeel"

-- the kinds that divide the ground: all but the last two
abbrev pub is_dividing : Kind → Bool
is_dividing Overbruggingsdeel = false
is_dividing Tunneldeel = false
is_dividing _ = true

-- the kinds of the plane, on which the others stand: the first six
abbrev pub is_plane : Kind → Bool
is_plane Wegdeel = true
is_plane OndersteunendWegdeel = true
is_plane BegroeidTerreindeel = true
is_plane OnbegroeidTerreindeel = true
is_plane Waterdeel = true
is_plane OndersteunendWaterdeel = true
is_plane _ = false

-- the word of an attribute
abbrev pub attr_word : Attr → List ℕ
attr_word Functie = codes "functie"
attr_word Voorkomen = codes "fysiekVoorkomen"
attr_word Soort = codes "type"
