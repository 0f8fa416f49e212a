-- Two holders at two moments: what is exported, and the map that it leaves.
use Rattle.std.proofs.Common.{◌≡◌, ◌+◌, ℕ, ℤ, map, pos, List, [], ◌∷◌, Option, Some, None, codes, refl}
use Rattle.std.specs.Prelude.{filter, negsuc}
use Rattle.std.specs.Str.{bytes_eq}
use Rattle.std.proofs.lemmas.Bool.{both_ways}
use Rattle.std.proofs.lemmas.Slice.Eq.{bytes_eq-Decides}
use Rattle.rd_plane.specs.Plane.{Vertex}
use Rattle.imgeo_types.specs.declared.item.Item.{Item}
use Rattle.imgeo_types.specs.declared.kind.Kind.TheVariants.{OnbegroeidTerreindeel}
use Rattle.message_text.specs.declared.message.Message.{Message}
use Rattle.message_text.specs.declared.message.Mutation.TheVariants.{Add}
use Rattle.version_history.specs.declared.version.Version.{Version}
use Rattle.version_history.specs.Moments.{in_order, placed, rising, versions_at}
use Rattle.version_history.specs.Versions.{is_current}
use Rattle.area_book.specs.declared.version.AreaVersion.{AreaVersion}
use Rattle.area_book.specs.Areas.{area_of}
use Rattle.map_rules.specs.After.{after}
use Rattle.map_rules.specs.Rules.{day_of}
use Rattle.map_rules.specs.State.{State, area_at, opening}
use Rattle.moment_query.specs.Exports.{exported, named, once}
use Rattle.export_law.specs.Kept.{IsAtHome}

vertex : ℕ → ℕ → Vertex
vertex x y = record { x = pos x; y = pos y }

cell : ℕ → List (List Vertex)
cell x = (vertex x 0 ∷ vertex (x + 10) 0 ∷ vertex (x + 10) 10 ∷ []) ∷ []

item : ℕ → List ℕ → Item
item x looks = record {
  kind = OnbegroeidTerreindeel;
  level = pos 0;
  begin = pos 0;
  functie = None;
  voorkomen = Some looks;
  soort = None;
  pand = None;
  rings = cell x;
}

version : List ℕ → List ℕ → Item → ℕ → Option ℤ → Version
version holder ident own since until
    = record { holder = holder; ident = ident; item = own; since = pos since; until = until; end_day = None }

area : List ℕ → ℕ → ℕ → AreaVersion
area holder x since = record { holder = holder; shapes = cell x ∷ []; since = pos since; until = None }

g1 : List ℕ
g1 = codes "G0001"

g2 : List ℕ
g2 = codes "G0002"

a : List ℕ
a = codes "G0001.A"

b : List ℕ
b = codes "G0002.B"

yard : Item
yard = item 10 (codes "erf")

sand : Item
sand = item 0 (codes "zand")

paved : Item
paved = item 0 (codes "gesloten verharding")

-- the second holder began at 1, the first at 2; at 3 the sand of the first was paved
state : State
state = record {
  versions = version g2 b yard 1 None ∷ version g1 a sand 2 (Some (pos 3)) ∷ version g1 a paved 3 None ∷ [];
  areas = area g2 10 1 ∷ area g1 0 2 ∷ [];
  last = [];
  accepted = 3;
}

message : ℕ → List ℕ → ℕ → List ℕ → Item → Message
message moment holder x ident own
    = record { holder = holder; moment = pos moment; area = Some (cell x ∷ []); mutations = Add ident own ∷ [] }

-- at 2, rising by holder, with the old version of the object
at_2 : exported state (pos 2) ≡ message 2 g1 0 a sand ∷ message 2 g2 10 b yard ∷ []
unfolding state version area message g1 g2 a b in_order placed once
at_2 = refl

-- at 3 with the new one
at_3 : exported state (pos 3) ≡ message 3 g1 0 a paved ∷ message 3 g2 10 b yard ∷ []
unfolding state version area message g1 g2 a b in_order placed once
at_3 = refl

-- at 1 of the second holder alone
at_1 : exported state (pos 1) ≡ message 1 g2 10 b yard ∷ []
unfolding state version area message g1 g2 a b in_order placed once
at_1 = refl

-- nothing is exported of a moment before all
at_0 : exported state (pos 0) ≡ []
unfolding state version area g1 g2 a b in_order placed once
at_0 = refl

-- what the messages of 2 leave
loaded : State
loaded = after (after opening (message 2 g1 0 a sand)) (message 2 g2 10 b yard)

-- it has the objects of 2
objects : map named (rising (λ (v : Version). v.ident) (filter is_current loaded.versions)) ≡ map named (versions_at (pos 2) state.versions)
unfolding state version message g1 g2 a b loaded in_order placed
objects = refl

-- the area that each had then, and none of a third
area_of_g1 : area_of g1 loaded.areas ≡ area_at (pos 2) g1 state.areas
unfolding state area message g1 g2 loaded
area_of_g1 = refl

area_of_g2 : area_of g2 loaded.areas ≡ area_at (pos 2) g2 state.areas
unfolding state area message g1 g2 loaded
area_of_g2 = refl

area_of_g3 : area_of (codes "G0003") loaded.areas ≡ area_at (pos 2) (codes "G0003") state.areas
unfolding state area message g1 g2 loaded
area_of_g3 = refl

-- and the same is exported of it
again : exported loaded (pos 2) ≡ exported state (pos 2)
unfolding state version area message g1 g2 a b loaded in_order placed once
again = refl

-- ---- days and codes
first_day : day_of (pos 86_399_999) ≡ pos 0
first_day = refl

next_day : day_of (pos 86_400_000) ≡ pos 1
next_day = refl

day_before : day_of (negsuc 0) ≡ negsuc 0
day_before = refl

at_home : IsAtHome (version g1 a sand 2 None)
unfolding version g1 a
at_home = refl

not_at_home : ¬ IsAtHome (version g2 a sand 2 None)
unfolding version g1 g2 a
not_at_home e = both_ways (bytes_eq (codes "G0001") (codes "G0002")) refl ((bytes_eq-Decides (codes "G0001") (codes "G0002")).1 e)
