-- The messages of the generator: a field of cells, joined two and two and parted again, and at last one cell too few.
-- All lengths are millimetres.
use Rattle.std.specs.Prelude.{◌≤◌, ◌+◌, ◌-◌, ◌*◌, ◌/◌, ◌%◌, ◌==◌, ◌++◌, ℕ, suc, zero, ℤ, pos, List, [], ◌∷◌, map, reverse, Some, None, codes}
use Rattle.std.specs.Bool.{if◌then◌else◌}
use Rattle.std.specs.List.{flat_map}
use Rattle.rd_plane.specs.Plane.{Vertex}
use Rattle.imgeo_types.specs.declared.item.Item.{Item}
use Rattle.imgeo_types.specs.declared.kind.Kind.TheVariants.{BegroeidTerreindeel}
use Rattle.message_text.specs.declared.message.Message.{Message}
use Rattle.message_text.specs.declared.message.Mutation.{Mutation}
use Rattle.message_text.specs.declared.message.Mutation.TheVariants.{Add, Change, End}

-- the point with these coordinates, in millimetres
abbrev pub point : ℕ → ℕ → Vertex
point x y = record { x = pos x; y = pos y }

-- the corner i steps to the east and j steps to the north
abbrev pub corner : ℕ → ℕ → Vertex
corner i j = point (100_000_000 + 10_000 * i) (400_000_000 + 10_000 * j)

-- the middle of the border from that corner to the next one in the east, out of the line by one metre at most
abbrev pub east : ℕ → ℕ → Vertex
east i j = point (100_005_000 + 10_000 * i) (399_999_000 + 10_000 * j + 1_000 * ((i + 2 * j) % 3))

-- and of the border to the next one in the north
abbrev pub north : ℕ → ℕ → Vertex
north i j = point (99_999_000 + 10_000 * i + 1_000 * ((2 * i + j) % 3)) (400_005_000 + 10_000 * j)

-- the ring of one cell
abbrev pub cell : ℕ → ℕ → List Vertex
cell i j = corner i j ∷ east i j ∷ corner (i + 1) j ∷ north (i + 1) j ∷ corner (i + 1) (j + 1) ∷ east i (j + 1) ∷ corner i (j + 1) ∷ north i
    j ∷ []

-- the south of the first two cells of a row, and the middle of their east
abbrev pub south : ℕ → List Vertex
south j = corner 0 j ∷ east 0 j ∷ corner 1 j ∷ east 1 j ∷ corner 2 j ∷ north 2 j ∷ []

-- their north, and the middle of their west
abbrev pub back : ℕ → List Vertex
back j = corner 2 (j + 1) ∷ east 1 (j + 1) ∷ corner 1 (j + 1) ∷ east 0 (j + 1) ∷ corner 0 (j + 1) ∷ north 0 j ∷ []

-- the ring of the two cells
abbrev pub double : ℕ → List Vertex
double j = south j ++ back j

-- the numbers below n, rising
unfoldable pub below : ℕ → List ℕ
below zero = []
below (suc n) = below n ++ n ∷ []

-- the border of n by n cells along the south, to the east
abbrev pub along_south : ℕ → List Vertex
along_south n = flat_map (λ i. corner i 0 ∷ east i 0 ∷ []) (below n)

-- along the east, to the north
abbrev pub along_east : ℕ → List Vertex
along_east n = flat_map (λ j. corner n j ∷ north n j ∷ []) (below n)

-- along the north, to the west
abbrev pub along_north : ℕ → List Vertex
along_north n = flat_map (λ i. corner (i + 1) n ∷ east i n ∷ []) (reverse (below n))

-- along the west, to the south
abbrev pub along_west : ℕ → List Vertex
along_west n = flat_map (λ j. corner 0 (j + 1) ∷ north 0 j ∷ []) (reverse (below n))

-- the border of n by n cells
abbrev pub outline : ℕ → List Vertex
outline n = along_south n ++ (along_east n ++ (along_north n ++ along_west n))

-- the last digits of the number, so many
unfoldable pub padded : ℕ → ℕ → List ℕ
padded zero number = []
padded (suc width) number = padded width (number / 10) ++ (48 + number % 10) ∷ []

-- the one holder whose messages these are
abbrev pub holder : List ℕ
holder = codes "G0001"

-- the identification with this number
abbrev pub ident : ℕ → List ℕ
ident number = codes "G0001." ++ padded 32 number

-- 1 January 2024
abbrev pub day : ℤ
day = pos 19_723

-- so many seconds after it began
abbrev pub moment : ℕ → ℤ
moment k = pos (19_723 * 86_400_000 + 1_000 * k)

-- greenery of one ring
abbrev pub item : List Vertex → Item
item ring = record {
  kind = BegroeidTerreindeel;
  level = pos 0;
  begin = day;
  functie = None;
  voorkomen = Some (codes "groenvoorziening");
  soort =
      None;
  pand = None;
  rings = ring ∷ [];
}

-- the number of a cell
abbrev pub number : ℕ → ℕ → ℕ → ℕ
number n i j = j * n + i + 1

-- the message at a moment, without an area
abbrev pub message : ℕ → List Mutation → Message
message k mutations = record { holder = holder; moment = moment k; area = None; mutations = mutations }

-- a new object for the cell
abbrev pub new_cell : ℕ → ℕ → ℕ → Mutation
new_cell n j i = Add (ident (number n i j)) (item (cell i j))

-- all cells, row by row
abbrev pub cells : ℕ → List Mutation
cells n = flat_map (λ j. map (new_cell n j) (below n)) (below n)

-- the first message: the area, and all cells
abbrev pub first_message : ℕ → Message
first_message n = record { holder = holder; moment = moment 0; area = Some ((outline n ∷ []) ∷ []); mutations = cells n }

-- the first cell of the row, as it was made at first, becomes the first two cells
abbrev pub widened : ℕ → ℕ → Mutation
widened n row = Change (ident (number n 0 row)) (moment 0) (item (double row))

-- and the cell again, from what it became at that second
abbrev pub narrowed : ℕ → ℕ → ℕ → Mutation
narrowed n row since = Change (ident (number n 0 row)) (moment since) (item (cell 0 row))

-- a new object with this number has the place of the second cell of the row
abbrev pub neighbour : ℕ → ℕ → Mutation
neighbour number row = Add (ident number) (item (cell 1 row))

-- the object with this number ends, as it was made at first
abbrev pub ended : ℕ → Mutation
ended number = End (ident number) (moment 0) day

-- the first cell of the row takes its neighbour in
abbrev pub joined : ℕ → ℕ → Message
joined n k = message k (widened n (k - 1) ∷ ended (number n 1 (k - 1)) ∷ [])

-- and gives its place to a new cell
abbrev pub parted : ℕ → ℕ → Message
parted n k = message k (narrowed n (k - 2) (k - 1) ∷ neighbour (n * n + k) (k - 2) ∷ [])

-- the messages between the first and the last: a row is joined, and then parted
abbrev pub next_message : ℕ → ℕ → Message
next_message n k = if k % 2 == 1 then joined n k else parted n k

-- the last cell ends, and nothing takes its place
abbrev pub last_message : ℕ → Message
last_message n = message (n + 1) (ended (n * n) ∷ [])

-- the field has as many rows as a row has cells, from 2 to 400
abbrev pub IsCount : ℕ → Type 0
IsCount n = (2 ≤ n) × (n ≤ 400)

-- the messages for n
abbrev pub made : ℕ → List Message
made n = first_message n ∷ (map (λ k. next_message n (k + 1)) (below n) ++ last_message n ∷ [])
