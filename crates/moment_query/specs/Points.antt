-- What lies at a point.
use Rattle.std.specs.Prelude.{◌≡◌, ℤ, Bool, not, ◌&&◌, ◌||◌, List, [], ◌∷◌, ◌++◌, filter, find, Option, Some, None, codes, ℕ}
use Rattle.std.specs.Bool.{if◌then◌else◌, MatchBool}
use Rattle.std.specs.List.{list_any}
use Rattle.rd_plane.specs.Plane.{Vertex, Point, point_of, off}
use Rattle.rd_plane.specs.Shapes.{shape_edges}
use Rattle.rd_plane.specs.Covering.{covers}
use Rattle.version_history.specs.declared.version.Version.{Version}
use Rattle.version_history.specs.Moments.{holds, holds_at}
use Rattle.area_book.specs.declared.version.AreaVersion.{AreaVersion}
use Rattle.local_check.specs.Maps.{is_ground}
use Rattle.map_rules.specs.State.{State, part_of}

-- the point is on an edge of the shape
abbrev pub is_bordered : Point → List (List Vertex) → Bool
is_bordered p shape = not (off p (shape_edges shape))

-- the area holds at the moment, and the point is on an edge of it
abbrev pub is_area_border : ℤ → Point → AreaVersion → Bool
is_area_border moment p a = holds moment a.since a.until && list_any (is_bordered p) a.shapes

-- a ground part that holds at the moment
abbrev pub is_ground_at : ℤ → Version → Bool
is_ground_at moment v = holds_at moment v && is_ground (part_of v)

-- a ground part holds at the moment, and the point is on an edge of it
abbrev pub is_part_border : ℤ → Point → Version → Bool
is_part_border moment p v = is_ground_at moment v && is_bordered p v.item.rings

-- a ground part holds at the moment, and the point lies in it
abbrev pub is_part_at : ℤ → Point → Version → Bool
is_part_at moment p v = is_ground_at moment v && covers p v.item.rings

-- the point is on an edge of an area or of a ground part that holds at the moment
abbrev pub is_border : State → ℤ → Point → Bool
is_border s moment p = list_any (is_area_border moment p) s.areas || list_any (is_part_border moment p) s.versions

-- the first ground part, in order of making, that holds at the moment and in which the point lies
abbrev pub part_at : State → ℤ → Point → Option Version
part_at s moment p = find (is_part_at moment p) s.versions

-- the identification of the part, or that there is none
abbrev pub part_word : Option Version → List ℕ
part_word None = codes "NONE"
part_word (Some v) = v.ident

-- the border first, and then the part
abbrev pub point_word : State → ℤ → Vertex → List ℕ
point_word s moment p = if is_border s moment (point_of p) then codes "BORDER" else part_word (part_at s moment (point_of p))

-- what lies at the point at the moment, in one line
unfoldable pub point_line : State → ℤ → Vertex → List ℕ
point_line s moment p = point_word s moment p ++ 10 ∷ []

-- ---- the same, where a point lies in one ground part at most
-- the ground parts that hold at the moment and in which the point lies
abbrev pub parts_around : State → ℤ → Point → List Version
parts_around s moment p = filter (is_part_at moment p) s.versions

-- where there is no part the word is NONE, where there is one it is its identification; for two or more there is no word
abbrev pub IsPartWord : List Version → List ℕ → Type 0
IsPartWord [] word = word ≡ codes "NONE"
IsPartWord (v ∷ []) word = word ≡ v.ident
IsPartWord (v ∷ w ∷ more) word = ⊥

-- BORDER on an edge of an area or of a ground part that holds at the moment; else the identification of the one ground part in which
-- the point lies, and NONE where it lies in none
abbrev pub IsPointWord : State → ℤ → Vertex → List ℕ → Type 0
IsPointWord s moment p word = MatchBool (is_border s moment (point_of p)) (word ≡ codes "BORDER") (IsPartWord (parts_around s moment (point_of p)) word)

-- the bytes are that word, in one line
unfoldable pub IsPointText : State → ℤ → Vertex → List ℕ → Type 0
IsPointText s moment p text = (word : List ℕ) × IsPointWord s moment p word × (text ≡ word ++ 10 ∷ [])
