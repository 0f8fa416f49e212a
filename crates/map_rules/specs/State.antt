-- What the register has, and what holds of it at a moment.
use Rattle.std.specs.Prelude.{ℕ, ℤ, int_lt, int_le, Bool, ◌&&◌, List, [], map, filter, find, Option, Some, None, option_map, unwrap_or}
use Rattle.std.specs.Str.{bytes_eq}
use Rattle.rd_plane.specs.Covering.{border}
use Rattle.rd_plane.specs.Plane.{Vertex, Segment}
use Rattle.version_history.specs.declared.version.Version.{Version}
use Rattle.version_history.specs.Versions.{is_current}
use Rattle.area_book.specs.declared.version.AreaVersion.{AreaVersion}
use Rattle.area_book.specs.Areas.{area_of}
use Rattle.level_rules.specs.declared.item.LevelItem.{LevelItem}
use Rattle.local_check.specs.Maps.{HolderParts, ground_of}
use Rattle.map_rules.specs.declared.last.LastMessage.{LastMessage}

-- the versions of objects and of areas in order of making, the moment of each holder's last accepted message,
-- holder by holder in the order of their first, and how many messages were accepted
pub record State : Type 0 where
  pub versions : List Version
  pub areas : List AreaVersion
  pub last : List LastMessage
  pub accepted : ℕ

-- nothing was accepted yet
abbrev pub opening : State
opening = record { versions = []; areas = []; last = []; accepted = 0 }

-- the moment of the holder's last accepted message
abbrev pub moment_of : List ℕ → List LastMessage → Option ℤ
moment_of holder last = option_map (λ (l : LastMessage). l.moment) (find (λ (l : LastMessage). bytes_eq l.holder holder) last)

-- the object of a version
abbrev pub part_of : Version → LevelItem
part_of v = record { ident = v.ident; kind = v.item.kind; level = v.item.level; shape = v.item.rings }

-- ---- now
-- a current object of the holder
abbrev pub is_object_of : List ℕ → Version → Bool
is_object_of holder v = bytes_eq v.holder holder && is_current v

-- the holder's current objects
abbrev pub parts_now : List ℕ → List Version → List LevelItem
parts_now holder versions = map part_of (filter (is_object_of holder) versions)

-- the holder's current area and objects
abbrev pub map_now : List ℕ → State → HolderParts
map_now holder s = record { area = area_of holder s.areas; parts = parts_now holder s.versions }

-- ---- at a moment
-- whether what began then, and ended then or not yet, holds at t: from its beginning on, and at its end no more
abbrev pub holds_at : ℤ → ℤ → Option ℤ → Bool
holds_at t since None = int_le since t
holds_at t since (Some until) = int_le since t && int_lt t until

-- the version is the holder's and holds at t
abbrev pub is_object_at : ℤ → List ℕ → Version → Bool
is_object_at t holder v = bytes_eq v.holder holder && holds_at t v.since v.until

-- the area version is the holder's and holds at t
abbrev pub is_area_at : ℤ → List ℕ → AreaVersion → Bool
is_area_at t holder a = bytes_eq a.holder holder && holds_at t a.since a.until

-- the holder's objects at t
abbrev pub parts_at : ℤ → List ℕ → List Version → List LevelItem
parts_at t holder versions = map part_of (filter (is_object_at t holder) versions)

-- the holder's area at t, without a shape where it has none then
abbrev pub area_at : ℤ → List ℕ → List AreaVersion → List (List (List Vertex))
area_at t holder areas = unwrap_or (option_map (λ (a : AreaVersion). a.shapes) (find (is_area_at t holder) areas)) []

-- the holder's area and objects at t
abbrev pub map_at : ℤ → List ℕ → State → HolderParts
map_at t holder s = record { area = area_at t holder s.areas; parts = parts_at t holder s.versions }

-- ---- the border of a map
-- the edges of the map's ground parts, and those of its area reversed
abbrev pub edges_of : HolderParts → List Segment
edges_of m = border m.area (ground_of m.parts)
