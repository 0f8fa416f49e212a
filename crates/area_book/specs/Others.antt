-- Current areas of other holders that share a point with some shapes.
use Rattle.std.specs.Prelude.{◌≡◌, ◌≢◌, ℕ, List, Option, Some, None}
use Rattle.std.specs.Cmp.Lexicographic.{slice_cmp}
use Rattle.std.specs.List.{Contains}
use Rattle.std.specs.Ordering.{nat_cmp}
use Rattle.std.specs.declared.cmp.Ordering.TheVariants.{Less}
use Rattle.rd_plane.specs.Plane.{Vertex}
use Rattle.rd_plane.specs.Shapes.{shape_edges}
use Rattle.slab_wind.specs.Sharing.{Share}
use Rattle.area_book.specs.declared.version.AreaVersion.{AreaVersion}

-- the shape shares a point with one of the others
abbrev pub SharesSome : List (List Vertex) → List (List (List Vertex)) → Type 0
SharesSome s others = (t : List (List Vertex)) × Contains others t × Share (shape_edges s) (shape_edges t)

-- some shape shares a point with one of the others
abbrev pub PairsShare : List (List (List Vertex)) → List (List (List Vertex)) → Type 0
PairsShare shapes others = (s : List (List Vertex)) × Contains shapes s × SharesSome s others

-- a current area of another holder
pub record IsOthers (own : List ℕ) (a : AreaVersion) : Type 0 where
  pub other : a.holder ≢ own
  pub current : a.until ≡ None

-- of a holder before the one that was found
abbrev pub ComesBefore : List ℕ → Option (List ℕ) → Type 0
ComesBefore holder None = Unit {0}
ComesBefore holder (Some least) = slice_cmp nat_cmp holder least ≡ Less

-- another holder than this one, who comes before the one that was found
abbrev pub ComesFirst : List ℕ → Option (List ℕ) → List ℕ → Type 0
ComesFirst own found holder = (holder ≢ own) × ComesBefore holder found

-- a current area of another holder, who comes before the one that was found
abbrev pub IsAsked : List ℕ → Option (List ℕ) → AreaVersion → Type 0
IsAsked own found a = IsOthers own a × ComesBefore a.holder found

-- no current area of another holder shares a point with the shapes
abbrev pub NoneMeets : List AreaVersion → List ℕ → List (List (List Vertex)) → Type 0
NoneMeets areas own shapes = (a : AreaVersion) → Contains areas a → IsOthers own a → PairsShare shapes a.shapes → ⊥

-- the holder's does, and that of no holder before it
pub record IsLeastMeeting (areas : List AreaVersion) (own : List ℕ) (shapes : List (List (List Vertex))) (holder : List ℕ) : Type 0 where
  pub version : AreaVersion
  pub of : Contains areas version
  pub others : IsOthers own version
  pub is : version.holder ≡ holder
  pub shares : PairsShare shapes version.shapes
  pub least : (a : AreaVersion) → Contains areas a → IsOthers own a → slice_cmp nat_cmp a.holder holder ≡ Less → PairsShare shapes a.shapes
      → ⊥
