-- The turn of a ring at its least corner.
use Rattle.std.specs.Prelude.{◌≡◌, ◌≢◌, ℕ, ℤ, pos, ◌<◌, ◌<ℤ◌, IsTrue, List, slice_index_or}
use Rattle.std.specs.List.{All, Contains}
use Rattle.std.specs.declared.cmp.Ordering.TheVariants.{Less}
use Rattle.rd_plane.specs.Order.{vertex_cmp}
use Rattle.rd_plane.specs.Plane.{Vertex, Segment, Point, point_of, side, off, wind}
use Rattle.rd_plane.specs.Shapes.{ring_edges}
use Rattle.rd_plane.specs.declared.turn.Turn.{Turn}
use Rattle.rd_plane.specs.declared.turn.Turn.TheVariants.{Left, Straight, Right}

-- the ring runs from the corner `before` to its least corner, by x and then y, and on to the corner `after`
pub record IsAtLeast (ring : List Vertex) (before least after : Vertex) : Type 0 where
  pub comes : Contains (ring_edges ring) (record { a = before; b = least })
  pub goes : Contains (ring_edges ring) (record { a = least; b = after })
  pub none_less : All (λ v. vertex_cmp v least ≢ Less) ring

-- the corner at i stands before the place n, and no corner before n is less
pub record IsLeastUpTo (ring : List Vertex) (i n : ℕ) : Type 0 where
  pub inside : i < n
  pub none_less : (k : ℕ) (d : Vertex) → k < n → vertex_cmp (slice_index_or ring k d) (slice_index_or ring i d) ≢ Less

-- the way from u to v turns left to go on to w
abbrev pub TurnsLeft : Vertex → Vertex → Vertex → Type 0
TurnsLeft u v w = pos 0 <ℤ side (point_of w) (record { a = u; b = v })

-- it turns right
abbrev pub TurnsRight : Vertex → Vertex → Vertex → Type 0
TurnsRight u v w = side (point_of w) (record { a = u; b = v }) <ℤ pos 0

-- it goes straight on, or straight back
abbrev pub GoesStraight : Vertex → Vertex → Vertex → Type 0
GoesStraight u v w = side (point_of w) (record { a = u; b = v }) ≡ pos 0

-- how the way from u to v goes on to w
abbrev pub IsTurn : Vertex → Vertex → Vertex → Turn → Type 0
IsTurn u v w Left = TurnsLeft u v w
IsTurn u v w Straight = GoesStraight u v w
IsTurn u v w Right = TurnsRight u v w

-- the turn of the ring at its least corner
pub record TurnsAtLeast (ring : List Vertex) (turn : Turn) : Type 0 where
  pub before : Vertex
  pub least : Vertex
  pub after : Vertex
  pub at : IsAtLeast ring before least after
  pub is : IsTurn before least after turn

-- some point off the edges is wound w times
pub record WindsSome (w : ℤ) (edges : List Segment) : Type 0 where
  pub at : Point
  pub off_edges : IsTrue (off at edges)
  pub wound : wind at edges ≡ w
