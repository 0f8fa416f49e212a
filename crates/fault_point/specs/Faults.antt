-- Why a map is not tiled: two border edges that cross, or else a point that lies in the wrong number of parts.
use Rattle.std.specs.Prelude.{◌≡◌, ◌≢◌, ℕ, ℤ, pos, ◌+ℤ◌, ◌*ℤ◌, ◌<ℤ◌, ◌≤ℤ◌, unsigned_abs, Bool, List, Some, None, IsTrue}
use Rattle.std.specs.Bool.{if◌then◌else◌}
use Rattle.std.specs.Int.{IsGcd}
use Rattle.std.specs.List.{Contains}
use Rattle.std.specs.Ordering.{then_cmp}
use Rattle.std.specs.Ordering.{on as by}
use Rattle.std.specs.declared.cmp.Ordering.{Ordering}
use Rattle.std.specs.declared.cmp.Ordering.TheVariants.{Less}
use Rattle.rd_plane.specs.AtHeight.{IsAtHeight, IsHalfWay, x_cmp}
use Rattle.rd_plane.specs.Covering.{border, cover_count, covers_any, IsTiled}
use Rattle.rd_plane.specs.Frac.{Frac, StandsFor}
use Rattle.rd_plane.specs.Meeting.{IsMeet}
use Rattle.rd_plane.specs.declared.meet.Meet.TheVariants.{Cross}
use Rattle.rd_plane.specs.Order.{IsLeast, segment_cmp}
use Rattle.rd_plane.specs.Plane.{Vertex, Segment, Point, off}
use Rattle.rd_plane.specs.Rule.{Rule, ◌then◌}
use Rattle.fault_point.specs.declared.fault.Fault.{Fault}
use Rattle.fault_point.specs.declared.fault.Fault.TheVariants as fault

-- ---- edges that cross
-- by the first edge, then by the second
abbrev pub pair_cmp : Segment × Segment → Segment × Segment → Ordering
pair_cmp = then_cmp (by (λ (x : Segment × Segment). x.0) segment_cmp) (by (λ (x : Segment × Segment). x.1) segment_cmp)

-- two of the edges that cross, the smaller one first
pub record IsCrossing (edges : List Segment) (x : Segment × Segment) : Type 0 where
  pub first : Contains edges x.0
  pub second : Contains edges x.1
  pub cross : IsMeet x.0 x.1 Cross
  pub smaller : segment_cmp x.0 x.1 ≡ Less

-- the least pair of them, where there is one
abbrev pub CrossingRule : List Segment → Rule Fault
CrossingRule edges None = (x : Segment × Segment) → IsCrossing edges x → ⊥
CrossingRule edges (Some r) = (x : Segment × Segment) × IsLeast pair_cmp (IsCrossing edges) x × (r ≡ fault.Crossing x.0 x.1)

-- ---- wrong points
-- p is off the border, and the number of parts that hold it is not 1 inside the area and 0 outside
pub record IsWrong (area parts : List (List (List Vertex))) (p : Point) : Type 0 where
  pub off_border : IsTrue (off p (border area parts))
  pub wrong : cover_count p parts ≢ (if covers_any p area then 1 else 0)

-- p is at the height k / 2
abbrev pub HasHeight : ℤ → Point → Type 0
HasHeight k p = pos 2 *ℤ p.py ≡ k *ℤ p.q

-- k is odd
abbrev pub IsOdd : ℤ → Type 0
IsOdd k = (j : ℤ) × (k ≡ pos 2 *ℤ j +ℤ pos 1)

-- p is at the height k / 2, strictly between two points of it
pub record LiesIn (k : ℤ) (from to p : Point) : Type 0 where
  pub height : HasHeight k p
  pub east : x_cmp from p ≡ Less
  pub west : x_cmp p to ≡ Less

-- the points of the height k / 2 between the two meet none of the edges, and both ends are on edges: a greatest open
-- stretch of the height that meets no edge
pub record IsStretch (k : ℤ) (edges : List Segment) (from to : Point) : Type 0 where
  pub from_edge : (e : Segment) × Contains edges e × IsAtHeight k e from
  pub to_edge : (e : Segment) × Contains edges e × IsAtHeight k e to
  pub wide : x_cmp from to ≡ Less
  pub free : (p : Point) → LiesIn k from to p → IsTrue (off p edges)

-- the middle of the leftmost stretch with wrong points, at the least odd height that has one; all points of it are wrong
pub record IsFirstWrong (area parts : List (List (List Vertex))) (f : Frac) : Type 0 where
  pub odd : IsOdd f.y_half
  pub least : (p : Point) (k : ℤ) → IsWrong area parts p → IsOdd k → HasHeight k p → f.y_half ≤ℤ k
  pub from : Point
  pub to : Point
  pub stretch : IsStretch f.y_half (border area parts) from to
  pub wrong : (p : Point) → LiesIn f.y_half from to p → IsWrong area parts p
  pub leftmost : (p : Point) → IsWrong area parts p → HasHeight f.y_half p → x_cmp from p ≡ Less
  pub middle : IsHalfWay f.y_half from to f

-- the fraction is in lowest terms, with a denominator above 0
pub record IsLowest (f : Frac) : Type 0 where
  pub some : pos 0 <ℤ f.x_den
  pub lowest : IsGcd (unsigned_abs f.x_num) (unsigned_abs f.x_den) 1

-- the first wrong point, in how many parts it lies, and whether it lies in the area
pub record IsExplained (area parts : List (List (List Vertex))) (f : Frac) (n : ℕ) (inside : Bool) : Type 0 where
  pub first : IsFirstWrong area parts f
  pub lowest : IsLowest f
  pub at : Point
  pub stands : StandsFor f at
  pub wrong : IsWrong area parts at
  pub counted : n ≡ cover_count at parts
  pub within : inside ≡ covers_any at area

-- where there is no wrong point, the parts tile the area
abbrev pub PointRule : List (List (List Vertex)) → List (List (List Vertex)) → Rule Fault
PointRule area parts None = IsTiled area parts
PointRule area parts (Some r) = (f : Frac) × (n : ℕ) × (inside : Bool) × IsExplained area parts f n inside × (r ≡ fault.Point f n inside)

-- ---- the explanation: two edges that cross, else a point, else none
abbrev pub Explains : List (List (List Vertex)) → List (List (List Vertex)) → Rule Fault
Explains area parts = CrossingRule (border area parts) then PointRule area parts
