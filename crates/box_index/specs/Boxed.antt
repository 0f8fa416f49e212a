-- Which boxes of an index meet a box.
use Rattle.std.specs.Prelude.{◌≡◌, ◌↔◌, ◌<◌, ℕ, ℤ, List, Some, refl}
use Rattle.std.specs.Coded.{Coded, code_by, coded×, coded_ℤ}
use Rattle.std.specs.FinMap as map
use Rattle.std.specs.List.{AllPairs, Contains}
use Rattle.std.specs.Ordering.{nat_cmp}
use Rattle.rd_plane.specs.Bounds.{Box, HaveCommonPoint}

-- a box is stored as the coordinates of its two corners
abbrev pub coded_box : Coded Box
coded_box = code_by ((ℤ × ℤ) × (ℤ × ℤ)) (coded× (coded× coded_ℤ coded_ℤ) (coded× coded_ℤ coded_ℤ))
    (λ b. ((b.low.x, b.low.y), (b.high.x, b.high.y)))
    (λ p. record { low = record { x = p.0.0; y = p.0.1 }; high = record { x = p.1.0; y = p.1.1 } }) (λ _. refl)

-- the slot has a box, which has a point in common with this one
pub record MeetsAt (boxes : map.FinMap nat_cmp Box) (box : Box) (slot : ℕ) : Type 0 where
  pub own : Box
  pub is : map.get boxes slot ≡ Some own
  pub common : HaveCommonPoint own box

-- just the slots whose boxes meet this one, rising
pub record AreMeeting (boxes : map.FinMap nat_cmp Box) (box : Box) (slots : List ℕ) : Type 0 where
  pub rising : AllPairs ◌<◌ slots
  pub just : (slot : ℕ) → Contains slots slot ↔ MeetsAt boxes box slot
