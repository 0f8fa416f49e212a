-- Pairs that break the level rule, as a search comes by them.
use Rattle.std.specs.Prelude.{◌≡◌, ◌<◌, ℕ, List, slice_index_or}
use Rattle.std.specs.FinMap as map
use Rattle.std.specs.Ordering.{nat_cmp}
use Rattle.rd_plane.specs.Bounds.{Box}
use Rattle.level_rules.specs.declared.item.LevelItem.{LevelItem}
use Rattle.level_rules.specs.Levels.{BreakLevels, Stays, pair_of}

-- the two break the rule, and are this pair
pub record IsPairOf (x y : LevelItem) (pair : List ℕ × List ℕ) : Type 0 where
  pub breaks : BreakLevels x y
  pub is : pair ≡ pair_of x.ident y.ident

-- the object at i and one before it
pub record PairsEarlier (objects : List LevelItem) (i : ℕ) (pair : List ℕ × List ℕ) : Type 0 where
  pub other : ℕ
  pub before : other < i
  pub is : (d : LevelItem) → IsPairOf (slice_index_or objects other d) (slice_index_or objects i d) pair

-- the object and a mate that stays
pub record PairsMate (item : LevelItem) (mates : List LevelItem) (index : map.FinMap nat_cmp Box) (leaving : List (List ℕ))
    (pair : List ℕ × List ℕ) : Type 0 where
  pub mate : LevelItem
  pub stays : Stays mates index leaving mate
  pub is : IsPairOf item mate pair
