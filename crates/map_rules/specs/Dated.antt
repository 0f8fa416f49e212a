-- What holds of the moments of what a holder has.
use Rattle.std.specs.Prelude.{◌≡◌, ℕ, ℤ, ◌≤ℤ◌, List, Option, Some, IfSome}
use Rattle.area_book.specs.declared.version.AreaVersion.{AreaVersion}
use Rattle.map_rules.specs.declared.last.LastMessage.{LastMessage}
use Rattle.map_rules.specs.State.{moment_of}

-- the holder has a last moment, and what is its own neither begins nor ends later
pub record IsDated (last : List LastMessage) (holder : List ℕ) (since : ℤ) (until : Option ℤ) : Type 0 where
  pub moment : ℤ
  pub is : moment_of holder last ≡ Some moment
  pub begun : since ≤ℤ moment
  pub ended : IfSome until (λ u. u ≤ℤ moment)

-- so it is with a version of an area
abbrev pub IsDatedArea : List LastMessage → AreaVersion → Type 0
IsDatedArea last a = IsDated last a.holder a.since a.until
