-- All that the register has can be printed.
use Rattle.std.proofs.Common.{◌≡◌, ◌≢◌, ◌≤◌, ◌&&◌, ℕ, ℤ, pos, negsuc, int_le, Bool, true, false, cond, List, [], ◌∷◌, length, get_or, refl, ap, arith}
use Rattle.std.specs.Prelude.{Option, None}
use Rattle.std.specs.List.{All}
use Rattle.std.specs.Option.{option_or}
use Rattle.std.proofs.lemmas.Int.{ints}
use Rattle.std.proofs.lemmas.Bool.Decides.{nat_tests}
use Rattle.std.proofs.lemmas.List.Elements.{All-tail, All-cons, All-filter}
use Rattle.rd_plane.specs.Plane.{Vertex}
use Rattle.rd_plane.specs.Shapes.{IsSoundShape}
use Rattle.imgeo_types.specs.declared.fault.ItemFault.{ItemFault}
use Rattle.imgeo_types.specs.declared.fault.ItemFault.TheVariants.{Level}
use Rattle.imgeo_types.specs.declared.item.Item.{Item}
use Rattle.imgeo_types.specs.ItemRule.{item_fault, is_level, unless}
use Rattle.message_text.specs.Printable.{IsPrintableShape}
use Rattle.message_text.specs.Spelling.{IsShortLevel}
use Rattle.version_history.specs.declared.version.Version.{Version}
use Rattle.version_history.specs.Moments.{placed, in_order, holds, holds_at, versions_at, versions_of}
use Rattle.version_history.specs.Versions.{has_ident}
use Rattle.area_book.specs.declared.version.AreaVersion.{AreaVersion}
use Rattle.map_rules.specs.SoundVersions.{HasSoundShape, HasSoundArea, HasRightItem}
use Rattle.moment_query.specs.Printed.{IsPrintableArea, IsPrintableVersion}
use Rattle.moment_query.specs.Queries.{areas_at}

some_corner : (ring : List Vertex) → 3 ≤ length ring → ring ≢ []
some_corner ring three e = let none = ap length e in omega (arith, three, none)

shape_printable : (rings : List (List Vertex)) → IsSoundShape rings → IsPrintableShape rings
shape_printable rings s = record { some = s.some; points = λ k d h. some_corner (get_or rings k d) (s.corners k d h).three }

each : (x y : Bool) → (x && y) ≡ true → (x ≡ true) × (y ≡ true)
each x y p = grind arith

tested : (t : Bool) (next : Option ItemFault) → option_or (unless t Level) next ≡ None → t ≡ true
tested true next h = refl
tested false next h = cc

short_by : (level : ℤ) → int_le (negsuc 98) level ≡ true → int_le level (pos 99) ≡ true → IsShortLevel level
short_by (pos n) h k = let within : n ≤ 99 = grind (arith, nat_tests) in (omega (arith, ints), omega (arith, ints))
short_by (negsuc n) h k = let within : n ≤ 98 = grind (arith, nat_tests) in (omega (arith, ints), omega (arith, ints))

short : (item : Item) → item_fault item ≡ None → IsShortLevel item.level
short item h = let both = each (int_le (negsuc 98) item.level) (int_le item.level (pos 99)) (tested (is_level item.level) _ h) in
    short_by item.level both.0 both.1

version_printable : (v : Version) → HasSoundShape v → HasRightItem v → IsPrintableVersion v
version_printable v s r = record { shape = shape_printable v.item.rings s; level = short v.item r }

pub versions_printable : (vs : List Version) → All HasSoundShape vs → All HasRightItem vs → All IsPrintableVersion vs
versions_printable vs s r = λ k d h. version_printable (get_or vs k d) (s k d h) (r k d h)

pub areas_printable : (areas : List AreaVersion) → All HasSoundArea areas → All IsPrintableArea areas
areas_printable areas s = λ k d h. λ j e i. shape_printable _ (s k d h j e i)

module _ {X : Type 0} (P : X → Type 0) (lt : X → X → Bool) where
  all_placed : (a : X) (l : List X) → P a → All P l → All P (placed lt a l)
  unfolding placed
  all_placed a [] h all = All-cons P a [] h all
  all_placed a (b ∷ r) h all = by_test (all_placed a r h (All-tail P b r all)) (lt b a)
    where
      by_test : All P (placed lt a r) → (t : Bool) → All P (cond t (b ∷ placed lt a r) (a ∷ b ∷ r))
      by_test behind true = All-cons P b (placed lt a r) (all 0 b (omega arith)) behind
      by_test behind false = All-cons P a (b ∷ r) h all

  -- what all have, all have in order
  pub all_in_order : (l : List X) → All P l → All P (in_order lt l)
  unfolding in_order
  all_in_order [] all = all
  all_in_order (a ∷ l) all = all_placed a (in_order lt l) (all 0 a (omega arith)) (all_in_order l (All-tail P a l all))

pub versions_at_printable : (moment : ℤ) (vs : List Version) → All HasSoundShape vs → All HasRightItem vs
    → All IsPrintableVersion (versions_at moment vs)
versions_at_printable moment vs s r
    = all_in_order IsPrintableVersion _ _ (All-filter (holds_at moment) IsPrintableVersion vs (versions_printable vs s r))

pub versions_of_printable : (ident : List ℕ) (vs : List Version) → All HasSoundShape vs → All HasRightItem vs
    → All IsPrintableVersion (versions_of ident vs)
versions_of_printable ident vs s r = All-filter (has_ident ident) IsPrintableVersion vs (versions_printable vs s r)

pub areas_at_printable : (moment : ℤ) (areas : List AreaVersion) → All HasSoundArea areas → All IsPrintableArea (areas_at moment areas)
areas_at_printable moment areas s = all_in_order IsPrintableArea _ _
    (All-filter (λ (a : AreaVersion). holds moment a.since a.until) IsPrintableArea areas (areas_printable areas s))
