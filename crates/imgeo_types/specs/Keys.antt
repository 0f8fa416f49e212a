-- The order of identifications as keys of a map, where no order is asked.
use Rattle.std.specs.Prelude.{◌≡◌, ℕ, List, take, drop}
use Rattle.std.proofs.Common.{◌∙◌, refl, sym, ap}
use Rattle.std.specs.Ordering.{nat_cmp, is_eq, ordering_then, eq_by_cmp}
use Rattle.std.specs.declared.cmp.Ordering.{Ordering}
use Rattle.std.specs.declared.cmp.Ordering.TheVariants.{Less, Equal, Greater}
use Rattle.std.specs.Cmp.{IsTotalOrder}
use Rattle.std.specs.Cmp.Lexicographic.{slice_cmp, nat_list_cmp_total, texts_ties, bytes_decides}
use Rattle.std.specs.Str.{bytes_eq}
use Rattle.std.proofs.lemmas.Cmp.{on_total, then_total, tied_itself}
use Rattle.imgeo_types.specs.Eights.{eight_cmp}

-- by the last eight bytes, and by all where these are alike
unfoldable pub key_cmp : List ℕ → List ℕ → Ordering
key_cmp x y = ordering_then (eight_cmp 30 x y) (slice_cmp nat_cmp x y)

-- this is an order
pub key_cmp_total : IsTotalOrder key_cmp
unfolding key_cmp
key_cmp_total = then_total (on_total (λ (x : List ℕ). take 8 (drop 30 x)) nat_list_cmp_total) nat_list_cmp_total

-- the second decides what is level, where the first is level too
level_then : (a b : Ordering) → (b ≡ Equal → a ≡ Equal) → is_eq b ≡ is_eq (ordering_then a b)
level_then Less Less h = refl
level_then Less Equal h = sym (ap is_eq (h refl))
level_then Less Greater h = refl
level_then Equal b h = refl
level_then Greater Less h = refl
level_then Greater Equal h = sym (ap is_eq (h refl))
level_then Greater Greater h = refl

eight_level : (x y : List ℕ) → slice_cmp nat_cmp x y ≡ Equal → eight_cmp 30 x y ≡ Equal
eight_level x y e =
    let same = (bytes_decides x y).0 (texts_ties x y ∙ ap is_eq e) in
    sym (ap (eight_cmp 30 x) same) ∙ tied_itself nat_list_cmp_total (take 8 (drop 30 x))

-- it tells apart what differs
pub key_ties : (x y : List ℕ) → bytes_eq x y ≡ eq_by_cmp key_cmp x y
unfolding key_cmp
key_ties x y = texts_ties x y ∙ level_then (eight_cmp 30 x y) (slice_cmp nat_cmp x y) (eight_level x y)
