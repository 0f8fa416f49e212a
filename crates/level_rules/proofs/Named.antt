-- A set of identifications, and searches that hang on who is in it.
use Rattle.std.proofs.Common.{◌≡◌, ℕ, refl, sym, ap, ◌∙◌, ◌+◌, ◌<◌, inl, inr, List, [], ◌∷◌, ◌++◌, length, get_or, take}
use Rattle.std.specs.Prelude.{◌↔◌, true, false, Bool, ◌||◌, cond, Option, Some, None, MatchOption}
use Rattle.std.specs.Cmp.{Equal-is, eq_by_cmp_equiv}
use Rattle.std.specs.Cmp.Lexicographic.{slice_cmp}
use Rattle.std.specs.FinMap as map
use Rattle.std.specs.FinMap.{slice_cmp-IsAntisymmetric, nat_cmp-IsAntisymmetric}
use Rattle.std.specs.List.{Contains, list_any}
use Rattle.std.specs.Ordering.{eq_by_cmp, nat_cmp}
use Rattle.std.proofs.lemmas.Cmp.{nat_list_cmp_total}
use Rattle.std.proofs.lemmas.List.{take_more}
use Rattle.std.proofs.lemmas.List.Folds.{list_any-append}
use Rattle.std.proofs.lemmas.Map.Views.{list_any-from_Contains, Contains-from_any}
use Rattle.rd_plane.specs.Bounds.{Box}
use Rattle.rd_plane.specs.Order.{IsLeast}
use Rattle.level_rules.specs.declared.item.LevelItem.{LevelItem}
use Rattle.level_rules.specs.Levels.{BreaksNew, Stays, pair_cmp}
use Rattle.level_rules.proofs.PairOrder.{Pair}

abbrev same : List ℕ → List ℕ → Bool
same x y = eq_by_cmp (slice_cmp nat_cmp) x y

same_is : (x y : List ℕ) → same x y ≡ true → x ≡ y
same_is x y h = slice_cmp-IsAntisymmetric nat_cmp-IsAntisymmetric x y ((Equal-is (slice_cmp nat_cmp x y)).0 h)

pub named_so : (q : List ℕ) (ks : List (List ℕ))
    → (list_any (same q) ks ≡ true → Contains ks q) × (Contains ks q → list_any (same q) ks ≡ true)
named_so q ks = (Contains-from_any same_is q ks, list_any-from_Contains (eq_by_cmp_equiv nat_list_cmp_total) q ks)

joined : (b a : Bool) → cond b true a ≡ (a || (b || false))
joined true true = refl
joined true false = refl
joined false true = refl
joined false false = refl

pub set_more : (idents : List (List ℕ)) (i : ℕ) (x q : List ℕ) (old new : Bool) → i < length idents → get_or idents i x ≡ x
    → old ≡ list_any (same q) (take i idents) → new ≡ cond (same x q) true old → new ≡ list_any (same q) (take (i + 1) idents)
set_more idents i x q old new l e o n = n ∙ ap (λ (b : Bool). cond b true old)
    ((eq_by_cmp_equiv nat_list_cmp_total).symm x q) ∙ ap (λ (a : Bool). cond (same q x) true a) o ∙ joined (same q x)
    (list_any (same q) (take i idents))
    ∙ sym (ap (list_any (same q)) (take_more idents i x l ∙ ap (λ (y : List ℕ). take i idents ++ y ∷ []) e) ∙ list_any-append (same q)
    (take i idents) (x ∷ []))

pub set_whole : (idents keys : List (List ℕ)) → ((q : List ℕ) → list_any (same q) keys ≡ list_any (same q) idents) → (q : List ℕ)
    → Contains keys q ↔ Contains idents q
set_whole idents keys h q
    = (λ c. (named_so q idents).0 (sym (h q) ∙ (named_so q keys).1 c), λ c. (named_so q keys).0 (h q ∙ (named_so q idents).1 c))

-- ---- who leaves, by the set or by the list
stays_so : (mates : List LevelItem) (index : map.FinMap nat_cmp Box) (one other : List (List ℕ)) (mate : LevelItem)
    → ((q : List ℕ) → Contains other q → Contains one q) → Stays mates index one mate → Stays mates index other mate
stays_so mates index one other mate h s = record { slot = s.slot; box = s.box; is = s.is; at = s.at; kept = λ c. s.kept (h mate.ident c) }

breaks_so : (items mates : List LevelItem) (index : map.FinMap nat_cmp Box) (one other : List (List ℕ)) (pair : Pair)
    → ((q : List ℕ) → Contains other q → Contains one q) → BreaksNew items mates index one pair → BreaksNew items mates index other pair
breaks_so items mates index one other pair h b = record {
  case = elim b.case [
    | inl k ↦ inl k
    | inr k ↦ inr (k.0, k.1, k.2, stays_so mates index one other k.1 h k.3, k.4, k.5)
  ];
}

pub by_list : (items mates : List LevelItem) (index : map.FinMap nat_cmp Box) (keys idents : List (List ℕ)) (found : Option Pair)
    → ((q : List ℕ) → Contains keys q ↔ Contains idents q) →
    MatchOption found ((pair : Pair) → BreaksNew items mates index keys pair → ⊥) (IsLeast pair_cmp (BreaksNew items mates index keys))
    → MatchOption found ((pair : Pair) → BreaksNew items mates index idents pair → ⊥)
    (IsLeast pair_cmp (BreaksNew items mates index idents))
by_list items mates index keys idents None h n = λ pair b. n pair (breaks_so items mates index idents keys pair (λ q. (h q).0) b)
by_list items mates index keys idents (Some p) h l = record {
  has = breaks_so items mates index keys idents p (λ q. (h q).1) l.has;
  least = λ b u. l.least b (breaks_so items mates index idents keys b (λ q. (h q).0) u);
}
