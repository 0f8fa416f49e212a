-- Objects that the rule speaks of, and the index of their boxes, object by object.
use Rattle.std.proofs.Common.{◌≡◌, ℕ, refl, sym, ap, ◌∙◌, arith, ◌+◌, ◌<◌, ◌≤◌, inl, inr, List, length, get_or, subst}
use Rattle.std.specs.Prelude.{Bool, true, false, cond, Some, None, is_some}
use Rattle.std.specs.FinMap as fin
use Rattle.std.specs.FinMap.{get-empty, get-insert}
use Rattle.std.specs.Cmp.{nat_cmp_total, nat_cmp_is}
use Rattle.std.specs.Ordering.{nat_cmp, eq_by_cmp}
use Rattle.std.specs.declared.cmp.Ordering.TheVariants.{Less, Equal, Greater}
use Rattle.std.proofs.lemmas.Bool.{cases_eq, cases_lt}
use Rattle.std.proofs.lemmas.List.{get_or_default}
use Rattle.rd_plane.specs.Bounds.{Box, IsLeastBox}
use Rattle.part_shape.specs.Faults.{corners_of}
use Rattle.level_rules.specs.declared.item.LevelItem.{LevelItem}
use Rattle.level_rules.specs.Levels.{BreakLevels, HasBoxes, IsIndexOf, IsLevelled}

-- of two objects that break the rule it speaks of both
pub first_levelled : (x y : LevelItem) → BreakLevels x y → IsLevelled x
first_levelled x y b = (b.off_ground, b.first)

pub second_levelled : (x y : LevelItem) → BreakLevels x y → IsLevelled y
second_levelled x y b = ((λ q. b.off_ground (b.level ∙ q)), b.second)

-- ---- the index, object by object
none_some : {X : Type 0} {x : X} → None ≡ Some x → ⊥
none_some z = cc

pub boxes_begin : (objects : List LevelItem) (index : fin.FinMap nat_cmp Box) → index ≡ fin.empty → HasBoxes objects index 0
boxes_begin objects index q = record {
  boxes = λ slot box g. let z : None ≡ Some box = sym (get-empty nat_cmp slot) ∙ sym (ap (λ m. fin.get m slot) q) ∙ g in absurd
      (none_some z);
  whole = λ slot l h. absurd (omega (arith, l));
}

-- an object that the rule does not speak of has no box
pub boxes_skip : (objects : List LevelItem) (index : fin.FinMap nat_cmp Box) (i : ℕ) (x : LevelItem) → get_or objects i x ≡ x
    → (IsLevelled x → ⊥)
    → HasBoxes objects index i → HasBoxes objects index (i + 1)
boxes_skip objects index i x q n f = record {
  boxes = λ slot box g. let k = f.boxes slot box g in (omega (arith, k.0), k.1);
  whole = λ slot l h. elim (cases_lt slot i) [
    | inl m ↦ f.whole slot m h
    | inr m ↦ let s : slot ≡ i = omega (arith, l, m) in absurd (n (subst IsLevelled (ap (λ k. get_or objects k x) s ∙ q) (h x)))
  ];
}

tied : (q i : ℕ) → q ≡ i → eq_by_cmp nat_cmp q i ≡ true
tied q i e = rw (sym (nat_cmp_is q i Equal e)) refl

untied : (q i : ℕ) → (q ≡ i → ⊥) → eq_by_cmp nat_cmp q i ≡ false
untied q i d = elim (cases_lt q i) [
  | inl l ↦ rw (sym (nat_cmp_is q i Less l)) refl
  | inr l ↦ elim (cases_lt i q) [ inl m ↦ rw (sym (nat_cmp_is q i Greater m)) refl | inr m ↦ absurd (d (omega (arith, l, m))) ]
]

pub boxes_more : (objects : List LevelItem) (old new : fin.FinMap nat_cmp Box) (i : ℕ) (x : LevelItem) (own : Box) → i < length objects
    → ((d : LevelItem) → IsLevelled (get_or objects i d)) → IsLeastBox (corners_of (get_or objects i x).shape) own
    → new ≡ fin.insert old i own → HasBoxes objects old i → HasBoxes objects new (i + 1)
boxes_more objects old new i x own l s b e f = record {
  boxes = λ slot box g. elim (cases_eq slot i) [
    | inl t ↦ (
      omega (arith, t),
      λ d. (
        subst (λ k. IsLevelled (get_or objects k d)) (sym t) (s d),
        subst (λ (r : Box). IsLeastBox (corners_of (get_or objects slot d).shape) r) (same own box (sym (here slot t) ∙ g))
            (subst (λ (y : LevelItem). IsLeastBox (corners_of y.shape) own)
            (sym (ap (λ n. get_or objects n d) t ∙ get_or_default objects i d x l)) b),
      ),
    )
    | inr d ↦ let k = f.boxes slot box (sym (elsewhere slot d) ∙ g) in (omega (arith, k.0), k.1)
  ];
  whole = λ slot m h. elim (cases_eq slot i) [
    | inl t ↦ ap is_some (here slot t)
    | inr d ↦ ap is_some (elsewhere slot d) ∙ f.whole slot (omega (arith, m, d)) h
  ];
}
  where
    same : (a c : Box) → Some a ≡ Some c → a ≡ c
    same a c h = cc

    got : (slot : ℕ) → fin.get new slot ≡ cond (eq_by_cmp nat_cmp slot i) (Some own) (fin.get old slot)
    got slot = ap (λ m. fin.get m slot) e ∙ get-insert nat_cmp_total old i own slot

    here : (slot : ℕ) → slot ≡ i → fin.get new slot ≡ Some own
    here slot t = got slot ∙ ap (λ (u : Bool). cond u (Some own) (fin.get old slot)) (tied slot i t)

    elsewhere : (slot : ℕ) → (slot ≡ i → ⊥) → fin.get new slot ≡ fin.get old slot
    elsewhere slot d = got slot ∙ ap (λ (u : Bool). cond u (Some own) (fin.get old slot)) (untied slot i d)

-- it is an index of the objects
pub boxes_index : (objects : List LevelItem) (index : fin.FinMap nat_cmp Box) (to : ℕ) → to ≤ length objects → HasBoxes objects index to
    → IsIndexOf objects index
boxes_index objects index to l f slot box g = let k = f.boxes slot box g in (omega (arith, k.0, l), λ d. (k.1 d).1)
