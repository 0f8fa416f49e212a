-- How many objects a holder has once the mutations of a message are applied.
use Rattle.std.proofs.Common.{◌≡◌, ◌∙◌, ℕ, refl, sym, ap, arith, ◌+◌, inl, inr, List, [], ◌∷◌, ◌++◌, length, map, subst}
use Rattle.std.specs.Prelude.{true, false, Bool, not, ◌||◌, ◌≢◌, cond, count_by, filter, None}
use Rattle.std.specs.List.{All, AllPairs, Contains, flat_map}
use Rattle.std.specs.Str.{bytes_eq}
use Rattle.std.proofs.lemmas.Bool.{cases_Bool}
use Rattle.std.proofs.lemmas.List.{length-append}
use Rattle.std.proofs.lemmas.List.Elements.{All-contains, All-tail}
use Rattle.std.proofs.lemmas.Slice.Eq.{bytes_eq-Decides}
use Rattle.rd_plane.proofs.Members.{contains_cases}
use Rattle.message_text.specs.declared.message.Message.{Message}
use Rattle.level_rules.specs.declared.item.LevelItem.{LevelItem}
use Rattle.local_check.specs.Maps.{HolderParts, leaves, staying}
use Rattle.local_check.proofs.Counting.{count_cons}
use Rattle.local_check.proofs.Staying.{any_to}
use Rattle.map_rules.specs.After.{after}
use Rattle.map_rules.specs.Changes.{change_of, leaving_by}
use Rattle.map_rules.specs.Good.{Good}
use Rattle.map_rules.specs.Rules.{MutationsRule}
use Rattle.map_rules.specs.State.{State, parts_now}
use Rattle.map_rules.proofs.Changing.{map_then}
use Rattle.map_rules.proofs.Lists.{pairs_head, pairs_tail}
use Rattle.map_rules.proofs.RightChange.{Apart, leaving_current, leaving_differ, out_map, parts_differ}
use Rattle.map_rules.proofs.Ruled.{all_fine, all_once}

-- ---- tests
-- those that fail a test and those that pass it are all
split_count : {X : Type 0} (p : X → Bool) (xs : List X) → length (filter (λ x. not (p x)) xs) + count_by p xs ≡ length xs
split_count p [] = refl
split_count {X} p (x ∷ xs) =
    let rest : List X = filter (λ y. not (p y)) xs in
    elim (cases_Bool (p x)) [
      | inl t ↦ omega (
        arith,
        count_cons p x xs,
        ap {B = ℕ} (λ (b : Bool). cond b 1 0) t,
        ap (λ (b : Bool). length (cond (not b) (x ∷ rest) rest)) t,
        split_count p xs,
      )
      | inr t ↦ omega (
        arith,
        count_cons p x xs,
        ap {B = ℕ} (λ (b : Bool). cond b 1 0) t,
        ap (λ (b : Bool). length (cond (not b) (x ∷ rest) rest)) t,
        split_count p xs,
      )
    ]

none_count : {X : Type 0} (xs : List X) → count_by (λ x. false) xs ≡ 0
none_count [] = refl
none_count (x ∷ xs) = count_cons (λ y. false) x xs ∙ omega (arith, none_count xs)

-- where none passes both, those that pass either are those that pass the one and those that pass the other
either_count : {X : Type 0} (p q : X → Bool) (xs : List X) → ((x : X) → p x ≡ true → q x ≡ true → ⊥)
    → count_by (λ x. p x || q x) xs ≡ count_by p xs + count_by q xs
either_count p q [] n = refl
either_count p q (x ∷ xs) n =
    omega (arith, count_cons (λ y. p y || q y) x xs, count_cons p x xs, count_cons q x xs, one (p x) (q x) (n x), either_count p q xs n)
  where
    one : (a b : Bool) → (a ≡ true → b ≡ true → ⊥) → cond (a || b) 1 0 ≡ cond a 1 0 + cond b 1 0
    one true true h = absurd (h refl refl)
    one true false h = refl
    one false true h = refl
    one false false h = refl

-- ---- identifications
abbrev has : List ℕ → LevelItem → Bool
has i p = bytes_eq p.ident i

abbrev names : List LevelItem → List (List ℕ)
names xs = map (λ (p : LevelItem). p.ident) xs

has_not : (i : List ℕ) (x : LevelItem) → i ≢ x.ident → has i x ≡ false
has_not i x d = elim (cases_Bool (has i x)) [ inl t ↦ absurd (d (sym ((bytes_eq-Decides x.ident i).0 t))) | inr t ↦ t ]

none_has : (i : List ℕ) (xs : List LevelItem) → All (λ (x : LevelItem). i ≢ x.ident) xs → count_by (has i) xs ≡ 0
none_has i [] a = refl
none_has i (x ∷ xs) a = omega (
  arith,
  count_cons (has i) x xs,
  ap {B = ℕ} (λ (b : Bool). cond b 1 0) (has_not i x (a 0 x (omega arith))),
  none_has i xs (All-tail (λ (y : LevelItem). i ≢ y.ident) x xs a),
)

-- of objects that differ, one has an identification that is there
one_has : (i : List ℕ) (xs : List LevelItem) → AllPairs Apart xs → Contains (names xs) i → count_by (has i) xs ≡ 1
one_has i [] p c = absurd (omega (arith, c.1))
one_has i (x ∷ xs) p c = elim (contains_cases x.ident i (names xs) c) [
  | inl e ↦ omega (
    arith,
    count_cons (has i) x xs,
    ap {B = ℕ} (λ (b : Bool). cond b 1 0) ((bytes_eq-Decides x.ident i).1 e),
    none_has i xs (subst (λ (j : List ℕ). All (λ (y : LevelItem). j ≢ y.ident) xs) e (pairs_head Apart x xs p)),
  )
  | inr d ↦ let k = out_map (λ (y : LevelItem). y.ident) xs i d in omega (
    arith,
    count_cons (has i) x xs,
    ap {B = ℕ} (λ (b : Bool). cond b 1 0)
        (has_not i x (λ e. All-contains (Apart x) xs k.0 (pairs_head Apart x xs p) k.1 (sym e ∙ sym k.2))),
    one_has i xs (pairs_tail Apart x xs p) d,
  )
]

leaving_count : (is : List (List ℕ)) (xs : List LevelItem) → AllPairs Apart xs → AllPairs ◌≢◌ is → All (λ i. Contains (names xs) i) is
    → count_by (leaves is) xs ≡ length is
leaving_count [] xs p d a = none_count xs
leaving_count (i ∷ is) xs p d a =
    let both : count_by (leaves (i ∷ is)) xs ≡ count_by (has i) xs + count_by (leaves is) xs = either_count (has i) (leaves is) xs
    (λ x t u. All-contains (λ j. i ≢ j) is x.ident (pairs_head ◌≢◌ i is d) (any_to x.ident is u) (sym ((bytes_eq-Decides x.ident i).0 t)))
    in
    omega (
      arith,
      both,
      one_has i xs p (a 0 i (omega arith)),
      leaving_count is xs p (pairs_tail ◌≢◌ i is d) (All-tail (λ j. Contains (names xs) j) i is a),
    )

-- what stays and what comes, with what leaves, are what was there and what comes
counted : (leaving : List (List ℕ)) (parts coming : List LevelItem) → AllPairs Apart parts → AllPairs ◌≢◌ leaving
    → All (λ i. Contains (names parts) i) leaving
    → length (staying leaving parts ++ coming) + length leaving ≡ length parts + length coming
counted leaving parts coming p d a
    = omega (arith, length-append (staying leaving parts) coming, split_count (leaves leaving) parts, leaving_count leaving parts p d a)

-- so many objects the holder has once the mutations are applied
pub objects_then : (s : State) (m : Message) → Good s → MutationsRule s.versions m [] m.mutations None
    → length (parts_now m.holder (after s m).versions) + length (change_of m).leaving ≡ length (parts_now m.holder s.versions) + length
    (change_of m).coming
objects_then s m g mutations = ap (λ (x : HolderParts). length x.parts + length (change_of m).leaving) (map_then s m)
    ∙ counted (flat_map leaving_by m.mutations) (parts_now m.holder s.versions) (change_of m).coming
    (parts_differ m.holder s.versions g.in_turn)
    (leaving_differ m.mutations (all_once s.versions m [] m.mutations mutations))
    (leaving_current s m (all_fine s.versions m [] m.mutations mutations))
