-- Places: what is emptied, what is put behind, and what is found.
use Rattle.std.proofs.Common.{◌≡◌, ◌≢◌, ◌<◌, ◌≤◌, ◌+◌, ℕ, zero, suc, Bool, true, false, cond, not, List, [], ◌∷◌, ◌++◌, map, length, get_or, take, refl, sym, ap, ◌∙◌, arith, inl, inr, subst}
use Rattle.std.specs.Borrow.{Bor}
use Rattle.std.specs.Option.{option_copied}
use Rattle.std.specs.Prelude.{◌⊎◌, IfSome, ◌||◌, Option, Some, None, option_to_list, slice_index_or, slice_set, reverse}
use Rattle.std.specs.List.{AllPairs, Contains, list_any}
use Rattle.std.specs.Str.{bytes_eq}
use Rattle.std.proofs.lemmas.Bool.{cases_Bool}
use Rattle.std.proofs.lemmas.List.{append_assoc, get_or_default, length-append, reverse-append, take_more}
use Rattle.std.proofs.lemmas.List.Concat.{flat_map-append}
use Rattle.std.proofs.lemmas.Slice.Eq.{bytes_eq-Decides}
use Rattle.rd_plane.proofs.Members.{contains_cases, contains_head, contains_tail}
use Rattle.level_rules.specs.declared.item.LevelItem.{LevelItem}
use Rattle.local_check.specs.Borders.{ident_in}
use Rattle.local_check.specs.Maps.{leaves, staying}
use Rattle.local_check.specs.declared.numbers.Numbers.{Numbers}
use Rattle.local_check.specs.declared.places.Places.{Places}
use Rattle.local_check.specs.Numbered.{place_at}
use Rattle.local_check.specs.Placed.{IsPlaced, at_place, cleared, present}

-- ---- places and the objects at them
pub present-append : (xs ys : List (Option LevelItem)) → present (xs ++ ys) ≡ present xs ++ present ys
present-append xs ys = flat_map-append option_to_list xs ys

pub contains_at : (slots : List (Option LevelItem)) (p : LevelItem) → Contains (present slots) p → (k : ℕ) × (at_place slots k ≡ Some p)
contains_at [] p c = absurd (omega (arith, c.1))
contains_at (None ∷ rest) p c = let k = contains_at rest p c in (suc k.0, k.1)
contains_at (Some q ∷ rest) p c = elim (contains_cases q p (present rest) c) [
  | inl e ↦ (zero, ap (λ (x : LevelItem). Some x) e)
  | inr d ↦ let k = contains_at rest p d in (suc k.0, k.1)
]

pub at_contains : (slots : List (Option LevelItem)) (k : ℕ) (p : LevelItem) → at_place slots k ≡ Some p → Contains (present slots) p
at_contains [] k p h = cc
at_contains (None ∷ rest) zero p h = cc
at_contains (None ∷ rest) (suc k) p h = at_contains rest k p h
at_contains (Some q ∷ rest) zero p h
    = subst (λ (x : LevelItem). Contains (q ∷ present rest) x) (same q p h) (contains_head q (present rest))
  where
    same : (x y : LevelItem) → Some x ≡ Some y → x ≡ y
    same x y e = cc
at_contains (Some q ∷ rest) (suc k) p h = contains_tail q p (present rest) (at_contains rest k p h)

pub at_within : (slots : List (Option LevelItem)) (k : ℕ) (p : LevelItem) → at_place slots k ≡ Some p → k < length slots
at_within [] k p h = cc
at_within (x ∷ rest) zero p h = omega arith
at_within (x ∷ rest) (suc k) p h = omega (arith, at_within rest k p h)

-- ---- what is emptied
stays_there : (i : List ℕ) (q : LevelItem) → (q.ident ≡ i → ⊥) → cleared i (Some q) ≡ Some q
stays_there i q n = elim (cases_Bool (bytes_eq q.ident i)) [
  | inl t ↦ absurd (n ((bytes_eq-Decides q.ident i).0 t))
  | inr t ↦ ap (λ (b : Bool). cond b None (Some q)) t
]

goes : (i : List ℕ) (q : LevelItem) → q.ident ≡ i → cleared i (Some q) ≡ None
goes i q e = ap (λ (b : Bool). cond b None (Some q)) ((bytes_eq-Decides q.ident i).1 e)

one_cleared : (i : List ℕ) (x : Option LevelItem) → ((p : LevelItem) → x ≡ Some p → p.ident ≡ i → ⊥) → cleared i x ≡ x
one_cleared i None n = refl
one_cleared i (Some q) n = stays_there i q (n q refl)

pub none_cleared : (i : List ℕ) (slots : List (Option LevelItem)) → ((j : ℕ) (p : LevelItem) → at_place slots j ≡ Some p → p.ident ≡ i → ⊥)
    → map (cleared i) slots ≡ slots
none_cleared i [] n = refl
none_cleared i (x ∷ xs) n =
    ap (λ (y : Option LevelItem). y ∷ map (cleared i) xs) (one_cleared i x (λ p h e. n zero p h e))
    ∙ ap (λ (ys : List (Option LevelItem)). x ∷ ys) (none_cleared i xs (λ j p h e. n (suc j) p h e))

first_cleared : (i : List ℕ) (x : Option LevelItem) (p : LevelItem) → x ≡ Some p → p.ident ≡ i → cleared i x ≡ None
first_cleared i x p h e = ap (cleared i) h ∙ goes i p e

-- the place of the object alone is emptied, where no other object has its identification
pub cleared_is : (i : List ℕ) (slots : List (Option LevelItem)) (k : ℕ) (p : LevelItem) → at_place slots k ≡ Some p → p.ident ≡ i
    → ((j : ℕ) (q : LevelItem) → at_place slots j ≡ Some q → q.ident ≡ i → j ≡ k) → slice_set slots k None ≡ map (cleared i) slots
cleared_is i [] k p h e one = cc
cleared_is i (x ∷ xs) zero p h e one =
    sym (ap (λ (ys : List (Option LevelItem)). None ∷ ys) (none_cleared i xs (λ j q g f. zero_is_not (one (suc j) q g f))))
    ∙ sym (ap (λ (y : Option LevelItem). y ∷ map (cleared i) xs) (first_cleared i x p h e))
  where
    zero_is_not : {j : ℕ} → suc j ≡ 0 → ⊥
    zero_is_not u = omega (arith, u)
cleared_is i (x ∷ xs) (suc k) p h e one =
    ap (λ (ys : List (Option LevelItem)). x ∷ ys) (cleared_is i xs k p h e (λ j q g f. one_less (one (suc j) q g f)))
    ∙ sym (ap (λ (y : Option LevelItem). y ∷ map (cleared i) xs) (one_cleared i x (λ q g f. not_first (one zero q g f))))
  where
    one_less : {j : ℕ} → suc j ≡ suc k → j ≡ k
    one_less u = omega (arith, u)

    not_first : 0 ≡ suc k → ⊥
    not_first u = omega (arith, u)

pub cleared_at : (i : List ℕ) (slots : List (Option LevelItem)) (k : ℕ) (p : LevelItem) → at_place (map (cleared i) slots) k ≡ Some p
    → at_place slots k ≡ Some p
cleared_at i [] k p h = h
cleared_at i (x ∷ xs) zero p h = back x h
  where
    back : (y : Option LevelItem) → cleared i y ≡ Some p → y ≡ Some p
    back None g = g
    back (Some q) g = elim (cases_Bool (bytes_eq q.ident i)) [
      | inl t ↦ absurd (none_some (sym (ap (λ (b : Bool). cond b None (Some q)) t) ∙ g))
      | inr t ↦ sym (ap (λ (b : Bool). cond b None (Some q)) t) ∙ g
    ]
      where
        none_some : None ≡ Some p → ⊥
        none_some u = cc
cleared_at i (x ∷ xs) (suc k) p h = cleared_at i xs k p h

-- ---- who stays
pub staying_none : (xs : List LevelItem) → staying [] xs ≡ xs
staying_none [] = refl
staying_none (x ∷ xs) = ap (λ (ys : List LevelItem). x ∷ ys) (staying_none xs)

any-append : (f : List ℕ → Bool) (is : List (List ℕ)) (i : List ℕ) → list_any f (is ++ i ∷ []) ≡ list_any f is || list_any f (i ∷ [])
any-append f [] i = refl
any-append f (k ∷ ks) i = elim (cases_Bool (f k)) [
  | inl t ↦ rw t refl
  | inr t ↦ rw t (any-append f ks i)
]

abbrev keep_if : Bool → LevelItem → List LevelItem → List LevelItem
keep_if gone x xs = cond (not gone) (x ∷ xs) xs

pub staying_more : (is : List (List ℕ)) (i : List ℕ) (xs : List LevelItem) → staying (is ++ i ∷ []) xs ≡ staying (i ∷ []) (staying is xs)
staying_more is i [] = refl
staying_more is i (x ∷ xs) =
    ap (λ (b : Bool). keep_if b x (staying (is ++ i ∷ []) xs)) (any-append (bytes_eq x.ident) is i)
    ∙ ap (λ (ys : List LevelItem). keep_if (leaves is x || leaves (i ∷ []) x) x ys) (staying_more is i xs)
    ∙ both (leaves is x) (staying is xs)
  where
    both : (b : Bool) (ys : List LevelItem) → keep_if (b || leaves (i ∷ []) x) x (staying (i ∷ []) ys) ≡ staying (i ∷ []) (keep_if b x ys)
    both true ys = refl
    both false ys = refl

pub present_cleared : (i : List ℕ) (slots : List (Option LevelItem)) → present (map (cleared i) slots) ≡ staying (i ∷ []) (present slots)
present_cleared i [] = refl
present_cleared i (None ∷ xs) = present_cleared i xs
present_cleared i (Some p ∷ xs) = elim (cases_Bool (bytes_eq p.ident i)) [
  | inl t ↦ ap (λ (b : Bool). option_to_list (cond b None (Some p)) ++ present (map (cleared i) xs)) t
      ∙ present_cleared i xs
      ∙ sym (ap (λ (b : Bool). keep_if (b || false) p (staying (i ∷ []) (present xs))) t)
  | inr t ↦ ap (λ (b : Bool). option_to_list (cond b None (Some p)) ++ present (map (cleared i) xs)) t
      ∙ ap (λ (ys : List LevelItem). p ∷ ys) (present_cleared i xs)
      ∙ sym (ap (λ (b : Bool). keep_if (b || false) p (staying (i ∷ []) (present xs))) t)
]

-- ---- what is put behind
pub at_append : (xs : List (Option LevelItem)) (y : Option LevelItem) (k : ℕ) (p : LevelItem) → at_place (xs ++ y ∷ []) k ≡ Some p
    → (at_place xs k ≡ Some p) ⊎ ((k ≡ length xs) × (y ≡ Some p))
at_append [] y zero p h = inr (refl, h)
at_append [] y (suc k) p h = inl h
at_append (x ∷ xs) y zero p h = inl h
at_append (x ∷ xs) y (suc k) p h = elim (at_append xs y k p h) [
  | inl e ↦ inl e
  | inr e ↦ inr (omega (arith, e.0), e.1)
]

-- an identification that comes later stands at none before it
pub fresh : (xs : List LevelItem) (x : LevelItem) (ys : List LevelItem) → AllPairs ◌≢◌ (map ident_in (xs ++ x ∷ ys)) → (p : LevelItem)
    → Contains xs p
    → p.ident ≡ x.ident → ⊥
fresh [] x ys h p c e = absurd (omega (arith, c.1))
fresh (y ∷ xs) x ys h p c e = elim (contains_cases y p xs c) [
  | inl f ↦ first (ap ident_in f ∙ e)
  | inr d ↦ fresh xs x ys (λ i j q lt within. h (suc i) (suc j) q (omega (arith, lt)) (omega (arith, within))) p d e
]
  where
    here : (zs : List LevelItem)
        → (k : ℕ) × (k < length (map ident_in (zs ++ x ∷ ys))) × (slice_index_or (map ident_in (zs ++ x ∷ ys)) k [] ≡ x.ident)
    here [] = (zero, omega arith, refl)
    here (z ∷ zs) = let k = here zs in (suc k.0, omega (arith, k.1), k.2)

    first : y.ident ≡ x.ident → ⊥
    first f = let k = here xs in h zero (suc k.0) [] (omega arith) (omega (arith, k.1)) (f ∙ sym k.2)

-- ---- steps
pub cleared_more : (old new : Places) (leaving : List (List ℕ)) (i : ℕ) (x : List ℕ) (from : List LevelItem) → i < length leaving
    → get_or leaving i x ≡ x
    → new.slots.items ≡ map (cleared x) old.slots.items → present old.slots.items ≡ staying (take i leaving) from
    → present new.slots.items ≡ staying (take (i + 1) leaving) from
cleared_more old new leaving i x from l q slots so_far =
    ap present slots
    ∙ present_cleared x old.slots.items
    ∙ ap (staying (x ∷ [])) so_far
    ∙ sym (staying_more (take i leaving) x from)
    ∙ ap (λ (is : List (List ℕ)). staying is from) (sym (take_more leaving i x l ∙ ap (λ (y : List ℕ). take i leaving ++ y ∷ []) q))

-- the object at a place is one of those that stand
pub one_less : (slots : List (Option LevelItem)) (k : ℕ) (p : LevelItem) → at_place slots k ≡ Some p
    → length (present slots) ≡ suc (length (present (slice_set slots k None)))
one_less [] k p h = cc
one_less (None ∷ rest) zero p h = cc
one_less (None ∷ rest) (suc k) p h = one_less rest k p h
one_less (Some q ∷ rest) zero p h = refl
one_less (Some q ∷ rest) (suc k) p h = ap suc (one_less rest k p h)

pub few_present : (slots : List (Option LevelItem)) → length (present slots) ≤ length slots
few_present [] = omega arith
few_present (None ∷ rest) = omega (arith, few_present rest)
few_present (Some q ∷ rest) = omega (arith, few_present rest)

pub still_placed : (old new : Places) (i : List ℕ) → new.slots.items ≡ map (cleared i) old.slots.items
    → new.count ≡ length (present new.slots.items)
    → new.numbers ≡ old.numbers → IsPlaced old → IsPlaced new
still_placed old new i slots count numbers placed = record {
  at = λ k p h. ap (λ (n : Numbers). place_at n p.ident) numbers
      ∙ placed.at k p (cleared_at i old.slots.items k p (sym (ap (λ (xs : List (Option LevelItem)). at_place xs k) slots) ∙ h));
  count = count;
}

pub put_placed : (old new : Places) (part : LevelItem) → new.slots.items ≡ old.slots.items ++ Some part ∷ [] → new.count ≡ old.count + 1
    → place_at new.numbers part.ident ≡ Some (length old.slots.items)
    → ((q : List ℕ) → part.ident ≢ q → place_at new.numbers q ≡ place_at old.numbers q)
    → ((p : LevelItem) → Contains (present old.slots.items) p → p.ident ≡ part.ident → ⊥) → IsPlaced old → IsPlaced new
put_placed old new part slots more here elsewhere own placed = record {
  at = λ k p h. elim (at_append old.slots.items (Some part) k p (sym (ap (λ (xs : List (Option LevelItem)). at_place xs k) slots) ∙ h)) [
    | inl e ↦ elsewhere p.ident (λ q. own p (at_contains old.slots.items k p e) (sym q)) ∙ placed.at k p e
    | inr e ↦ ap (place_at new.numbers) (sym (ap ident_in (one part p e.1))) ∙ here ∙ ap (λ (j : ℕ). Some j) (sym e.0)
  ];
  count = more ∙ ap (λ (n : ℕ). n + 1) placed.count ∙ sym (ap (λ (xs : List (Option LevelItem)). length (present xs)) slots
      ∙ ap (λ (ps : List LevelItem). length ps) (present-append old.slots.items (Some part ∷ [])) ∙ length-append (present old.slots.items)
      (part ∷ []));
}
  where
    one : (x y : LevelItem) → Some x ≡ Some y → x ≡ y
    one x y e = cc

-- what is found at a place
pub found_at : (slots : List (Option LevelItem)) (k : ℕ) (p : LevelItem) (ident : List ℕ) (r : Option (Bor LevelItem))
    (x : Option LevelItem)
    → option_copied r ≡ x → x ≡ get_or slots k x → at_place slots k ≡ Some p → p.ident ≡ ident
    → IfSome r (λ b. Contains (present slots) b.now × (b.now.ident ≡ ident))
found_at slots k p ident None x c i h e = tt
found_at slots k p ident (Some b) x c i h e =
    let same = one b.now p (c ∙ i ∙ get_or_default slots k x None (at_within slots k p h) ∙ h) in
    (subst (λ (y : LevelItem). Contains (present slots) y) (sym same) (at_contains slots k p h), ap ident_in same ∙ e)
  where
    one : (x y : LevelItem) → Some x ≡ Some y → x ≡ y
    one x y u = cc

-- one object more, taken from the end of a list
pub back_to_front : (coming rest : List LevelItem) (part : LevelItem) → coming ≡ rest ++ part ∷ [] → reverse coming ≡ part ∷ reverse rest
back_to_front coming rest part e = ap reverse e ∙ reverse-append rest (part ∷ [])

module _ (old new : Places) (coming rest : List LevelItem) (part : LevelItem) (from : List LevelItem) (items : coming ≡ rest ++ part ∷ [])
    (slots : new.slots.items ≡ old.slots.items ++ Some part ∷ []) where
  pub put_more : present old.slots.items ++ reverse coming ≡ from → present new.slots.items ++ reverse rest ≡ from
  put_more so_far =
      ap (λ (xs : List (Option LevelItem)). present xs ++ reverse rest) slots
      ∙ ap (λ (ps : List LevelItem). ps ++ reverse rest) (present-append old.slots.items (Some part ∷ []))
      ∙ append_assoc (present old.slots.items) (part ∷ []) (reverse rest)
      ∙ ap (λ (ps : List LevelItem). present old.slots.items ++ ps) (sym (back_to_front coming rest part items))
      ∙ so_far

  pub put_all_placed : new.count ≡ old.count + 1 → place_at new.numbers part.ident ≡ Some (length old.slots.items)
      → ((q : List ℕ) → part.ident ≢ q → place_at new.numbers q ≡ place_at old.numbers q) → present old.slots.items ++ reverse coming ≡ from
      → AllPairs ◌≢◌ (map ident_in from) → IsPlaced old → IsPlaced new
  put_all_placed more here elsewhere so_far different placed =
      let all = ap (λ (ps : List LevelItem). present old.slots.items ++ ps) (sym (back_to_front coming rest part items)) ∙ so_far in
      put_placed old new part slots more here elsewhere
      (fresh (present old.slots.items) part (reverse rest)
      (subst (λ (ps : List LevelItem). AllPairs ◌≢◌ (map ident_in ps)) (sym all) different)) placed
