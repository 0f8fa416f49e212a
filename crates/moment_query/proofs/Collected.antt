-- The holders, collected, sorted, and each taken once.
use Rattle.std.proofs.Common.{◌≡◌, ◌<◌, ◌≤◌, ◌+◌, ℕ, Bool, true, false, cond, List, [], ◌∷◌, ◌++◌, length, take, get_or, map, filter, refl, sym, ap, ◌∙◌, append_assoc, append-nil, arith}
use Rattle.std.specs.Prelude.{nat_lt}
use Rattle.std.specs.Borrow.{Bor}
use Rattle.std.specs.List.{dedup, dedup_from}
use Rattle.std.specs.Str.{bytes_eq}
use Rattle.std.proofs.lemmas.List.{take_all, take_more, map-append}
use Rattle.std.proofs.lemmas.Bool.Decides.{nat_tests}
use Rattle.std.proofs.lemmas.List.Elements.{filter-append}
use Rattle.std.proofs.lemmas.Cmp.{nat_list_eq_equiv}
use Rattle.std.proofs.lemmas.Slice.Eq.{bytes_eq-Decides}
use Rattle.rd_plane.specs.Plane.{Vertex}
use Rattle.version_history.specs.Moments.{contents}
use Rattle.area_book.specs.declared.version.AreaVersion.{AreaVersion}
use Rattle.moment_query.specs.Exports.{has_shapes, once}

-- one more piece of a list that is built behind another over references, by a g that takes lists piece by piece
pub more_behind : {A B : Type 0} {old new : List B} (g : List A → List B) → ((l r : List A) → g (l ++ r) ≡ g l ++ g r)
    → (start : List B) (xs : List (Bor A)) (i : ℕ) (item : Bor A)
    → i < length xs → item ≡ get_or xs i item → old ≡ start ++ g (contents (take i xs)) → new ≡ old ++ g (item.now ∷ [])
    → new ≡ start ++ g (contents (take (i + 1) xs))
more_behind {A} {B} g adds start xs i item h is p q =
    let step : contents (take (i + 1) xs) ≡ contents (take i xs) ++ item.now ∷ [] =
    ap contents (take_more xs i item h ∙ ap (λ (a : Bor A). take i xs ++ a ∷ []) (sym is)) ∙ map-append (λ (a : Bor A). a.now) (take i xs)
    (item ∷ []) in
    q ∙ (ap (λ (l : List B). l ++ g (item.now ∷ [])) p ∙ (append_assoc start (g (contents (take i xs))) (g (item.now ∷ []))
    ∙ ap (λ (l : List B). start ++ l) (sym (ap g step ∙ adds (contents (take i xs)) (item.now ∷ [])))))

pub all_behind : {A B : Type 0} {new : List B} (g : List A → List B) (start : List B) (xs : List (Bor A)) (i : ℕ) → length xs ≤ i
    → new ≡ start ++ g (contents (take i xs)) → new ≡ start ++ g (contents xs)
all_behind {A} g start xs i h p = p ∙ ap (λ (l : List (Bor A)). start ++ g (contents l)) (take_all i xs h)

-- the holder of one area
pub no_shape : {old : List (List ℕ)} (a : AreaVersion) → a.shapes ≡ []
    → old ≡ old ++ map (λ (b : AreaVersion). b.holder) (filter has_shapes (a ∷ []))
no_shape {old} a none =
    sym (append-nil old)
    ∙ ap (λ (t : Bool). old ++ map (λ (b : AreaVersion). b.holder) (cond t (a ∷ []) []))
    (sym (ap (λ (shapes : List (List (List Vertex))). nat_lt 0 (length shapes)) none))

some_shape : (shapes : List (List (List Vertex))) → (shapes ≡ [] → ⊥) → nat_lt 0 (length shapes) ≡ true
some_shape [] some = absurd (some refl)
some_shape (shape ∷ shapes) some = grind (arith, nat_tests)

pub shaped : {new : List (List ℕ)} (old : List (List ℕ)) (a : AreaVersion) → (a.shapes ≡ [] → ⊥) → new ≡ old ++ a.holder ∷ []
    → new ≡ old ++ map (λ (b : AreaVersion). b.holder) (filter has_shapes (a ∷ []))
shaped old a some e
    = e ∙ ap (λ (t : Bool). old ++ map (λ (b : AreaVersion). b.holder) (cond t (a ∷ []) [])) (sym (some_shape a.shapes some))

-- the holders of areas with a shape
pub shaped_adds : (l r : List AreaVersion) → map (λ (a : AreaVersion). a.holder) (filter has_shapes (l ++ r))
    ≡ map (λ (a : AreaVersion). a.holder) (filter has_shapes l) ++ map (λ (a : AreaVersion). a.holder) (filter has_shapes r)
shaped_adds l r = ap (map (λ (a : AreaVersion). a.holder)) (filter-append has_shapes l r)
    ∙ map-append (λ (a : AreaVersion). a.holder) (filter has_shapes l) (filter has_shapes r)

once_from : (k : List ℕ) (xs : List (List ℕ)) → dedup_from bytes_eq k xs ≡ once (k ∷ xs)
unfolding once
once_from k [] = refl
once_from k (x ∷ xs) = by_test (once_from k xs) (once_from x xs) (bytes_eq k x) refl
  where
    by_test : dedup_from bytes_eq k xs ≡ once (k ∷ xs) → dedup_from bytes_eq x xs ≡ once (x ∷ xs) → (t : Bool) → bytes_eq k x ≡ t
        → cond (bytes_eq x k) (dedup_from bytes_eq k xs) (k ∷ dedup_from bytes_eq x xs) ≡ cond t (once (x ∷ xs)) (k ∷ once (x ∷ xs))
    by_test same other true e =
        ap (λ (b : Bool). cond b (dedup_from bytes_eq k xs) (k ∷ dedup_from bytes_eq x xs)) (nat_list_eq_equiv.symm x k ∙ e)
        ∙ (same ∙ ap (λ (y : List ℕ). once (y ∷ xs)) ((bytes_eq-Decides k x).0 e))
    by_test same other false e =
        ap (λ (b : Bool). cond b (dedup_from bytes_eq k xs) (k ∷ dedup_from bytes_eq x xs)) (nat_list_eq_equiv.symm x k ∙ e)
        ∙ ap (λ (l : List (List ℕ)). k ∷ l) other

-- what `dedup` leaves
pub deduped : (xs : List (List ℕ)) → dedup bytes_eq xs ≡ once xs
unfolding once
deduped [] = refl
deduped (x ∷ xs) = once_from x xs
