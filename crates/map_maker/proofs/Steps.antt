-- Lists that are pushed piece by piece, for numbers that rise or fall.
use Rattle.std.proofs.Common.{◌≡◌, ◌<◌, ◌≤◌, ◌+◌, ◌-◌, add-one, arith, ℕ, suc, zero, List, [], ◌∷◌, ◌++◌, sym, ap, ◌∙◌, append_assoc, append-nil}
use Rattle.std.specs.Prelude.{map, reverse}
use Rattle.std.specs.List.{flat_map}
use Rattle.std.proofs.lemmas.List.{map_push, reverse-append}
use Rattle.std.proofs.lemmas.List.Concat.{flat_map-append}
use Rattle.map_maker.specs.Made.{below}

-- before the first number nothing is pushed
pub no_pieces : {A : Type 0} (f : ℕ → List A) (old : List A) → old ≡ old ++ flat_map f (below 0)
unfolding below
no_pieces f old = sym (append-nil old)

-- the pieces of one more number
last_piece : {A : Type 0} (f : ℕ → List A) (i : ℕ) → flat_map f (below (i + 1)) ≡ flat_map f (below i) ++ f i
unfolding below
last_piece {A} f i = rw add-one (flat_map-append f (below i) (i ∷ []) ∙ ap (λ (l : List A). flat_map f (below i) ++ l) (append-nil (f i)))

-- one more piece is pushed
pub next_piece : {A : Type 0} (f : ℕ → List A) (i : ℕ) (old mid new : List A) → mid ≡ old ++ flat_map f (below i) → new ≡ mid ++ f i
    → new ≡ old ++ flat_map f (below (i + 1))
next_piece {A} f i old mid new p q =
    q ∙ (ap (λ (l : List A). l ++ f i)
    p ∙ (append_assoc old (flat_map f (below i)) (f i) ∙ ap (λ (l : List A). old ++ l) (sym (last_piece f i))))

-- before the first number no item is there
pub no_items : {A : Type 0} (f : ℕ → A) (old : List A) → old ≡ old ++ map f (below 0)
unfolding below
no_items f old = sym (append-nil old)

-- the items of one more number
last_item : {A : Type 0} (f : ℕ → A) (i : ℕ) → map f (below (i + 1)) ≡ map f (below i) ++ f i ∷ []
unfolding below
last_item f i = rw add-one (map_push f (below i) i)

-- one more item is pushed
pub next_item : {A : Type 0} (f : ℕ → A) (i : ℕ) (old mid new : List A) → mid ≡ old ++ map f (below i) → new ≡ mid ++ f i ∷ []
    → new ≡ old ++ map f (below (i + 1))
next_item {A} f i old mid new p q =
    q ∙ (ap (λ (l : List A). l ++ f i ∷ [])
    p ∙ (append_assoc old (map f (below i)) (f i ∷ []) ∙ ap (λ (l : List A). old ++ l) (sym (last_item f i))))

-- the piece of the greatest number is pushed, and those of the smaller ones are to come
pub fallen : {A : Type 0} (f : ℕ → List A) (i : ℕ) (mid new whole : List A) → 0 < i → mid ++ flat_map f (reverse (below i)) ≡ whole
    → new ≡ mid ++ f (i - 1) → new ++ flat_map f (reverse (below (i - 1))) ≡ whole
unfolding below
fallen f zero mid new whole h p q = absurd (omega (arith, h))
fallen {A} f (suc i) mid new whole h p q =
    let less : suc i - 1 ≡ i = omega arith in
    rw less
    (ap (λ (l : List A). l ++ flat_map f (reverse (below i))) (q ∙ ap (λ (k : ℕ). mid ++ f k) less)
    ∙ (append_assoc mid (f i)
    (flat_map f (reverse (below i))) ∙ (ap (λ (l : List ℕ). mid ++ flat_map f l) (sym (reverse-append (below i) (i ∷ []))) ∙ p)))

-- none is to come
pub at_bottom : {A : Type 0} (f : ℕ → List A) (i : ℕ) (new whole : List A) → i ≤ 0 → new ++ flat_map f (reverse (below i)) ≡ whole
    → new ≡ whole
unfolding below
at_bottom f zero new whole h p = sym (append-nil new) ∙ p
at_bottom f (suc i) new whole h p = absurd (omega (arith, h))

-- two items are pushed that are these
pub both_are : {A : Type 0} {a b x y : A} (old new : List A) → new ≡ old ++ a ∷ b ∷ [] → a ≡ x → b ≡ y → new ≡ old ++ x ∷ y ∷ []
both_are old new p q r = cc

-- one item is pushed that is this
pub one_is : {A : Type 0} {a x : A} (old new : List A) → new ≡ old ++ a ∷ [] → a ≡ x → new ≡ old ++ x ∷ []
one_is old new p q = cc
