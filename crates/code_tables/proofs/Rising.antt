-- Lists of texts that rise: place by place, and from the first text on.
use Rattle.std.proofs.Common.{◌≡◌, ℕ, zero, suc, ◌<◌, Bool, true, false, List, [], ◌∷◌, Some, ◌&&◌, slice_get, length, get_or, refl, ap, ◌∙◌, arith, sym, ◌-◌, subst, map}
use Rattle.std.proofs.lemmas.Option.{slice_get_within, slice_get_read, slice_get-map}
use Rattle.std.specs.Option.{option_map}
use Rattle.std.specs.Ordering.{nat_cmp, is_lt, is_eq}
use Rattle.std.specs.Str.{bytes_eq}
use Rattle.std.specs.Cmp.Lexicographic.{slice_cmp}
use Rattle.std.specs.declared.cmp.Ordering.{Ordering}
use Rattle.std.specs.declared.cmp.Ordering.TheVariants.{Less, Equal, Greater}
use Rattle.std.proofs.lemmas.Cmp.{nat_list_cmp_total}
use Rattle.std.proofs.lemmas.Map.Text.{is_eq-slice_cmp}
use Rattle.code_tables.specs.Codes.{is_before, leads, rises, place_of}
use Rattle.code_tables.proofs.Places.{first_of_all, stands_behind}

-- both tests hold
both : (x y : Bool) → x ≡ true → y ≡ true → (x && y) ≡ true
both x y p q = grind arith

-- where the first fails, so does the conjunction
one_fails : (x y : Bool) → x ≡ false → (x && y) ≡ false
one_fails x y p = grind arith

-- where the second fails, so does the conjunction
other_fails : (x y : Bool) → y ≡ false → (x && y) ≡ false
other_fails x y p = grind arith

-- both tests hold where their conjunction does
each : (x y : Bool) → (x && y) ≡ true → (x ≡ true) × (y ≡ true)
each x y p = grind arith

-- texts rise where each stands before the next
rises_from : (texts : List (List ℕ))
    → ((k : ℕ) (text next : List ℕ) → slice_get texts k ≡ Some text → slice_get texts (suc k) ≡ Some next → is_before text next ≡ true)
    → rises texts ≡ true
rises_from [] steps = refl
rises_from (text ∷ []) steps = refl
rises_from (text ∷ next ∷ texts) steps =
    both (is_before text next) (rises (next ∷ texts)) (steps 0 text next refl refl) (rises_from (next ∷ texts) (λ k. steps (suc k)))

-- texts do not rise where one does not stand before the next
fails_at : (texts : List (List ℕ)) (k : ℕ) (text next : List ℕ) → slice_get texts k ≡ Some text → slice_get texts (suc k) ≡ Some next
    → is_before text next ≡ false → rises texts ≡ false
fails_at [] k text next at behind step = cc
fails_at (first ∷ []) k text next at behind step = cc
fails_at (first ∷ second ∷ texts) zero text next at behind step
    = one_fails (is_before first second) (rises (second ∷ texts)) (let begins : first ≡ text = cc in let follows : second ≡ next = cc in cc)
fails_at (first ∷ second ∷ texts) (suc k) text next at behind step
    = other_fails (is_before first second) (rises (second ∷ texts)) (fails_at (second ∷ texts) k text next at behind step)

-- the same, place by place with the text before it
pub rises_by_place : (texts : List (List ℕ)) → ((j : ℕ) → j < length texts → 0 < j → (text next : List ℕ)
    → slice_get texts (j - 1) ≡ Some text → slice_get texts j ≡ Some next → is_before text next ≡ true) → rises texts ≡ true
rises_by_place texts steps =
    rises_from texts (λ k text next at behind. let e : k ≡ suc k - 1 = omega arith in steps (suc k)
    (slice_get_within texts (suc k) next behind) (omega arith) text next (subst (λ (i : ℕ). slice_get texts i ≡ Some text) e at)
    behind)

-- and the other way round, place by place
pub fails_by_place : (texts : List (List ℕ)) (j : ℕ) → 0 < j → (text next : List ℕ) → slice_get texts (j - 1) ≡ Some text
    → slice_get texts j ≡ Some next → is_before text next ≡ false → rises texts ≡ false
fails_by_place texts zero above text next at behind step = absurd (omega arith)
fails_by_place texts (suc k) above text next at behind step =
    let e : suc k - 1 ≡ k = omega arith in
    fails_at texts k text next (subst (λ (i : ℕ). slice_get texts i ≡ Some text) e at) behind step

-- the text of an item that is read at a place
pub read_text : {T : Type 0} (bytes : T → List ℕ) (items : List T) (k : ℕ) (item : T) → k < length items → item ≡ get_or items k item
    → slice_get (map bytes items) k ≡ Some (bytes item)
read_text bytes items k item within at
    = slice_get-map bytes items k ∙ ap (option_map bytes) (slice_get_read items (length items) k item refl within at)

-- a place has one text
pub same_text : {text other : List ℕ} → Some text ≡ Some other → text ≡ other
same_text same = cc

-- what a test of two texts says of equal ones
pub carried : (text next other following : List ℕ) (test answer : Bool) → test ≡ is_before text next → test ≡ answer → text ≡ other
    → next ≡ following → is_before other following ≡ answer
carried text next other following test answer is was same also = cc

-- what the test of an order says
is_less : (o : Ordering) → is_lt o ≡ true → o ≡ Less
is_less Less h = refl
is_less Equal h = cc
is_less Greater h = cc

-- what stands before what stands before a text stands before it
before_trans : (a b c : List ℕ) → is_before a b ≡ true → is_before b c ≡ true → is_before a c ≡ true
before_trans a b c p q = ap is_lt (nat_list_cmp_total.trans a b c (is_less (slice_cmp nat_cmp a b) p) (is_less (slice_cmp nat_cmp b c) q))

-- a text is none that it stands before
before_differs : (a b : List ℕ) → is_before a b ≡ true → bytes_eq a b ≡ false
before_differs a b p = sym (is_eq-slice_cmp a b) ∙ ap is_eq (is_less (slice_cmp nat_cmp a b) p)

-- the first of texts that rise stands before all others
before_all : (text other : List ℕ) (texts : List (List ℕ)) (k : ℕ) → rises (text ∷ texts) ≡ true → slice_get texts k ≡ Some other
    → is_before text other ≡ true
before_all text other [] k rising at = cc
before_all text other (next ∷ texts) zero rising at = let first = (each (is_before text next) (rises (next ∷ texts)) rising).0 in cc
before_all text other (next ∷ texts) (suc k) rising at =
    let steps = each (is_before text next) (rises (next ∷ texts)) rising in
    before_trans text next other steps.0 (before_all next other texts k steps.1 at)

-- the place of the text at a place is that place
pub same_place : (texts : List (List ℕ)) (k : ℕ) (text : List ℕ) → rises texts ≡ true → slice_get texts k ≡ Some text
    → place_of texts text ≡ Some k
same_place [] k text rising at = cc
same_place (first ∷ texts) zero text rising at = first_of_all first text texts at
same_place (first ∷ texts) (suc k) text rising at =
    stands_behind first text texts (before_differs first text (before_all first text texts k rising at))
    ∙ ap (option_map (λ k. suc k)) (same_place texts k text (each (leads first texts) (rises texts) rising).1 at)
