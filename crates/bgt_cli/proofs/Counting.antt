-- The messages of a test map have few mutations, and these few corners.
use Rattle.std.proofs.Common.{◌≡◌, ◌≤◌, ◌<◌, ◌+◌, ◌*◌, ◌^◌, ◌-◌, ◌%◌, ◌++◌, ◌∷◌, ◌∙◌, ℕ, suc, zero, List, [], length, get_or, ap, arith, length-append, refl}
use Rattle.std.specs.Prelude.{◌==◌, map, reverse, Bool, true, false}
use Rattle.std.specs.Bool.{if◌then◌else◌}
use Rattle.std.specs.List.{All, flat_map}
use Rattle.std.proofs.Math.Nat.{mul-le-mul_left}
use Rattle.std.proofs.lemmas.List.{length-map, length-reverse}
use Rattle.std.proofs.lemmas.List.Concat.{flat_map-cons}
use Rattle.std.proofs.lemmas.List.Elements.{All-append, All-cons, All-map, All-nil, All-push, All-same}
use Rattle.rd_plane.specs.Plane.{Vertex}
use Rattle.part_shape.specs.Counted.{AreCounted}
use Rattle.message_text.specs.declared.message.Mutation.{Mutation}
use Rattle.message_text.specs.Texts.{rings_of}
use Rattle.map_rules.specs.Counted.{IsCounted}
use Rattle.map_maker.specs.Made.{IsCount, below, cell, cells, corner, double, east, first_message}
use Rattle.map_maker.specs.Made.{joined, last_message, made, message, new_cell, next_message, north, outline, parted}

abbrev HasFew : Mutation → Type 0
HasFew mutation = AreCounted (rings_of mutation)

-- ---- lists over the numbers below n
length-below : (n : ℕ) → length (below n) ≡ n
unfolding below
length-below zero = refl
length-below (suc n) = omega (arith, length-append (below n) (n ∷ []), length-below n)

-- where each has so many, all have as many for each
length-each : {A B : Type 0} (f : A → List B) (k : ℕ) → ((x : A) → length (f x) ≡ k) → (xs : List A)
    → length (flat_map f xs) ≡ k * length xs
length-each f k each [] = omega arith
length-each f k each (x ∷ xs)
    = omega (arith, ap length (flat_map-cons f x xs), length-append (f x) (flat_map f xs), each x, length-each f k each xs)

All-each : {A B : Type 0} (P : B → Type 0) (f : A → List B) → ((x : A) → All P (f x)) → (xs : List A) → All P (flat_map f xs)
All-each P f each [] = All-nil P
All-each P f each (x ∷ xs) =
    All-same P (flat_map f (x ∷ xs)) (f x ++ flat_map f xs) (flat_map-cons f x xs)
    (All-append P (f x) (flat_map f xs) (each x) (All-each P f each xs))

-- ---- what the messages have
abbrev IsShort : List Vertex → Type 0
IsShort ring = length ring < 2 ^ 32

one_ring : (ring : List Vertex) → IsShort ring → AreCounted (ring ∷ [])
one_ring ring short = record { few = omega arith; corners = All-cons IsShort ring [] short (All-nil IsShort) }

no_ring : AreCounted []
no_ring = record { few = omega arith; corners = All-nil IsShort }

one_cell : (i j : ℕ) → AreCounted (cell i j ∷ [])
one_cell i j = let eight : length (cell i j) ≡ 8 = refl in one_ring (cell i j) (omega (arith, eight))

two_cells : (j : ℕ) → AreCounted (double j ∷ [])
two_cells j = let twelve : length (double j) ≡ 12 = refl in one_ring (double j) (omega (arith, twelve))

-- a message of one or two mutations
one : (k : ℕ) (mutation : Mutation) → HasFew mutation → IsCounted (message k (mutation ∷ []))
one k mutation few = record {
  few = omega arith;
  mutations = All-cons HasFew mutation [] few (All-nil HasFew);
  few_shapes = omega arith;
  shapes = All-nil AreCounted;
}

two : (k : ℕ) (first second : Mutation) → HasFew first → HasFew second → IsCounted (message k (first ∷ second ∷ []))
two k first second few more = record {
  few = omega arith;
  mutations = All-cons HasFew first (second ∷ []) few (All-cons HasFew second [] more (All-nil HasFew));
  few_shapes = omega arith;
  shapes = All-nil AreCounted;
}

next_counted : (n k : ℕ) → IsCounted (next_message n k)
next_counted n k = either (k % 2 == 1)
  where
    either : (odd : Bool) → IsCounted (if odd then joined n k else parted n k)
    either true = two k _ _ (two_cells (k - 1)) no_ring
    either false = two k _ _ (one_cell 0 (k - 2)) (one_cell 1 (k - 2))

cells_few : (n : ℕ) → n ≤ 400 → length (cells n) < 2 ^ 32
cells_few n most =
    let row : (j : ℕ) → length (map (new_cell n j) (below n)) ≡ n = λ j. length-map (below n) (new_cell n j) ∙ length-below n in
    omega (
      arith,
      length-each (λ (j : ℕ). map (new_cell n j) (below n)) n row (below n),
      ap (λ (k : ℕ). n * k) (length-below n),
      mul-le-mul_left n most,
    )

cells_counted : (n : ℕ) → All HasFew (cells n)
cells_counted n = All-each HasFew (λ (j : ℕ). map (new_cell n j) (below n)) (λ j. All-map HasFew (new_cell n j) (below n)
    (λ k d within. one_cell (get_or (below n) k d) j)) (below n)

outline_short : (n : ℕ) → n ≤ 400 → IsShort (outline n)
outline_short n most =
    let south = λ (i : ℕ). corner i 0 ∷ east i 0 ∷ [] in
    let eastward = λ (j : ℕ). corner n j ∷ north n j ∷ [] in
    let northward = λ (i : ℕ). corner (i + 1) n ∷ east i n ∷ [] in
    let west = λ (j : ℕ). corner 0 (j + 1) ∷ north 0 j ∷ [] in
    let up = below n in
    let down = reverse (below n) in
    omega (
      arith,
      length-append (flat_map south up) (flat_map eastward up ++ (flat_map northward down ++ flat_map west down)),
      length-append (flat_map eastward up) (flat_map northward down ++ flat_map west down),
      length-append (flat_map northward down) (flat_map west down),
      length-each south 2 (λ i. refl) up,
      length-each eastward 2 (λ i. refl) up,
      length-each northward 2 (λ i. refl) down,
      length-each west 2 (λ i. refl) down,
      length-reverse up,
      length-below n,
    )

first_counted : (n : ℕ) → n ≤ 400 → IsCounted (first_message n)
first_counted n most = record {
  few = cells_few n most;
  mutations = cells_counted n;
  few_shapes = omega arith;
  shapes = All-cons AreCounted (outline n ∷ []) [] (one_ring (outline n) (outline_short n most)) (All-nil AreCounted);
}

-- so has each message of it
pub made_counted : (n : ℕ) → IsCount n → All IsCounted (made n)
made_counted n count =
    let between = λ (k : ℕ). next_message n (k + 1) in
    All-cons IsCounted (first_message n) (map between (below n) ++ last_message n ∷ []) (first_counted n count.1)
    (All-push IsCounted (map between (below n)) (last_message n) (All-map IsCounted between (below n) (λ k d within. next_counted n (get_or (below n) k d + 1)))
    (one (n + 1) _ no_ring))
