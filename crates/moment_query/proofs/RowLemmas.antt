-- Lines that are pushed one behind the other.
use Rattle.std.proofs.Common.{◌≡◌, ◌<◌, ◌≤◌, ◌+◌, ℕ, ℤ, codes, List, [], ◌∷◌, ◌++◌, length, take, get_or, map, refl, sym, ap, subst, ◌∙◌, append_assoc, append-nil, arith}
use Rattle.std.specs.Prelude.{Option, None}
use Rattle.std.specs.List.{All, flat_map}
use Rattle.std.specs.Borrow.{Bor}
use Rattle.std.proofs.lemmas.List.{take_more, take_all, map_push, get_or-map, length-map}
use Rattle.std.proofs.lemmas.List.Concat.{flat_map-append}
use Rattle.message_text.specs.declared.token.Token.{Token}
use Rattle.message_text.specs.Fields.{spaced}
use Rattle.message_text.specs.Lines.{text_of}
use Rattle.message_text.specs.Pushes.{PushesLines}
use Rattle.message_text.specs.Spelling.{printed}
use Rattle.message_text.specs.Texts.{AreLines}
use Rattle.version_history.specs.Moments.{contents}
use Rattle.moment_query.specs.Rows.{Row, Says, IsRow, IsEnd, IsEndDay, AreRows, PushesRows}

pub no_rows : (old : List ℕ) → PushesRows [] old old
no_rows old = record { lines = []; say = tt; pushed = sym (append-nil old) }

pub one_row : {row : Row} {old new : List ℕ} (line : List ℕ) → IsRow line row → new ≡ old ++ (line ++ 10 ∷ [])
    → PushesRows (row ∷ []) old new
one_row {old = old} line says e = record {
  lines = line ∷ [];
  say = (says, tt);
  pushed = e ∙ ap (λ (l : List ℕ). old ++ l) (sym (append-nil (line ++ 10 ∷ [])));
}

rows_append : (a b : List (List ℕ)) (rs ss : List Row) → AreRows a rs → AreRows b ss → AreRows (a ++ b) (rs ++ ss)
rows_append [] b [] ss p q = q
rows_append [] b (r ∷ rs) ss p q = absurd p
rows_append (x ∷ a) b [] ss p q = absurd p
rows_append (x ∷ a) b (r ∷ rs) ss p q = (p.0, rows_append a b rs ss p.1 q)

pub both_rows : {a b : List Row} {x y z : List ℕ} → PushesRows a x y → PushesRows b y z → PushesRows (a ++ b) x z
both_rows {a = a} {b = b} {x = x} p q = record {
  lines = p.lines ++ q.lines;
  say = rows_append p.lines q.lines a b p.say q.say;
  pushed =
      q.pushed
      ∙ (ap (λ (l : List ℕ). l ++ text_of q.lines) p.pushed
      ∙ (append_assoc x (text_of p.lines) (text_of q.lines) ∙ ap (λ (l : List ℕ). x ++ l)
      (sym (flat_map-append (λ line. line ++ 10 ∷ []) p.lines q.lines))));
}

say_rows : (lines : List (List ℕ)) (tokens : List Token) → AreLines printed lines tokens → AreRows lines (map Says tokens)
say_rows [] [] p = tt
say_rows [] (token ∷ tokens) p = absurd p
say_rows (line ∷ lines) [] p = absurd p
say_rows (line ∷ lines) (token ∷ tokens) p = (p.0, say_rows lines tokens p.1)

-- lines of a message are such lines
pub said : {tokens : List Token} {old new : List ℕ} → PushesLines tokens old new → PushesRows (map Says tokens) old new
said {tokens = tokens} p = record { lines = p.lines; say = say_rows p.lines tokens p.say; pushed = p.pushed }

-- one more piece of a loop over references
pub more_rows : {A : Type 0} {x y z : List ℕ} (f : A → List Row) (xs : List (Bor A)) (i : ℕ) (item : Bor A) → i < length xs
    → item ≡ get_or xs i item
    → PushesRows (flat_map f (contents (take i xs))) x y → PushesRows (f item.now) y z
    → PushesRows (flat_map f (contents (take (i + 1) xs))) x z
more_rows {A} {x = x} {z = z} f xs i item h is p q =
    let step : contents (take (i + 1) xs) ≡ contents (take i xs) ++ item.now ∷ [] =
    ap contents (take_more xs i item h ∙ ap (λ (a : Bor A). take i xs ++ a ∷ []) (sym is)) ∙ map_push (λ (a : Bor A). a.now) (take i xs)
    item in
    let all : flat_map f (contents (take (i + 1) xs)) ≡ flat_map f (contents (take i xs)) ++ (f item.now ++ []) = ap (flat_map f) step
    ∙ flat_map-append f (contents (take i xs)) (item.now ∷ []) in
    subst (λ (l : List Row). PushesRows l x z)
    (sym (all ∙ ap (λ (l : List Row). flat_map f (contents (take i xs)) ++ l) (append-nil (f item.now))))
    (both_rows p q)

-- all pieces
pub all_rows : {A : Type 0} {x z : List ℕ} (f : A → List Row) (xs : List (Bor A)) (i : ℕ) → length xs ≤ i
    → PushesRows (flat_map f (contents (take i xs))) x z → PushesRows (flat_map f (contents xs)) x z
all_rows {A} {x = x} {z = z} f xs i h p = subst (λ (l : List (Bor A)). PushesRows (flat_map f (contents l)) x z) (take_all i xs h) p

-- what all have that are referred to, each has
pub at_ref : {A : Type 0} (P : A → Type 0) (xs : List (Bor A)) (i : ℕ) (item : Bor A) → i < length xs → item ≡ get_or xs i item
    → All P (contents xs)
    → P item.now
at_ref {A} P xs i item h is all =
    subst P (get_or-map (λ (a : Bor A). a.now) xs i item item.now h ∙ ap (λ (a : Bor A). a.now) (sym is))
    (all i item.now (omega (arith, h, length-map xs (λ (a : Bor A). a.now))))

-- a word, fields and a line feed
pub ends_line : (word : List ℕ) (fields : List (List ℕ)) (old start end new : List ℕ) → start ≡ old ++ word → end ≡ start ++ spaced fields
    → new ≡ end ++ 10 ∷ [] → new ≡ old ++ ((word ++ spaced fields) ++ 10 ∷ [])
ends_line word fields old start end new p q e =
    e ∙ (ap (λ (bs : List ℕ). bs ++ 10 ∷ []) (q ∙ (ap (λ (bs : List ℕ). bs ++ spaced fields) p ∙ append_assoc old word (spaced fields)))
    ∙ append_assoc old (word ++ spaced fields) (10 ∷ []))

-- a dash stands where there is no moment
pub no_end : (until : Option ℤ) (old new : List ℕ) → until ≡ None → new ≡ old ++ spaced (codes "-" ∷ [])
    → (field : List ℕ) × IsEnd field until × (new ≡ old ++ spaced (field ∷ []))
no_end until old new none e = (codes "-", rw none refl, e)

-- or no day
pub no_end_day : (day : Option ℤ) (old new : List ℕ) → day ≡ None → new ≡ old ++ spaced (codes "-" ∷ [])
    → (field : List ℕ) × IsEndDay field day × (new ≡ old ++ spaced (field ∷ []))
no_end_day day old new none e = (codes "-", rw none refl, e)

-- one more piece of a list that is built over references
pub more_of : {A B : Type 0} {old new : List B} (f : A → List B) (xs : List (Bor A)) (i : ℕ) (item : Bor A) → i < length xs
    → item ≡ get_or xs i item
    → old ≡ flat_map f (contents (take i xs)) → new ≡ old ++ f item.now → new ≡ flat_map f (contents (take (i + 1) xs))
more_of {A} {B} f xs i item h is p q =
    let step : contents (take (i + 1) xs) ≡ contents (take i xs) ++ item.now ∷ [] =
    ap contents (take_more xs i item h ∙ ap (λ (a : Bor A). take i xs ++ a ∷ []) (sym is)) ∙ map_push (λ (a : Bor A). a.now) (take i xs)
    item in
    let all : flat_map f (contents (take (i + 1) xs)) ≡ flat_map f (contents (take i xs)) ++ (f item.now ++ []) = ap (flat_map f) step
    ∙ flat_map-append f (contents (take i xs)) (item.now ∷ []) in
    q ∙ (ap (λ (l : List B). l ++ f item.now)
    p ∙ sym (all ∙ ap (λ (l : List B). flat_map f (contents (take i xs)) ++ l) (append-nil (f item.now))))

-- what is referred to at a place
pub ref_at : {A : Type 0} (xs : List (Bor A)) (i : ℕ) (item : Bor A) → i < length xs → item ≡ get_or xs i item
    → (i < length (contents xs)) × (item.now ≡ get_or (contents xs) i item.now)
ref_at {A} xs i item h is = (
  omega (arith, h, length-map xs (λ (a : Bor A). a.now)),
  ap (λ (a : Bor A). a.now) is ∙ sym (get_or-map (λ (a : Bor A). a.now) xs i item item.now h),
)

pub refs_end : {A : Type 0} (xs : List (Bor A)) (i : ℕ) → length xs ≤ i → length (contents xs) ≤ i
refs_end {A} xs i h = omega (arith, h, length-map xs (λ (a : Bor A). a.now))
