-- What words ask: one query at most, and none where they are too few.
use Rattle.std.proofs.Common.{◌⊎◌, inl, inr, ◌≡◌, ◌≤◌, ◌<◌, ◌∷◌, ◌∙◌, ℕ, ℤ, List, [], length, get_or, refl, sym, ap, subst, arith}
use Rattle.std.specs.Prelude.{Option, Some, None, MatchOption, codes}
use Rattle.std.specs.Borrow.{Bor}
use Rattle.std.proofs.lemmas.List.{length-map}
use Rattle.rd_plane.specs.Plane.{Vertex}
use Rattle.field_text.proofs.Cuts.{one_mm}
use Rattle.field_text.proofs.Moments.{one_moment}
use Rattle.message_text.specs.Fields.{contents}
use Rattle.message_text.specs.Spelling.{wide, HasIdent, HasMoment}
use Rattle.bgt_cli.specs.declared.query.Query.{Query}
use Rattle.bgt_cli.specs.declared.query.Query.TheVariants.{StateAt, HistoryOf, PointAt, ExportAt}
use Rattle.bgt_cli.specs.Query.{Asks, HasPoint}

-- the first byte of the first word, by which commands differ
abbrev first_byte : List (List ℕ) → ℕ
first_byte ((byte ∷ rest) ∷ words) = byte
first_byte _ = 0

-- and that of each command
abbrev letter : Query → ℕ
letter (StateAt moment) = 115
letter (HistoryOf ident) = 104
letter (PointAt p moment) = 112
letter (ExportAt moment) = 101

begins : (words : List (Bor (List ℕ))) (query : Query) → Asks words query → first_byte (contents words) ≡ letter query
begins words (StateAt moment) h = ap first_byte h.2
begins words (HistoryOf ident) h = ap first_byte h.2
begins words (PointAt p moment) h = ap first_byte h.4
begins words (ExportAt moment) h = ap first_byte h.2

vertex_is : (p q : Vertex) → p.x ≡ q.x → p.y ≡ q.y → p ≡ q
vertex_is p q e f
    = ap (λ (x : ℤ). let v : Vertex = record { x = x; y = p.y } in v) e ∙ ap (λ (y : ℤ). let v : Vertex = record { x = q.x; y = y } in v) f

one_point : (x y : List ℕ) (p q : Vertex) → HasPoint x y p → HasPoint x y q → p ≡ q
one_point x y p q h k = vertex_is p q (one_mm x p.x q.x h.0.0 k.0.0) (one_mm y p.y q.y h.1.0 k.1.0)

-- words ask one thing at most
pub one_query : (words : List (Bor (List ℕ))) (a b : Query) → Asks words a → Asks words b → a ≡ b
one_query words (StateAt m) (StateAt n) h k =
    let e = sym k.2 ∙ h.2 in
    let at : k.1 ≡ h.1 = cc in
    ap StateAt (one_moment h.1 m n h.3 (subst (λ (w : List ℕ). HasMoment wide w n) at k.3))
one_query words (HistoryOf i) (HistoryOf j) h k =
    let e = sym k.2 ∙ h.2 in
    let id : k.1 ≡ h.1 = cc in
    ap HistoryOf (h.3.1 ∙ (sym id ∙ sym k.3.1))
one_query words (PointAt p m) (PointAt q n) h k =
    let e = sym k.4 ∙ h.4 in
    let x : k.1 ≡ h.1 = cc in
    let y : k.2 ≡ h.2 = cc in
    let at : k.3 ≡ h.3 = cc in
    let point = one_point h.1 h.2 p q h.5 (subst (λ (w : List ℕ). HasPoint w h.2 q) x (subst (λ (w : List ℕ). HasPoint k.1 w q) y k.5)) in
    let moment = one_moment h.3 m n h.6 (subst (λ (w : List ℕ). HasMoment wide w n) at k.6) in
    ap (λ (v : Vertex). PointAt v m) point ∙ ap (λ (t : ℤ). PointAt q t) moment
one_query words (ExportAt m) (ExportAt n) h k =
    let e = sym k.2 ∙ h.2 in
    let at : k.1 ≡ h.1 = cc in
    ap ExportAt (one_moment h.1 m n h.3 (subst (λ (w : List ℕ). HasMoment wide w n) at k.3))
one_query words a b h k = let e : letter a ≡ letter b = sym (begins words a h) ∙ begins words b k in absurd (omega (arith, e))

-- how many words there are
count : (words : List (Bor (List ℕ))) {texts : List (List ℕ)} → contents words ≡ texts → length words ≡ length texts
count words e = sym (length-map words (λ (w : Bor (List ℕ)). w.now)) ∙ ap length e

-- two words or fewer ask nothing
pub too_few : (words : List (Bor (List ℕ))) (query : Query) → length words < 3 → Asks words query → ⊥
too_few words (StateAt m) few h = let three : length words ≡ 3 = count words h.2 in omega (arith, few, three)
too_few words (HistoryOf i) few h = let three : length words ≡ 3 = count words h.2 in omega (arith, few, three)
too_few words (PointAt p m) few h = let five : length words ≡ 5 = count words h.4 in omega (arith, few, five)
too_few words (ExportAt m) few h = let three : length words ≡ 3 = count words h.2 in omega (arith, few, three)

first_word : (words : List (Bor (List ℕ))) (none : Bor (List ℕ)) (word : List ℕ) (rest : List (List ℕ)) → contents words ≡ word ∷ rest
    → (get_or words 0 none).now ≡ word
first_word [] none word rest e = cc
first_word (w ∷ words) none word rest e = cc

-- three words, and five
pub three_words : (words : List (Bor (List ℕ))) (none : Bor (List ℕ)) → 3 ≤ length words → length words < 4
    → contents words ≡ (get_or words 0 none).now ∷ (get_or words 1 none).now ∷ (get_or words 2 none).now ∷ []
three_words [] none some few = absurd (omega (arith, some))
three_words (a ∷ []) none some few = absurd (omega (arith, some))
three_words (a ∷ b ∷ []) none some few = absurd (omega (arith, some))
three_words (a ∷ b ∷ c ∷ []) none some few = refl
three_words (a ∷ b ∷ c ∷ d ∷ words) none some few = absurd (omega (arith, few))

pub five_words : (words : List (Bor (List ℕ))) (none : Bor (List ℕ)) → 5 ≤ length words → length words < 6
    → contents words ≡ (get_or words 0 none).now ∷ (get_or words 1 none).now ∷ (get_or words 2 none).now ∷ (get_or words 3 none).now
    ∷ (get_or words 4 none).now ∷ []
five_words [] none some few = absurd (omega (arith, some))
five_words (a ∷ []) none some few = absurd (omega (arith, some))
five_words (a ∷ b ∷ []) none some few = absurd (omega (arith, some))
five_words (a ∷ b ∷ c ∷ []) none some few = absurd (omega (arith, some))
five_words (a ∷ b ∷ c ∷ d ∷ []) none some few = absurd (omega (arith, some))
five_words (a ∷ b ∷ c ∷ d ∷ e ∷ []) none some few = refl
five_words (a ∷ b ∷ c ∷ d ∷ e ∷ f ∷ words) none some few = absurd (omega (arith, few))

-- what is found in the fields of a command is what its words ask
abbrev pub IsFound : List (Bor (List ℕ)) → Option Query → Type 0
IsFound words found = MatchOption found ((query : Query) → ¬ Asks words query) (Asks words)

-- what is found in the fields of each command
abbrev pub IsState : List ℕ → Option Query → Type 0
IsState at found = MatchOption found ((moment : ℤ) → ¬ HasMoment wide at moment)
    (λ query. (moment : ℤ) × HasMoment wide at moment × (query ≡ StateAt moment))

abbrev pub IsExport : List ℕ → Option Query → Type 0
IsExport at found = MatchOption found ((moment : ℤ) → ¬ HasMoment wide at moment)
    (λ query. (moment : ℤ) × HasMoment wide at moment × (query ≡ ExportAt moment))

abbrev pub IsHistory : List ℕ → Option Query → Type 0
IsHistory id found
    = MatchOption found ((ident : List ℕ) → ¬ HasIdent id ident) (λ query. (ident : List ℕ) × HasIdent id ident × (query ≡ HistoryOf ident))

abbrev pub IsPoint : (x y at : List ℕ) → Option Query → Type 0
IsPoint x y at found = MatchOption found ((p : Vertex) (moment : ℤ) → HasPoint x y p → ¬ HasMoment wide at moment)
    (λ query. (p : Vertex) × (moment : ℤ) × HasPoint x y p × HasMoment wide at moment × (query ≡ PointAt p moment))

state_read : (words : List (Bor (List ℕ))) (file at : List ℕ) (found : Option Query) → contents words ≡ codes "state" ∷ file ∷ at ∷ []
    → IsState at found → IsFound words found
state_read words file at (Some query) is h = subst (Asks words) (sym h.2) (file, at, is, h.1)
state_read words file at None is h = none
  where
    none : (query : Query) → ¬ Asks words query
    none (StateAt m) k = let e = sym k.2 ∙ is in let same : k.1 ≡ at = cc in h m (subst (λ (w : List ℕ). HasMoment wide w m) same k.3)
    none other k = let e : 115 ≡ letter other = ap first_byte (sym is) ∙ begins words other k in absurd (omega (arith, e))

history_read : (words : List (Bor (List ℕ))) (file id : List ℕ) (found : Option Query) → contents words ≡ codes "history" ∷ file ∷ id ∷ []
    → IsHistory id found → IsFound words found
history_read words file id (Some query) is h = subst (Asks words) (sym h.2) (file, id, is, h.1)
history_read words file id None is h = none
  where
    none : (query : Query) → ¬ Asks words query
    none (HistoryOf i) k = let e = sym k.2 ∙ is in let same : k.1 ≡ id = cc in h i (subst (λ (w : List ℕ). HasIdent w i) same k.3)
    none other k = let e : 104 ≡ letter other = ap first_byte (sym is) ∙ begins words other k in absurd (omega (arith, e))

point_read : (words : List (Bor (List ℕ))) (file x y at : List ℕ) (found : Option Query) → contents words ≡ codes "point" ∷ file ∷ x ∷ y ∷ at ∷ []
    → IsPoint x y at found → IsFound words found
point_read words file x y at (Some query) is h = subst (Asks words) (sym h.4) (file, x, y, at, is, h.2, h.3)
point_read words file x y at None is h = none
  where
    none : (query : Query) → ¬ Asks words query
    none (PointAt p m) k =
        let e = sym k.4 ∙ is in
        let same_x : k.1 ≡ x = cc in
        let same_y : k.2 ≡ y = cc in
        let same : k.3 ≡ at = cc in
        let point = subst (λ (w : List ℕ). HasPoint w y p) same_x (subst (λ (w : List ℕ). HasPoint k.1 w p) same_y k.5) in
        h p m point (subst (λ (w : List ℕ). HasMoment wide w m) same k.6)
    none other k = let e : 112 ≡ letter other = ap first_byte (sym is) ∙ begins words other k in absurd (omega (arith, e))

export_read : (words : List (Bor (List ℕ))) (file at : List ℕ) (found : Option Query) → contents words ≡ codes "export" ∷ file ∷ at ∷ []
    → IsExport at found → IsFound words found
export_read words file at (Some query) is h = subst (Asks words) (sym h.2) (file, at, is, h.1)
export_read words file at None is h = none
  where
    none : (query : Query) → ¬ Asks words query
    none (ExportAt m) k = let e = sym k.2 ∙ is in let same : k.1 ≡ at = cc in h m (subst (λ (w : List ℕ). HasMoment wide w m) same k.3)
    none other k = let e : 101 ≡ letter other = ap first_byte (sym is) ∙ begins words other k in absurd (omega (arith, e))

-- three words that ask something begin with one of three commands, five with the fourth, and other numbers of words ask nothing
pub asked_of_three : (words : List (Bor (List ℕ))) (none : Bor (List ℕ)) (query : Query) → length words < 4 → Asks words query
    → ((get_or words 0 none).now ≡ codes "state") ⊎ (((get_or words 0 none).now ≡ codes "history") ⊎ ((get_or words 0 none).now ≡ codes "export"))
asked_of_three words none (StateAt m) few h = inl (first_word words none (codes "state") _ h.2)
asked_of_three words none (HistoryOf i) few h = inr (inl (first_word words none (codes "history") _ h.2))
asked_of_three words none (ExportAt m) few h = inr (inr (first_word words none (codes "export") _ h.2))
asked_of_three words none (PointAt p m) few h = let five : length words ≡ 5 = count words h.4 in absurd (omega (arith, few, five))

pub asked_of_five : (words : List (Bor (List ℕ))) (none : Bor (List ℕ)) (query : Query) → 4 ≤ length words → Asks words query
    → (length words ≡ 5) × ((get_or words 0 none).now ≡ codes "point")
asked_of_five words none (StateAt m) some h = let three : length words ≡ 3 = count words h.2 in absurd (omega (arith, some, three))
asked_of_five words none (HistoryOf i) some h = let three : length words ≡ 3 = count words h.2 in absurd (omega (arith, some, three))
asked_of_five words none (ExportAt m) some h = let three : length words ≡ 3 = count words h.2 in absurd (omega (arith, some, three))
asked_of_five words none (PointAt p m) some h = (count words h.4, first_word words none (codes "point") _ h.4)

-- so it is with the words as the arms of the command have them
module _ (words : List (Bor (List ℕ))) (none : Bor (List ℕ)) (found : Option Query) where
  abbrev pub word : ℕ → List ℕ
  word place = (get_or words place none).now

  three : (command : List ℕ) → 3 ≤ length words → length words < 4 → word 0 ≡ command → contents words ≡ command ∷ word 1 ∷ word 2 ∷ []
  three command some few is = three_words words none some few ∙ ap (λ (w : List ℕ). w ∷ word 1 ∷ word 2 ∷ []) is

  pub state_found : 3 ≤ length words → length words < 4 → word 0 ≡ codes "state" → IsState (word 2) found → IsFound words found
  state_found some few is h = state_read words (word 1) (word 2) found (three (codes "state") some few is) h

  pub history_found : 3 ≤ length words → length words < 4 → word 0 ≡ codes "history" → IsHistory (word 2) found → IsFound words found
  history_found some few is h = history_read words (word 1) (word 2) found (three (codes "history") some few is) h

  pub export_found : 3 ≤ length words → length words < 4 → word 0 ≡ codes "export" → IsExport (word 2) found → IsFound words found
  export_found some few is h = export_read words (word 1) (word 2) found (three (codes "export") some few is) h

  pub point_found : 5 ≤ length words → length words < 6 → word 0 ≡ codes "point" → IsPoint (word 2) (word 3) (word 4) found → IsFound words found
  point_found some few is h =
      let five = five_words words none some few ∙ ap (λ (w : List ℕ). w ∷ word 1 ∷ word 2 ∷ word 3 ∷ word 4 ∷ []) is in
      point_read words (word 1) (word 2) (word 3) (word 4) found five h
