-- The bytes of canonical texts, one after the other, are cut into just these texts.
use Rattle.std.proofs.Common.{◌≡◌, ◌∙◌, ◌<◌, ℕ, refl, sym, ap, arith, inl, inr, List, [], ◌∷◌, ◌++◌, append_assoc, codes, drop, length, subst, take}
use Rattle.std.specs.Prelude.{◌==◌, ℤ, zero, suc, true, false, Bool, cond}
use Rattle.std.specs.List.{flat_map, join_with_byte, onto_first, slice_split}
use Rattle.std.proofs.Math.Seq.{drop-append_seam, take-append_seam, take-length}
use Rattle.std.proofs.lemmas.List.{length-drop, take-append-drop}
use Rattle.std.proofs.lemmas.List.Splits.{join_with_byte-slice_split}
use Rattle.line_feed.specs.Texts.{AreTexts, EndsText, IsFirstText}
use Rattle.line_feed.proofs.FirstText.{first_stays, not_empty}
use Rattle.message_text.specs.declared.message.Message.{Message}
use Rattle.message_text.specs.Spelling.{printed}
use Rattle.message_text.specs.Texts.{AreLines, IsCanonical}
use Rattle.moment_query.specs.Exports.{AreTexts as AreTextsOf, IsExportText, exported}
use Rattle.map_rules.specs.State.{State}
use Rattle.export_law.proofs.LastLine.{EndsOnce, NoEnds, all_go_on, before_last, ende, ends_once, lines_are}

-- ---- bytes and their lines
abbrev split : List ℕ → List (List ℕ)
split bytes = slice_split (λ b. b == 10) bytes

abbrev is_feed : ℕ → Bool
is_feed b = b == 10

-- there is a first line
some_line : (bytes : List ℕ) → (line : List ℕ) × (lines : List (List ℕ)) × (split bytes ≡ line ∷ lines)
some_line [] = ([], [], refl)
some_line (b ∷ bytes) = by (is_feed b) (some_line bytes)
  where
    by : (t : Bool) → (line : List ℕ) × (lines : List (List ℕ)) × (split bytes ≡ line ∷ lines)
        → (line : List ℕ) × (lines : List (List ℕ)) × (cond t ([] ∷ split bytes) (onto_first b (split bytes)) ≡ line ∷ lines)
    by true k = ([], split bytes, refl)
    by false k = (b ∷ k.0, k.1, ap (onto_first b) k.2)

-- a line feed parts the lines before it and behind it
split_feed : (xs ys : List ℕ) → split (xs ++ 10 ∷ ys) ≡ split xs ++ split ys
split_feed [] ys = refl
split_feed (x ∷ xs) ys = by (is_feed x) (split_feed xs ys) (some_line xs)
  where
    onto : (l r : List (List ℕ)) → (line : List ℕ) × (lines : List (List ℕ)) × (l ≡ line ∷ lines)
        → onto_first x (l ++ r) ≡ onto_first x l ++ r
    onto l r k = ap (λ (z : List (List ℕ)). onto_first x (z ++ r)) k.2 ∙ sym (ap (λ (z : List (List ℕ)). onto_first x z ++ r) k.2)

    by : (t : Bool) → split (xs ++ 10 ∷ ys) ≡ split xs ++ split ys → (line : List ℕ) × (lines : List (List ℕ)) × (split xs ≡ line ∷ lines)
        → cond t ([] ∷ split (xs ++ 10 ∷ ys)) (onto_first x (split (xs ++ 10 ∷ ys))) ≡ cond t ([] ∷ split xs)
        (onto_first x (split xs)) ++ split ys
    by true e k = ap (λ (l : List (List ℕ)). [] ∷ l) e
    by false e k = ap (onto_first x) e ∙ onto (split xs) (split ys) k

-- bytes whose last line is the end
ends_by : (front : List (List ℕ)) → EndsText (join_with_byte 10 (front ++ ende ∷ [] ∷ []))
ends_by [] = inl refl
ends_by (line ∷ []) = inr (line, refl)
ends_by (line ∷ other ∷ front) = behind (join_with_byte 10 ((other ∷ front) ++ ende ∷ [] ∷ [])) (ends_by (other ∷ front))
  where
    behind : (bytes : List ℕ) → EndsText bytes → EndsText (line ++ 10 ∷ bytes)
    behind bytes (inl e) = inr (line, ap (λ (b : List ℕ). line ++ 10 ∷ b) e)
    behind bytes (inr e) =
        inr (line ++ 10 ∷ e.0, ap (λ (b : List ℕ). line ++ 10 ∷ b) e.1 ∙ sym (append_assoc line (10 ∷ e.0) (codes "\nEINDE\n")))

-- where a text ends, a line that is the end ends
record EndsLine (bytes : List ℕ) : Type 0 where
  before : List ℕ
  front : List (List ℕ)
  is : bytes ≡ before ++ 10 ∷ []
  lines : split before ≡ front ++ ende ∷ []

ends_line : (bytes : List ℕ) → EndsText bytes → EndsLine bytes
ends_line bytes (inl e) = record { before = ende; front = []; is = e; lines = refl }
ends_line bytes (inr e) = record {
  before = e.0 ++ 10 ∷ ende;
  front = split e.0;
  is = e.1 ∙ sym (append_assoc e.0 (10 ∷ ende) (10 ∷ []));
  lines = split_feed e.0 ende;
}

-- an end that is not the last line is not there
no_other_end : (front lines rest : List (List ℕ)) → NoEnds lines → front ++ ende ∷ rest ≡ lines ++ ende ∷ [] ∷ [] → rest ≡ [] ∷ []
no_other_end [] [] rest n e = cc
no_other_end [] (line ∷ lines) rest n e = let q : ende ≡ line = cc in absurd (n.0 (sym q))
no_other_end (a ∷ []) [] rest n e = cc
no_other_end (a ∷ b ∷ []) [] rest n e = cc
no_other_end (a ∷ b ∷ c ∷ front) [] rest n e = cc
no_other_end (a ∷ front) (line ∷ lines) rest n e = let q : front ++ ende ∷ rest ≡ lines ++ ende ∷ [] ∷ [] = cc in no_other_end front lines
    rest n.1 q

-- ---- one text
module _ (text : List ℕ) (m : Message) (c : IsCanonical text m) where
  once : EndsOnce c.lines
  once = ends_once c.lines (before_last m) (all_go_on m) (subst (AreLines printed c.lines) (lines_are m) c.is_text.lines_are)

  split_is : split text ≡ once.front ++ ende ∷ [] ∷ []
  split_is = c.whole ∙ (ap (λ (l : List (List ℕ)). l ++ [] ∷ []) once.is ∙ append_assoc once.front (ende ∷ []) ([] ∷ []))

  ends : EndsText text
  ends = subst EndsText (sym (ap (join_with_byte 10) split_is) ∙ join_with_byte-slice_split 10 text) (ends_by once.front)

  -- no text ends before
  not_before : (k : ℕ) → k < length text → EndsText (take k text) → ⊥
  not_before k short e =
      let l = ends_line (take k text) e in
      let rest = drop k text in
      let whole : text ≡ l.before ++ 10 ∷ rest = sym (take-append-drop k text)
      ∙ (ap (λ (b : List ℕ). b ++ rest) l.is ∙ append_assoc l.before (10 ∷ []) rest) in
      let parts : split text ≡ (l.front ++ ende ∷ []) ++ split rest = ap split whole
      ∙ (split_feed l.before rest ∙ ap (λ (x : List (List ℕ)). x ++ split rest) l.lines) in
      let same = sym (append_assoc l.front (ende ∷ []) (split rest)) ∙ (sym parts ∙ split_is) in
      let none : rest ≡ [] = sym (join_with_byte-slice_split 10 rest)
      ∙ ap (join_with_byte 10) (no_other_end l.front once.front (split rest) once.no_ends same) in
      let count : length rest ≡ 0 = ap length none in
      omega (arith, short, count, length-drop k text)

  pub first : IsFirstText text (length text)
  first = record { within = omega arith; ends = subst EndsText (sym (take-length text)) ends; first = not_before }

-- ---- texts one after the other
nothing_ends : (k : ℕ) → EndsText (take k []) → ⊥
nothing_ends zero ends = not_empty ends
nothing_ends (suc k) ends = not_empty ends

pub cut : (texts : List (List ℕ)) (messages : List Message) → AreTextsOf texts messages → AreTexts (flat_map (λ text. text) texts) texts []
unfolding AreTextsOf
cut [] [] are = (λ k none ends. nothing_ends k ends, refl)
cut [] (m ∷ messages) are = absurd are
cut (text ∷ texts) [] are = absurd are
cut (text ∷ texts) (m ∷ messages) are =
    let rest = flat_map (λ t. t) texts in
    let later = subst (λ b. AreTexts b texts []) (sym (drop-append_seam text rest)) (cut texts messages are.1) in
    (first_stays text rest (length text) (first text m are.0), sym (take-append_seam text rest), later)

pub export_cut : (s : State) (moment : ℤ) (bytes : List ℕ) (e : IsExportText s moment bytes) → AreTexts bytes e.texts []
export_cut s moment bytes e = subst (λ b. AreTexts b e.texts []) (sym e.joined) (cut e.texts (exported s moment) e.are)
