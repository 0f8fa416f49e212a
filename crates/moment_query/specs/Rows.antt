-- The lines of a query's text: what each says, and its bytes.
use Rattle.std.specs.Prelude.{◌≡◌, ◌++◌, ℕ, ℤ, List, [], ◌∷◌, Option, Some, None, codes}
use Rattle.field_text.specs.Forms.{IsDay, IsPrintedMoment}
use Rattle.message_text.specs.declared.token.Token.{Token}
use Rattle.message_text.specs.Fields.{spaced}
use Rattle.message_text.specs.Lines.{text_of}
use Rattle.message_text.specs.Spelling.{printed}
use Rattle.message_text.specs.Tokens.{IsLine}

-- what one line says: whose area follows and when it holds, whose object follows, when it holds and on which day the object
-- ended, what a line of a message says, or one word
pub data Row : Type 0 where
  AreaOf : List ℕ → ℤ → Option ℤ → Row
  ObjectOf : List ℕ → ℤ → Option ℤ → Option ℤ → Row
  Says : Token → Row
  Word : List ℕ → Row

-- the moment, or a dash where there is none
abbrev pub IsEnd : List ℕ → Option ℤ → Type 0
IsEnd field None = field ≡ codes "-"
IsEnd field (Some moment) = IsPrintedMoment field moment

-- the day, or a dash where there is none
abbrev pub IsEndDay : List ℕ → Option ℤ → Type 0
IsEndDay field None = field ≡ codes "-"
IsEndDay field (Some day) = IsDay field day

-- the line says this
abbrev pub IsRow : List ℕ → Row → Type 0
IsRow line (AreaOf holder since until) = (from : List ℕ) × (to : List ℕ) × IsPrintedMoment from since × IsEnd to until
    × (line ≡ codes "GEBIED" ++ spaced (holder ∷ from ∷ to ∷ []))
IsRow line (ObjectOf holder since until end_day)
    = (from : List ℕ) × (to : List ℕ) × (day : List ℕ) × IsPrintedMoment from since × IsEnd to until
    × IsEndDay day end_day
    × (line ≡ codes "OBJECT" ++ spaced (holder ∷ from ∷ to ∷ day ∷ []))
IsRow line (Says token) = IsLine printed line token
IsRow line (Word word) = line ≡ word

-- one line for each, and it says that
abbrev pub AreRows : List (List ℕ) → List Row → Type 0
AreRows [] [] = Unit {0}
AreRows (line ∷ lines) (row ∷ rows) = IsRow line row × AreRows lines rows
AreRows _ _ = ⊥

-- the lines that say this stand after the old bytes
pub record PushesRows (rows : List Row) (old new : List ℕ) : Type 0 where
  pub lines : List (List ℕ)
  pub say : AreRows lines rows
  pub pushed : new ≡ old ++ text_of lines

-- the bytes are the lines that say this
abbrev pub IsTextOf : List ℕ → List Row → Type 0
IsTextOf text rows = PushesRows rows [] text
