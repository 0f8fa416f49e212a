-- The records of messages in the file, and whether they have room there.
use Rattle.std.specs.Prelude.{◌≡◌, ◌⊎◌, ◌≤◌, ◌+◌, ℕ, List, [], ◌∷◌, ◌++◌, length}
use Rattle.message_text.specs.declared.limits.Limits.{Limits}
use Rattle.message_text.specs.declared.message.Message.{Message}
use Rattle.message_text.specs.Texts.{IsCanonical}

-- how many bytes the records of these payloads have, each with its gate
abbrev pub size_of : List (List ℕ) → ℕ
size_of [] = 0
size_of (payload ∷ payloads) = 9 + length payload + size_of payloads

-- the payloads are the canonical texts of these messages
abbrev pub AreCanonical : List (List ℕ) → List Message → Type 0
AreCanonical [] [] = Unit {0}
AreCanonical (payload ∷ payloads) (m ∷ messages) = IsCanonical payload m × AreCanonical payloads messages
AreCanonical _ _ = ⊥

-- the records of these messages, after the mark and with the last gate, end within the limit on the file
pub record HaveRoom (limits : Limits) (messages : List Message) : Type 0 where
  pub payloads : List (List ℕ)
  pub canonical : AreCanonical payloads messages
  pub within : 9 + size_of payloads ≤ limits.journal_bytes

-- nothing was added to the first messages, or the records of all have room
abbrev pub AddedWithRoom : Limits → (first added : List Message) → Type 0
AddedWithRoom limits first added = (added ≡ []) ⊎ HaveRoom limits (first ++ added)
