-- Which payloads a file of gates and records stands for.
use Rattle.std.specs.Prelude.{◌≡◌, ◌≢◌, ◌⊎◌, ◌<◌, ◌≤◌, ◌^◌, ℕ, List, [], ◌∷◌, ◌++◌, length, codes}
use Rattle.byteorder.specs.Endian.{big_bytes}

-- the first eight bytes of a journal
unfoldable pub mark : List ℕ
mark = codes "BGTJ0001"

-- the payload's length in eight bytes, the greatest first, and the payload
unfoldable pub frame : List ℕ → List ℕ
frame payload = big_bytes 8 (length payload) ++ payload

-- records after open gates, one after another
abbrev pub records : List (List ℕ) → List ℕ
records [] = []
records (payload ∷ payloads) = 1 ∷ frame payload ++ records payloads

-- eight bytes can count each of them
abbrev pub AreShort : List (List ℕ) → Type 0
AreShort [] = Unit {0}
AreShort (payload ∷ payloads) = (length payload < 2 ^ 64) × AreShort payloads

-- from a gate on, these payloads stand after open gates, up to the first closed one
abbrev pub Opens : List ℕ → List (List ℕ) → Type 0
Opens bytes [] = (gate : ℕ) × (rest : List ℕ) × (gate ≢ 1) × (bytes ≡ gate ∷ rest)
Opens bytes (payload ∷ payloads) = (rest : List ℕ) × (length payload < 2 ^ 64) × (bytes ≡ 1 ∷ frame payload ++ rest) × Opens rest payloads

-- The file stands for these payloads. One of at most 9 bytes stands for none, whatever its bytes are; a longer one begins
-- with the mark, and then come the gates.
abbrev pub StandsFor : List ℕ → List (List ℕ) → Type 0
StandsFor file payloads
    = ((length file ≤ 9) × (payloads ≡ [])) ⊎ ((9 < length file) × (gates : List ℕ) × (file ≡ mark ++ gates) × Opens gates payloads)
