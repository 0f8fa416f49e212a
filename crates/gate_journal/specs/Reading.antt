-- What stands at one gate of a file, and how a journal is read on from it.
use Rattle.std.specs.Prelude.{◌≡◌, ◌≢◌, ◌⊎◌, ◌<◌, ◌≤◌, ◌+◌, ◌^◌, ℕ, Bool, List, [], ◌∷◌, ◌++◌, length, take, drop, Option, Some, None}
use Rattle.gate_journal.specs.declared.mode.Mode.{Mode}
use Rattle.gate_journal.specs.Journal.{mark, frame, records, AreShort, StandsFor}

-- a journal that is begun: what for, the offset of the gate that comes next, that of the last payload that was handed out,
-- the file's length, whether it was begun for reading on at most nine bytes, and whether the last answer was that the gate is closed
pub record Begun : Type 0 where
  pub mode : Mode
  pub gate : ℕ
  pub last_gate : ℕ
  pub len : ℕ
  pub empty : Bool
  pub at_end : Bool

-- the file has more than nine bytes, and its first eight are not the mark
pub record IsNoJournal (file : List ℕ) : Type 0 where
  pub long : 9 < length file
  pub other : take 8 file ≢ mark

-- at this offset stands a gate that is not open
abbrev pub IsClosedAt : List ℕ → ℕ → Type 0
IsClosedAt file gate = (byte : ℕ) × (rest : List ℕ) × (byte ≢ 1) × (drop gate file ≡ byte ∷ rest)

-- at this offset stands an open gate, after it the record of this payload, and after that the next gate
pub record HasRecordAt (file : List ℕ) (gate : ℕ) (payload : List ℕ) : Type 0 where
  pub rest : List ℕ
  pub bytes : drop gate file ≡ 1 ∷ frame payload ++ rest
  pub next_gate : 0 < length rest
  pub size : length payload < 2 ^ 64

-- at this offset stands an open gate, and after it no whole record with its next gate
pub record IsDamagedAt (file : List ℕ) (gate : ℕ) : Type 0 where
  pub rest : List ℕ
  pub is_open : drop gate file ≡ 1 ∷ rest
  pub no_record : (payload : List ℕ) → ¬ HasRecordAt file gate payload

-- the payload is that of the record at the next gate, or that gate is closed, as which a file of at most nine bytes counts
abbrev pub Hands : List ℕ → Begun → Option (List ℕ) → Type 0
Hands file journal None = (journal.empty ≡ Bool.true) ⊎ IsClosedAt file journal.gate
Hands file journal (Some payload) = HasRecordAt file journal.gate payload

-- the journal goes on after the record, within the file, or stays at its end
abbrev pub Moves : (old new : Begun) → Option (List ℕ) → Type 0
Moves old new None = new ≡ record old { at_end = Bool.true }
Moves old new (Some payload)
    = (new ≡ record old { gate = old.gate + 9 + length payload; last_gate = old.gate; at_end = Bool.false }) × (new.gate < new.len)

-- in the file come the mark, the records of these payloads, all of them open, and then the gate at this offset
pub record IsBehind (file : List ℕ) (gate : ℕ) (payloads : List (List ℕ)) : Type 0 where
  pub rest : List ℕ
  pub bytes : file ≡ mark ++ records payloads ++ rest
  pub place : gate ≡ length (mark ++ records payloads)
  pub some : 0 < length rest
  pub sizes : AreShort payloads
  -- a file of nine bytes that is begun for writing is a new one
  pub fresh : length file ≤ 9 → file ≡ mark ++ 0 ∷ []

-- the journal was begun on this file, and these payloads come before its next gate
pub record IsRead (journal : Begun) (file : List ℕ) (payloads : List (List ℕ)) : Type 0 where
  pub len : journal.len ≡ length file
  pub place : ((journal.empty ≡ Bool.true) × (length file ≤ 9) × (payloads ≡ []))
      ⊎ ((journal.empty ≡ Bool.false) × IsBehind file journal.gate payloads)

-- the file has these payloads, and its first closed gate is at this offset
pub record EndsAt (gate : ℕ) (file : List ℕ) (payloads : List (List ℕ)) : Type 0 where
  pub closed : ℕ
  pub rest : List ℕ
  pub shut : closed ≢ 1
  pub bytes : file ≡ mark ++ records payloads ++ closed ∷ rest
  pub place : gate ≡ length (mark ++ records payloads)
  pub sizes : AreShort payloads

-- what is known of the payloads of a file, where these were read before and this was the answer
abbrev pub ReadsOn : Begun → List ℕ → List (List ℕ) → Option (List ℕ) → Type 0
ReadsOn new file payloads (Some payload) = IsRead new file (payloads ++ payload ∷ [])
ReadsOn new file payloads None
    = IsRead new file payloads × StandsFor file payloads × (new.empty ≡ Bool.false → EndsAt new.gate file payloads)
