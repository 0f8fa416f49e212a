-- What the calls of an outside do: the bytes that move, and the counts that rise where one fails.
use Rattle.std.specs.Prelude.{◌≡◌, ◌<◌, ◌≤◌, ◌+◌, ◌-◌, ◌^◌, ℕ, min, List, [], ◌++◌, length, take, drop, Option, Some, Result, Ok, Err, OnErr, IfSome, option_map}
use Rattle.outside.specs.Crash.{Torn}

-- what is known of it: the input that is left, the bytes told so far, and what a read of the disk gives;
-- None stands for what it does not tell
pub record Shown : Type 0 where
  pub input : Option (List ℕ)
  pub told : Option (List ℕ)
  pub disk : Option (List ℕ)

-- how often a call that reads the input failed, one that writes the output, and one of the disk
pub record Faults : Type 0 where
  pub reads : ℕ
  pub writes : ℕ
  pub disks : ℕ

-- a count of 64 bits is greater than before, or stands at its end
abbrev pub Rose : ℕ → ℕ → Type 0
Rose before now = now < 2 ^ 64 - 1 → before < now

-- no count fell
pub record NoneFell (before now : Faults) : Type 0 where
  pub reads : before.reads ≤ now.reads
  pub writes : before.writes ≤ now.writes
  pub disks : before.disks ≤ now.disks

-- no count fell, and where the call failed its own count rose
pub record HasCause {T E : Type 0} (count : Faults → ℕ) (before now : Faults) (result : Result T E) : Type 0 where
  pub later : NoneFell before now
  pub failed : OnErr result (Rose (count before) (count now))

-- the next n bytes of the input stand in front of the buffer, and none is its end
pub record IsNextPiece (input buffer : List ℕ) (n : ℕ) : Type 0 where
  pub within : n ≤ length input
  pub front : take n buffer ≡ take n input
  pub at_end : n ≡ 0 → input ≡ []

-- n bytes of the input are in the buffer, and the others are left
pub record TakesBytes (old new : Shown) (n : ℕ) (buffer : List ℕ) : Type 0 where
  pub fits : n ≤ length buffer
  pub left : new ≡ record old { input = option_map (drop n) old.input }
  pub next : IfSome old.input (λ input. IsNextPiece input buffer n)

-- the next bytes of the input are taken, or nothing is
abbrev pub Takes : {E : Type 0} → Shown → Shown → Result ℕ E → List ℕ → Type 0
Takes old new (Ok n) buffer = TakesBytes old new n buffer
Takes old new (Err e) buffer = new ≡ old

-- the first n bytes of the piece are told, at least one where it is not empty
pub record GivesBytes (old new : Shown) (n : ℕ) (piece : List ℕ) : Type 0 where
  pub within : n ≤ length piece
  pub some : 0 < length piece → 0 < n
  pub more : new ≡ record old { told = option_map (λ told. told ++ take n piece) old.told }

-- the first bytes of the piece are told, or nothing is
abbrev pub Gives : {E : Type 0} → Shown → Shown → Result ℕ E → List ℕ → Type 0
Gives old new (Ok n) piece = GivesBytes old new n piece
Gives old new (Err e) piece = new ≡ old

-- the length of the file, where it is told
abbrev pub Measures : {E : Type 0} → Shown → Shown → Result ℕ E → Type 0
Measures old new (Ok n) = (new ≡ old) × IfSome old.disk (λ file. n ≡ length file)
Measures old new (Err e) = new ≡ old

-- the front of the buffer has the file's bytes from an offset on, as many as the file has there and the buffer holds
pub record ReadsBytes (old new : Shown) (at n : ℕ) (buffer : List ℕ) : Type 0 where
  pub fits : n ≤ length buffer
  pub same : new ≡ old
  pub amount : IfSome old.disk (λ file. n ≡ min (length buffer) (length file - at))
  pub front : IfSome old.disk (λ file. take n buffer ≡ take n (drop at file))

abbrev pub Reads : {E : Type 0} → Shown → Shown → Result ℕ E → ℕ → List ℕ → Type 0
Reads old new (Ok n) at buffer = ReadsBytes old new at n buffer
Reads old new (Err e) at buffer = new ≡ old

-- the file with these bytes at this offset
abbrev pub written : ℕ → List ℕ → List ℕ → List ℕ
written at bytes file = take at file ++ bytes ++ drop (at + length bytes) file

-- what is shown but for the disk is as before, and the file may have any bytes in the range
pub record Spoils (old new : Shown) (at n : ℕ) : Type 0 where
  pub rest : new ≡ record old { disk = new.disk }
  pub disk : IfSome old.disk (λ file. (torn : List ℕ) × (new.disk ≡ Some torn) × Torn at n file torn)

-- the bytes stand at the offset, or the range may read as anything
abbrev pub Writes : {E : Type 0} → Shown → Shown → Result Unit E → ℕ → List ℕ → Type 0
Writes old new (Ok done) at bytes = new ≡ record old { disk = option_map (written at bytes) old.disk }
Writes old new (Err e) at bytes = Spoils old new at (length bytes)
