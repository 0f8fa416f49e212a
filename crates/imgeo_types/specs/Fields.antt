-- Which bytes are a holder, an identification or a code.
use Rattle.std.specs.Prelude.{◌≡◌, ◌≤◌, ◌⊎◌, ◌-◌, ◌++◌, ℕ, List, length, take, drop, replicate, slice_index}
use Rattle.std.specs.List.{All}
use Rattle.std.specs.Char.{IsAsciiDigit, IsAsciiUppercase, IsAsciiAlphanumeric}

-- one capital letter and four digits
pub record IsHolder (field : List ℕ) : Type 0 where
  pub len : length field ≡ 5
  pub letter : IsAsciiUppercase (slice_index field 0)
  pub digits : All IsAsciiDigit (drop 1 field)

-- the holder in front of an identification
abbrev pub holder_of : List ℕ → List ℕ
holder_of ident = take 5 ident

-- a holder, a full stop, and 32 letters or digits
pub record IsIdent (field : List ℕ) : Type 0 where
  pub len : length field ≡ 38
  pub holder : IsHolder (holder_of field)
  pub stop : slice_index field 5 ≡ 46
  pub behind : All IsAsciiAlphanumeric (drop 6 field)

-- a letter, a digit, an underscore or a dash
abbrev pub IsCodeByte : ℕ → Type 0
IsCodeByte b = IsAsciiAlphanumeric b ⊎ (b ≡ 95) ⊎ (b ≡ 45)

-- 1 to 64 such bytes
pub record IsCode (field : List ℕ) : Type 0 where
  pub some : 1 ≤ length field
  pub most : length field ≤ 64
  pub bytes : All IsCodeByte field

-- the field, and zeros behind it up to 64 bytes
abbrev pub zero_filled : List ℕ → List ℕ
zero_filled field = field ++ replicate (64 - length field) 0

-- the first len bytes are a code, and zeros stand behind it
pub record KeepsCode (bytes : List ℕ) (len : ℕ) : Type 0 where
  pub code : IsCode (take len bytes)
  pub within : length (take len bytes) ≡ len
  pub zeros : zero_filled (take len bytes) ≡ bytes
