-- The payload among the bytes of a frame.
use Rattle.std.specs.Prelude.{◌-◌, ℕ, List, length, take, drop}

-- after its length, and before the next gate
abbrev pub payload_in : List ℕ → List ℕ
payload_in bytes = take (length bytes - 9) (drop 8 bytes)
