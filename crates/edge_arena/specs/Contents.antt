-- What an arena holds, now and at the last `keep`.
use Rattle.std.specs.Prelude.{◌≡◌, ◌≢◌, ◌-◌, ℕ, List, [], length, Option, None, slice_index_or}

-- what the slots hold, and the free ones, of which the last is used first
pub record Contents (T : Type 0) : Type 0 where
  pub slots : List (Option T)
  pub free : List ℕ

-- what an arena holds, what it held at the last `keep`, and how many changes it has room for
pub record Holding (T : Type 0) : Type 0 where
  pub now : Contents T
  pub kept : Contents T
  pub spare : ℕ

-- no slot, live or free
abbrev pub nothing : {T : Type 0} → Contents T
nothing = record { slots = []; free = [] }

-- the value at a slot, or None where it is not live
abbrev pub value_at : {T : Type 0} → Contents T → ℕ → Option T
value_at c s = slice_index_or c.slots s None

-- the slot that the next value gets: the last free one, or a new one
abbrev pub next_slot : {T : Type 0} → Contents T → ℕ
next_slot c = slice_index_or c.free (length c.free - 1) (length c.slots)

-- the slot holds that, and every other slot what it held
pub record Changes {T : Type 0} (old new : Contents T) (slot : ℕ) (value : Option T) : Type 0 where
  pub there : value_at new slot ≡ value
  pub elsewhere : (s : ℕ) → s ≢ slot → value_at new s ≡ value_at old s
