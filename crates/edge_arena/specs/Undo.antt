-- The log of an arena, by which its changes are taken back.
--
--    change    Began      Reused 3       Grown          Changed 1 v      Removed 0 v
--    undone    no slot    3 is free      the last slot  1 holds v        0 holds v, and is
--              is left    again, as the  is gone        again            no longer the last
--                         last free one                                  free one
--
-- Behind Began nothing is logged: what came since is gone with the first slot.
use Rattle.std.specs.Prelude.{◌≡◌, ◌-◌, ◌+◌, ◌≤◌, ◌<◌, ◌⊎◌, ⊤, ℕ, cond, eqb, ltb, List, [], ◌∷◌, ◌++◌, length, take, Option, Some, None, slice_index_or, slice_set, count_by}
use Rattle.edge_arena.specs.Contents.{Contents, nothing}
use Rattle.edge_arena.specs.declared.arena.Change.{Change}
use Rattle.edge_arena.specs.declared.arena.Change.TheVariants.{Began, Reused, Grown, Changed, Removed}

-- what stood before the change
abbrev pub undo : {T : Type 0} → Change T → Contents T → Contents T
undo Began c = nothing
undo (Reused s) c = record { slots = slice_set c.slots s None; free = c.free ++ s ∷ [] }
undo Grown c = record { slots = take (length c.slots - 1) c.slots; free = c.free }
undo (Changed s v) c = record { slots = slice_set c.slots s (Some v); free = c.free }
undo (Removed s v) c = record { slots = slice_set c.slots s (Some v); free = take (length c.free - 1) c.free }

-- what stood before all changes of the log, of which the last is undone first
abbrev pub undo_all : {T : Type 0} → List (Change T) → Contents T → Contents T
undo_all [] c = c
undo_all (x ∷ xs) c = undo x (undo_all xs c)

-- the change is logged behind the others, unless these take all back already
abbrev pub IsNoted : {T : Type 0} → List (Change T) → Change T → List (Change T) → Type 0
IsNoted {T} old x new = (new ≡ old ++ x ∷ []) ⊎ ((new ≡ old) × ((init : List (Change T)) × (old ≡ init ++ Began ∷ [])))

-- 1 where there is a value, else 0
abbrev pub live : {T : Type 0} → Option T → ℕ
live None = 0
live (Some v) = 1

-- how often the slot stands in the free list
abbrev pub times : ℕ → List ℕ → ℕ
times s free = count_by (λ f. eqb f s) free

-- each slot is either live or stands once in the free list
abbrev pub IsExact : {T : Type 0} → List (Option T) → List ℕ → Type 0
IsExact slots free = (s : ℕ) → times s free + live (slice_index_or slots s None) ≡ cond (ltb s (length slots)) 1 0

-- the free list is exact, and both lists have room
pub record IsSoundArena {T : Type 0} (slot_room free_room : ℕ) (c : Contents T) : Type 0 where
  pub exact : IsExact c.slots c.free
  pub slots_fit : length c.slots ≤ slot_room
  pub free_fit : length c.free ≤ free_room

-- the slot of the change is one of the slots
abbrev pub MayUndo : {T : Type 0} → Change T → Contents T → Type 0
MayUndo Began c = ⊤
MayUndo (Reused s) c = s < length c.slots
MayUndo Grown c = 0 < length c.slots
MayUndo (Changed s v) c = s < length c.slots
MayUndo (Removed s v) c = s < length c.slots

-- each state that undoing goes through is sound
abbrev pub AreSound : {T : Type 0} → ℕ → ℕ → List (Change T) → Contents T → Type 0
AreSound m n [] c = IsSoundArena m n c
AreSound m n (x ∷ xs) c = AreSound m n xs c × MayUndo x (undo_all xs c) × IsSoundArena m n (undo x (undo_all xs c))
