-- A step of any kind over a list of entries, each with its answer.
use Rattle.std.specs.Prelude.{◌≡◌, Bool, List, [], ◌∷◌, filter}

-- an entry and its answer
pub record Told (E A : Type 0) : Type 0 where
  pub entry : E
  pub answer : A

-- from s, the entries are answered so, one after another, and t comes of it
unfoldable pub Runs : {S E A : Type 0} → (S → E → A → S → Type 0) → S → List (Told E A) → S → Type 0
Runs moves s [] t = t ≡ s
Runs {S} moves s (e ∷ es) t = (mid : S) × moves s e.entry e.answer mid × Runs moves mid es t

-- the entries are taken, one after another
unfoldable pub Replays : {S E : Type 0} → (S → E → Type 0) → (S → E → S) → S → List E → Type 0
Replays takes after s [] = Unit {0}
Replays takes after s (e ∷ es) = takes s e × Replays takes after (after s e) es

-- the entry without its answer
abbrev pub entry_of : {E A : Type 0} → Told E A → E
entry_of e = e.entry

-- the entries, with their answers, that are of this kind
abbrev pub own_of : {E A : Type 0} → (E → Bool) → List (Told E A) → List (Told E A)
own_of {E} {A} is_own es = filter (λ (e : Told E A). is_own e.entry) es
