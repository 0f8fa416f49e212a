-- The register over many messages, and over the texts that they stand in.
use Rattle.std.specs.Prelude.{◌≡◌, ◌⊎◌, ℕ, Bool, List, [], ◌∷◌, map, filter, Option, Some, None, is_none, is_some, not}
use Rattle.std.specs.List.{All}
use Rattle.std.specs.Str.{bytes_eq}
use Rattle.message_text.specs.declared.limits.Limits.{Limits}
use Rattle.message_text.specs.declared.message.Message.{Message}
use Rattle.map_rules.specs.declared.refusal.Refusal.{Refusal}
use Rattle.map_rules.specs.Runs.{IsRead, IsUnread}
use Rattle.map_rules.specs.After.{after}
use Rattle.map_rules.specs.State.{State}
use Rattle.alone_law.specs.Agreeing.{IsLocal}
use Rattle.alone_law.specs.Folding.{Runs, Told, entry_of, own_of}
use Rattle.alone_law.specs.Judging.{Cause, Judged, no_holder_more}

-- a message and its answer: None where it was taken
abbrev pub Event : Type 0
Event = Told Message (Option Cause)

-- from s, the register answers the message so and goes on to t
abbrev pub Moves : Limits → State → Message → Option Cause → State → Type 0
Moves limits s m None t = Judged limits s m None × (t ≡ after s m)
Moves limits s m (Some cause) t = Judged limits s m (Some cause) × (t ≡ s)

-- these are the messages of the texts, in their order; a text that cannot be read has none
unfoldable pub AreMessagesOf : Limits → List (List ℕ) → List Message → Type 0
AreMessagesOf limits [] ms = ms ≡ []
AreMessagesOf limits (text ∷ texts) ms =
    ((r : Refusal) × IsUnread limits text r × AreMessagesOf limits texts ms) ⊎
    ((m : Message) × (rest : List Message) × IsRead limits text m × AreMessagesOf limits texts rest × (ms ≡ m ∷ rest))

-- from s, the register reads and answers the texts: one that cannot be read leaves it as it is
pub record RunsTexts (limits : Limits) (s : State) (texts : List (List ℕ)) (es : List Event) (t : State) : Type 0 where
  pub read : AreMessagesOf limits texts (map entry_of es)
  pub answered : Runs (Moves limits) s es t

-- ---- of one holder
abbrev pub is_message_of : List ℕ → Message → Bool
is_message_of holder m = bytes_eq m.holder holder

-- the holder's messages with their answers
abbrev pub own_events : List ℕ → List Event → List Event
own_events holder es = own_of (is_message_of holder) es

-- the message has an area block
abbrev pub has_area : Message → Bool
has_area m = is_some m.area

-- the answer is not that there is no room for one more holder
abbrev pub HasRoom : Option Cause → Type 0
HasRoom answer = answer ≡ Some no_holder_more → ⊥

-- each message is local to the holder, and none of the holder's is refused because the register has no room for one more holder
pub record IsIsolated (holder : List ℕ) (es : List Event) : Type 0 where
  pub local : All (λ (e : Event). IsLocal holder e.entry) es
  pub room : All (λ (e : Event). HasRoom e.answer) (own_events holder es)

-- whether the answer is that the message is taken
abbrev pub is_taken : Option Cause → Bool
is_taken answer = is_none answer

-- the holder's messages with an area block, with their answers
abbrev pub area_events : List ℕ → List Event → List Event
area_events holder es = filter (λ (e : Event). has_area e.entry) (own_events holder es)

-- and the holder's messages without one
abbrev pub plain_events : List ℕ → List Event → List Event
plain_events holder es = filter (λ (e : Event). not (has_area e.entry)) (own_events holder es)

-- the holder's messages are the same in the same order, and of those with an area block the same are taken
pub record AreAlike (holder : List ℕ) (es fs : List Event) : Type 0 where
  pub messages : map entry_of (own_events holder es) ≡ map entry_of (own_events holder fs)
  pub areas : map (λ (e : Event). is_taken e.answer) (area_events holder es) ≡ map (λ (e : Event). is_taken e.answer)
      (area_events holder fs)
