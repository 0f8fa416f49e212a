-- Payloads and the messages that the register takes of them, one more.
use Rattle.std.proofs.Common.{◌≡◌, ◌⊎◌, inl, inr, List, [], ◌∷◌, ◌++◌, ◌+◌, ℕ, length, arith, refl, ap, subst}
use Rattle.message_text.specs.declared.limits.Limits.{Limits}
use Rattle.message_text.specs.declared.message.Message.{Message}
use Rattle.map_rules.specs.State.{State, opening}
use Rattle.gate_journal.specs.Settled.{IsBeforeOrAfter}
use Rattle.map_store.specs.Stands.{Holds, IsNextRecord, Stands}

pub holds-push : (limits : Limits) (a b c : State) (ps : List (List ℕ)) (ms : List Message) (p : List ℕ) (m : Message)
    → Holds limits a ps ms b → IsNextRecord limits b p m c → Holds limits a (ps ++ p ∷ []) (ms ++ m ∷ []) c
unfolding Holds
holds-push limits a b c [] [] p m h n = (c, subst (λ (s : State). IsNextRecord limits s p m c) h n, refl)
holds-push limits a b c [] (l ∷ ms) p m h n = absurd h
holds-push limits a b c (q ∷ ps) [] p m h n = absurd h
holds-push limits a b c (q ∷ ps) (l ∷ ms) p m h n = (h.0, h.1, holds-push limits h.0 b c ps ms p m h.2 n)

pub holds-none : (limits : Limits) (a : State) → Holds limits a [] [] a
unfolding Holds
holds-none limits a = refl

-- the register counts the messages that it takes
pub holds_count : (limits : Limits) (a b : State) (ps : List (List ℕ)) (ms : List Message) → Holds limits a ps ms b
    → b.accepted ≡ a.accepted + length ms
unfolding Holds
holds_count limits a b [] [] h = omega (arith, ap (λ (s : State). s.accepted) h)
holds_count limits a b [] (l ∷ ms) h = absurd h
holds_count limits a b (q ∷ ps) [] h = absurd h
holds_count limits a b (q ∷ ps) (l ∷ ms) h = omega (arith, holds_count limits h.0 b ps ms h.2, ap (λ (s : State). s.accepted) h.1.step.1)

-- an image that stands for the payloads of messages, or for one payload more
pub stands_before_or_with : (limits : Limits) (b c : State) (ps : List (List ℕ)) (ms : List Message) (p : List ℕ) (m : Message)
    → Holds limits opening ps ms b → IsNextRecord limits b p m c → (image : List ℕ) → IsBeforeOrAfter ps p image
    → Stands limits image ms b ⊎ Stands limits image (ms ++ m ∷ []) c
stands_before_or_with limits b c ps ms p m h n image (inl s) = inl (record { payloads = ps; gates = s; holds = h })
stands_before_or_with limits b c ps ms p m h n image (inr s)
    = inr (record { payloads = ps ++ p ∷ []; gates = s; holds = holds-push limits opening b c ps ms p m h n })
