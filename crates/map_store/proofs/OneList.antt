-- A file stands for at most one list of messages.
use Rattle.std.proofs.Common.{◌≡◌, List, [], ◌∷◌, ℕ, refl, sym, ap, ◌∙◌, subst}
use Rattle.std.specs.Prelude.{Result, Ok, Err}
use Rattle.message_text.specs.declared.limits.Limits.{Limits}
use Rattle.message_text.specs.declared.message.Message.{Message}
use Rattle.message_text.specs.declared.fault.TextFault.{TextFault}
use Rattle.message_text.specs.Reading.{Reads}
use Rattle.map_rules.specs.State.{State, opening}
use Rattle.map_rules.specs.After.{after}
use Rattle.gate_journal.proofs.One.{one_list_for}
use Rattle.map_store.specs.Stands.{Holds, Stands}

abbrev pub of_ok : {T E : Type 0} → T → Result T E → T
of_ok d (Ok x) = x
of_ok d (Err e) = d

module _
    (one_reading : (limits : Limits) (text : List ℕ) (a b : Result Message TextFault) → Reads limits text a → Reads limits text b → a ≡ b)
    (limits : Limits) where
  -- payloads are those of one list of messages, and leave one state
  one_row : (a b c : State) (ps : List (List ℕ)) (ms ns : List Message) → Holds limits a ps ms b → Holds limits a ps ns c
      → (ms ≡ ns) × (b ≡ c)
  unfolding Holds
  one_row a b c [] [] [] h k = (refl, h ∙ sym k)
  one_row a b c [] [] (n ∷ ns) h k = absurd k
  one_row a b c [] (m ∷ ms) ns h k = absurd h
  one_row a b c (p ∷ ps) [] ns h k = absurd h
  one_row a b c (p ∷ ps) (m ∷ ms) [] h k = absurd k
  one_row a b c (p ∷ ps) (m ∷ ms) (n ∷ ns) h k =
      let same : m ≡ n = ap (of_ok m) (one_reading limits p (Ok m) (Ok n) h.1.read k.1.read) in
      let mids : h.0 ≡ k.0 = h.1.step.1 ∙ ap (after a) same ∙ sym k.1.step.1 in
      let rest = one_row k.0 b c ps ms ns (subst (λ (s : State). Holds limits s ps ms b) mids h.2) k.2 in
      (ap (λ (x : Message). x ∷ ms) same ∙ ap (λ (xs : List Message). n ∷ xs) rest.0, rest.1)

  pub one_list_of : (file : List ℕ) (ms ns : List Message) (s t : State) → Stands limits file ms s → Stands limits file ns t
      → (ms ≡ ns) × (s ≡ t)
  one_list_of file ms ns s t h k =
      one_row opening s t k.payloads ms ns
      (subst (λ (ps : List (List ℕ)). Holds limits opening ps ms s) (one_list_for file h.payloads k.payloads h.gates k.gates) h.holds)
      k.holds
