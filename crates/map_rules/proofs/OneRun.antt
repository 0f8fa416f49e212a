-- A text has one answer, and a run over texts one outcome.
use Rattle.std.proofs.Common.{◌≡◌, ◌∙◌, ℕ, List, [], ◌∷◌, Option, Some, None, ap, sym, refl, subst, inl, inr, arith}
use Rattle.std.specs.Prelude.{◌⊎◌, ◌<◌, ◌≤◌, length, Ok, Err}
use Rattle.message_text.specs.declared.fault.TextFault.{TextFault}
use Rattle.message_text.specs.declared.fault.TextFault.TheVariants as fault
use Rattle.message_text.specs.declared.limits.Limits.{Limits}
use Rattle.message_text.specs.declared.message.Message.{Message}
use Rattle.message_text.specs.Reading.{Reads}
use Rattle.message_text.proofs.TextLaws.{one_reading}
use Rattle.map_rules.specs.declared.refusal.Answer.{Answer}
use Rattle.map_rules.specs.declared.refusal.Answer.TheVariants.{Taken, Refused}
use Rattle.map_rules.specs.declared.refusal.Refusal.{Refusal}
use Rattle.map_rules.specs.declared.refusal.Refusal.TheVariants.{TooLong, Syntax, Arc, Limit}
use Rattle.map_rules.specs.Runs.{IsUnread, IsRead, AnswersText, Run}
use Rattle.map_rules.specs.State.{State}
use Rattle.map_rules.specs.Steps.{Step, Decision}

-- the refusal for what was wrong in reading
abbrev refusal_of : TextFault → Refusal
refusal_of (fault.Syntax line) = Syntax line
refusal_of (fault.Arc line) = Arc line
refusal_of (fault.Limit which) = Limit which
refusal_of fault.NoMemory = TooLong

-- the text is not too long, and this is what is wrong in reading it
record IsFaulty (limits : Limits) (text : List ℕ) (r : Refusal) : Type 0 where
  fault : TextFault
  short : length text ≤ limits.message_bytes
  reads : Reads limits text (Err fault)
  is : r ≡ refusal_of fault

-- a text without a message is too long, or faulty
unread_cases : (limits : Limits) (text : List ℕ) (r : Refusal) → IsUnread limits text r
    → ((limits.message_bytes < length text) × (r ≡ TooLong)) ⊎ IsFaulty limits text r
unread_cases limits text TooLong h = inl (h, refl)
unread_cases limits text (Syntax line) h = inr (record { fault = fault.Syntax line; short = h.0; reads = h.1; is = refl })
unread_cases limits text (Arc line) h = inr (record { fault = fault.Arc line; short = h.0; reads = h.1; is = refl })
unread_cases limits text (Limit which) h = inr (record { fault = fault.Limit which; short = h.0; reads = h.1; is = refl })
unread_cases limits text _ h = absurd h

-- a text that has no message has none for one reason
one_unread : (limits : Limits) (text : List ℕ) (r s : Refusal) → IsUnread limits text r → IsUnread limits text s → r ≡ s
one_unread limits text r s h k = same (unread_cases limits text r h) (unread_cases limits text s k)
  where
    same : ((limits.message_bytes < length text) × (r ≡ TooLong)) ⊎ IsFaulty limits text r
        → ((limits.message_bytes < length text) × (s ≡ TooLong)) ⊎ IsFaulty limits text s → r ≡ s
    same (inl p) (inl q) = p.1 ∙ sym q.1
    same (inl p) (inr q) = absurd (omega (arith, p.0, q.short))
    same (inr p) (inl q) = absurd (omega (arith, q.0, p.short))
    same (inr p) (inr q) = let faults = one_reading limits text (Err p.fault) (Err q.fault) p.reads q.reads
        in let e : p.fault ≡ q.fault = cc in p.is ∙ (ap refusal_of e ∙ sym q.is)

-- a text that is read has a message
unread_read : (limits : Limits) (text : List ℕ) (r : Refusal) (m : Message) → IsUnread limits text r → IsRead limits text m → ⊥
unread_read limits text r m h k = never (unread_cases limits text r h)
  where
    never : ((limits.message_bytes < length text) × (r ≡ TooLong)) ⊎ IsFaulty limits text r → ⊥
    never (inl p) = omega (arith, p.0, k.0)
    never (inr p) = let both = one_reading limits text (Err p.fault) (Ok m) p.reads k.1 in cc

-- and one only
one_message : (limits : Limits) (text : List ℕ) (m n : Message) → IsRead limits text m → IsRead limits text n → m ≡ n
one_message limits text m n h k = let both = one_reading limits text (Ok m) (Ok n) h.1 k.1 in cc

module _ (one_decision : (limits : Limits) (s : State) (m : Message) (a b : Option Refusal) → Decision limits s m a → Decision limits s m b
    → a ≡ b) where
  -- a message has one step
  one_step : (limits : Limits) (old : State) (m : Message) (a b : Answer) (x y : State) → Step limits old m a x → Step limits old m b y
      → (a ≡ b) × (x ≡ y)
  one_step limits old m Taken Taken x y h k = (refl, h.1 ∙ sym k.1)
  one_step limits old m Taken (Refused s) x y h k = let both = one_decision limits old m None (Some s) h.0 k.0 in absurd cc
  one_step limits old m (Refused r) Taken x y h k = let both = one_decision limits old m (Some r) None h.0 k.0 in absurd cc
  one_step limits old m (Refused r) (Refused s) x y h k = let both = one_decision limits old m (Some r) (Some s) h.0 k.0
      in let e : r ≡ s = cc in (ap Refused e, h.1 ∙ sym k.1)

  -- a text has one answer, and leaves one state
  pub one_answer : (limits : Limits) (old : State) (text : List ℕ) (a b : Answer) (x y : State) → AnswersText limits old text a x
      → AnswersText limits old text b y → (a ≡ b) × (x ≡ y)
  one_answer limits old text a b x y (inl p) (inl q)
      = (p.answered ∙ (ap Refused (one_unread limits text p.refusal q.refusal p.unread q.unread) ∙ sym q.answered), p.same ∙ sym q.same)
  one_answer limits old text a b x y (inl p) (inr q) = absurd (unread_read limits text p.refusal q.message p.unread q.read)
  one_answer limits old text a b x y (inr p) (inl q) = absurd (unread_read limits text q.refusal p.message q.unread p.read)
  one_answer limits old text a b x y (inr p) (inr q) =
      one_step limits old q.message a b x y
      (subst (λ (m : Message). Step limits old m a x) (one_message limits text p.message q.message p.read q.read) p.step) q.step

  -- a run has one outcome
  pub one_run : (limits : Limits) (old : State) (texts : List (List ℕ)) (answers others : List Answer) (x y : State)
      → Run limits old texts answers x → Run limits old texts others y → (answers ≡ others) × (x ≡ y)
  unfolding Run
  one_run limits old [] [] [] x y h k = (refl, h ∙ sym k)
  one_run limits old [] [] (b ∷ others) x y h k = absurd k
  one_run limits old [] (a ∷ answers) others x y h k = absurd h
  one_run limits old (text ∷ texts) [] others x y h k = absurd h
  one_run limits old (text ∷ texts) (a ∷ answers) [] x y h k = absurd k
  one_run limits old (text ∷ texts) (a ∷ answers) (b ∷ others) x y h k =
      let first = one_answer limits old text a b h.0 k.0 h.1 k.1 in
      let later = one_run limits k.0 texts answers others x y (subst (λ (mid : State). Run limits mid texts answers x) first.1 h.2) k.2 in
      let one : a ≡ b = first.0 in
      let rest : answers ≡ others = later.0 in
      (cc, later.1)
