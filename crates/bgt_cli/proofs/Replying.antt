-- What is told of a text, by its answer.
use Rattle.std.proofs.Common.{◌≡◌, ◌≤◌, ◌<◌, ◌∙◌, ◌++◌, inl, inr, ℕ, List, [], length, Some, true, false, refl, sym, ap, subst, append-nil}
use Rattle.std.specs.Prelude.{Result, Ok, Err, IfOk}
use Rattle.std.proofs.lemmas.Bool.{both_ways}
use Rattle.rd_plane.specs.Plane.{Vertex}
use Rattle.rd_plane.specs.declared.memory.NoMemory.{NoMemory as Wanting}
use Rattle.message_text.specs.declared.limits.Limits.{Limits}
use Rattle.message_text.specs.declared.message.Message.{Message}
use Rattle.message_text.specs.declared.fault.TextFault.{TextFault}
use Rattle.message_text.specs.declared.fault.TextFault.TheVariants as fault
use Rattle.message_text.specs.Reading.{Reads}
use Rattle.map_rules.specs.declared.refusal.Answer.{Answer}
use Rattle.map_rules.specs.declared.refusal.Answer.TheVariants as answer_is
use Rattle.map_rules.specs.declared.refusal.Refusal.{Refusal}
use Rattle.map_rules.specs.declared.refusal.Refusal.TheVariants as refusal
use Rattle.map_rules.specs.Runs.{IsRead, IsUnread}
use Rattle.map_rules.specs.State.{State, map_now}
use Rattle.map_rules.specs.After.{after}
use Rattle.local_check.specs.Maps.{ground_of}
use Rattle.fault_point.specs.declared.fault.Fault.{Fault}
use Rattle.fault_point.specs.Faults.{Explains}
use Rattle.map_rules.specs.Steps.{Step}
use Rattle.map_core.specs.Replies.{IsReplyLine}
use Rattle.bgt_cli.specs.declared.replies.Reply.{Reply}
use Rattle.bgt_cli.specs.Explain.{IsExplanation, IsFaultLine, IsReplyWith, is_untiled}
use Rattle.bgt_cli.specs.Session.{IsAnswerTo}
use Rattle.bgt_cli.specs.Trying.{IsReply}

-- the answer is another one, so its reply line is all
pub plain_with : (Explanation : List ℕ → Type 0) (number : ℕ) (answer : Answer) (told : List ℕ) → is_untiled answer ≡ false
    → IsReplyLine number answer told
    → IsReplyWith Explanation number answer told
plain_with Explanation number answer told other reply = record {
  line = told;
  more = [];
  reply = reply;
  plain = λ no. refl;
  explained = λ yes. absurd (both_ways (is_untiled answer) other yes);
  told_is = sym (append-nil told);
}

-- the same of each reply that comes
pub plain_ok : (Explanation : List ℕ → Type 0) (number : ℕ) (answer : Answer) (result : Result Reply Wanting) → is_untiled answer ≡ false
    → IfOk result (λ r. r.answer ≡ answer)
    → IfOk result (λ r. IsReplyLine number r.answer r.told) → IfOk result (λ r. IsReplyWith Explanation number r.answer r.told)
plain_ok Explanation number answer (Ok r) other is reply = plain_with Explanation number r.answer r.told (ap is_untiled is ∙ other) reply
plain_ok Explanation number answer (Err e) other is reply = tt

-- the answer is that a map is not tiled, and this explains it
pub explained_with : (Explanation : List ℕ → Type 0) (number : ℕ) (answer : Answer) (line more told : List ℕ) → is_untiled answer ≡ true
    → IsReplyLine number answer line → Explanation more
    → told ≡ line ++ more → IsReplyWith Explanation number answer told
explained_with Explanation number answer line more told untiled reply why is = record {
  line = line;
  more = more;
  reply = reply;
  plain = λ no. absurd (both_ways (is_untiled answer) no untiled);
  explained = λ yes. why;
  told_is = is;
}

module _ (limits : Limits) (old : State) (number : ℕ) (text : List ℕ) where
  -- a text that has no message
  unread : (answer : Answer) (told : List ℕ) (r : Refusal) → answer ≡ answer_is.Refused r → is_untiled (answer_is.Refused r) ≡ false
      → IsUnread limits text r → IsReplyLine number answer told
      → IsReply limits old number text answer told old
  unread answer told r is other none reply = record {
    answers = inl (record { refusal = r; unread = none; answered = is; same = refl });
    reply = plain_with _ number answer told (ap is_untiled is ∙ other) reply;
  }

  pub too_long : (told : List ℕ) → limits.message_bytes < length text → IsReplyLine number (answer_is.Refused refusal.TooLong) told
      → IsReply limits old number text (answer_is.Refused refusal.TooLong) told old
  too_long told long reply = unread (answer_is.Refused refusal.TooLong) told refusal.TooLong refl refl long reply

  pub too_long_ok : (result : Result Reply Wanting) → limits.message_bytes < length text
      → IfOk result (λ r. r.answer ≡ answer_is.Refused refusal.TooLong)
      → IfOk result (λ r. IsReplyLine number r.answer r.told) → IfOk result (λ r. IsReply limits old number text r.answer r.told old)
  too_long_ok (Ok r) long is reply = unread r.answer r.told refusal.TooLong is refl long reply
  too_long_ok (Err e) long is reply = tt

  by_fault : (f : TextFault) (answer : Answer) (told : List ℕ) → length text ≤ limits.message_bytes → IsAnswerTo f answer
      → ((◌≡◌ {A = Result Message TextFault} (Err f) (Err fault.NoMemory) → ⊥) → Reads limits text (Err f)) → IsReplyLine number answer told
      → IsReply limits old number text answer told old
  by_fault (fault.Syntax line) answer told short e reads reply
      = unread answer told (refusal.Syntax line) e refl (short, reads (λ q. cc)) reply
  by_fault (fault.Arc line) answer told short e reads reply = unread answer told (refusal.Arc line) e refl (short, reads (λ q. cc)) reply
  by_fault (fault.Limit which) answer told short e reads reply
      = unread answer told (refusal.Limit which) e refl (short, reads (λ q. cc)) reply
  by_fault fault.NoMemory answer told short e reads reply = absurd e

  pub unread_ok : (f : TextFault) (result : Result Reply Wanting) → length text ≤ limits.message_bytes
      → IfOk result (λ r. IsAnswerTo f r.answer)
      → ((◌≡◌ {A = Result Message TextFault} (Err f) (Err fault.NoMemory) → ⊥) → Reads limits text (Err f))
      → IfOk result (λ r. IsReplyLine number r.answer r.told)
      → IfOk result (λ r. IsReply limits old number text r.answer r.told old)
  unread_ok f (Ok r) short is reads reply = by_fault f r.answer r.told short is reads reply
  unread_ok f (Err e) short is reads reply = tt

  -- a text that has a message
  pub read_ok : (m : Message) (new : State) (result : Result Reply Wanting) → IsRead limits text m
      → IfOk result (λ r. Step limits old m r.answer new)
      → IfOk result (λ r. IsReplyWith (IsExplanation old m) number r.answer r.told)
      → IfOk result (λ r. IsReply limits old number text r.answer r.told new)
  read_ok m new (Ok r) read step w = record {
    answers = inr (record { message = m; read = read; step = step });
    reply = record {
      line = w.line;
      more = w.more;
      reply = w.reply;
      plain = w.plain;
      explained = λ yes. (m, read, w.explained yes);
      told_is = w.told_is;
    };
  }
  read_ok m new (Err e) read step w = tt

-- what the answer is, it is in the reply
pub step_ok : (limits : Limits) (old new : State) (m : Message) (answer : Answer) (result : Result Reply Wanting)
    → Step limits old m answer new
    → IfOk result (λ r. r.answer ≡ answer) → IfOk result (λ r. Step limits old m r.answer new)
step_ok limits old new m answer (Ok r) step is = subst (λ (a : Answer). Step limits old m a new) (sym is) step
step_ok limits old new m answer (Err e) step is = tt

pub told_ok : (Explanation : List ℕ → Type 0) (number : ℕ) (answer : Answer) (result : Result Reply Wanting)
    → IfOk result (λ r. r.answer ≡ answer)
    → IfOk result (λ r. IsReplyWith Explanation number answer r.told) → IfOk result (λ r. IsReplyWith Explanation number r.answer r.told)
told_ok Explanation number answer (Ok r) is told = subst (λ (a : Answer). IsReplyWith Explanation number a r.told) (sym is) told
told_ok Explanation number answer (Err e) is told = tt

pub plain_as : (Explanation : List ℕ → Type 0) (number : ℕ) (answer : Answer) (result : Result Reply Wanting) → is_untiled answer ≡ false
    → IfOk result (λ r. r.answer ≡ answer)
    → IfOk result (λ r. IsReplyLine number r.answer r.told) → IfOk result (λ r. IsReplyWith Explanation number answer r.told)
plain_as Explanation number answer (Ok r) other is reply
    = plain_with Explanation number answer r.told other (subst (λ (a : Answer). IsReplyLine number a r.told) is reply)
plain_as Explanation number answer (Err e) other is reply = tt

-- what is wrong with the map is told in its line
pub explanation_ok : (s : State) (m : Message) (area parts : List (List (List Vertex))) (found : Fault) (result : Result (List ℕ) Wanting)
    → area ≡ (map_now m.holder (after s m)).area
    → parts ≡ ground_of (map_now m.holder (after s m)).parts → Explains area parts (Some found) → IfOk result (IsFaultLine found)
    → IfOk result (IsExplanation s m)
explanation_ok s m area parts found (Ok line) is_area is_parts why told = (
  found,
  subst (λ (a : List (List (List Vertex))). Explains a (ground_of (map_now m.holder (after s m)).parts) (Some found)) is_area
      (subst (λ (p : List (List (List Vertex))). Explains area p (Some found)) is_parts why),
  told,
)
explanation_ok s m area parts found (Err e) is_area is_parts why told = tt
