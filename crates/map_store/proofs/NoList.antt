-- A file that stands for a list is no bad one.
use Rattle.std.proofs.Common.{◌≡◌, ◌⊎◌, inl, inr, ⊎_elim, ◌<◌, ◌≤◌, ◌+◌, ◌^◌, List, [], ◌∷◌, ◌++◌, ℕ, length, take, drop, Option, refl, sym, ap, ◌∙◌, subst, arith, append_assoc, length-append}
use Rattle.std.specs.Prelude.{Result, Ok, Err, Some, None}
use Rattle.std.proofs.lemmas.List.{take_at, drop_at}
use Rattle.message_text.specs.declared.limits.Limits.{Limits}
use Rattle.message_text.specs.declared.message.Message.{Message}
use Rattle.message_text.specs.declared.fault.TextFault.{TextFault}
use Rattle.message_text.specs.Reading.{Reads}
use Rattle.message_text.specs.Texts.{IsCanonical}
use Rattle.map_rules.specs.declared.refusal.Refusal.{Refusal}
use Rattle.map_rules.specs.State.{State, opening}
use Rattle.map_rules.specs.After.{after}
use Rattle.map_rules.specs.Steps.{Decision}
use Rattle.gate_journal.specs.Journal.{mark, frame, records, AreShort, Opens, StandsFor}
use Rattle.gate_journal.specs.Reading.{HasRecordAt, IsDamagedAt, IsNoJournal}
use Rattle.gate_journal.proofs.Gates.{length-mark, not_empty}
use Rattle.gate_journal.proofs.One.{head_of, tail_of, one_payload, opens_behind}
use Rattle.map_store.specs.Stands.{Holds, IsBad, IsNextRecord, IsSpoiltAt, Stands}
use Rattle.map_store.proofs.OneList.{of_ok}
use Rattle.map_store.proofs.Starting.{not_spoilt}

-- the mark of a journal is right
pub not_no_journal : (file : List ℕ) (limits : Limits) (ms : List Message) (s : State) → IsNoJournal file → Stands limits file ms s → ⊥
not_no_journal file limits ms s bad h = ⊎_elim
    (λ (few : (length file ≤ 9) × (h.payloads ≡ [])). omega (arith, few.0, bad.long))
    (λ (long : (9 < length file) × (gates : List ℕ) × (file ≡ mark ++ gates) × Opens gates h.payloads). bad.other
    (ap (take 8) long.2 ∙ take_at mark long.1 8 length-mark))
    h.gates

module _
    (one_reading : (limits : Limits) (text : List ℕ) (a b : Result Message TextFault) → Reads limits text a → Reads limits text b → a ≡ b)
    (one_decision : (limits : Limits) (s : State) (m : Message) (a b : Option Refusal) → Decision limits s m a → Decision limits s m b
    → a ≡ b) (limits : Limits) where
  -- what is left of the messages behind those that were read
  rest_of : (a b c : State) (ps qs : List (List ℕ)) (ms ns : List Message) → Holds limits a (ps ++ qs) ms c → Holds limits a ps ns b
      → (more : List Message) × Holds limits b qs more c
  unfolding Holds
  rest_of a b c [] qs ms [] h k = (ms, subst (λ (x : State). Holds limits x qs ms c) (sym k) h)
  rest_of a b c [] qs ms (n ∷ ns) h k = absurd k
  rest_of a b c (p ∷ ps) qs [] ns h k = absurd h
  rest_of a b c (p ∷ ps) qs (m ∷ ms) [] h k = absurd k
  rest_of a b c (p ∷ ps) qs (m ∷ ms) (n ∷ ns) h k =
      let same : m ≡ n = ap (of_ok m) (one_reading limits p (Ok m) (Ok n) h.1.read k.1.read) in
      let mids : h.0 ≡ k.0 = h.1.step.1 ∙ ap (after a) same ∙ sym k.1.step.1 in
      rest_of k.0 b c ps qs ms ns (subst (λ (x : State). Holds limits x (ps ++ qs) ms c) mids h.2) k.2

  -- the next payload is no bad one
  not_bad : (a b : State) (q p : List ℕ) (qs : List (List ℕ)) (ms : List Message) → q ≡ p → Holds limits a (q ∷ qs) ms b → IsBad limits a p
      → ⊥
  unfolding Holds
  not_bad a b q p qs [] same h bad = absurd h
  not_bad a b q p qs (m ∷ ms) same (mid, next, rest) bad =
      let n = subst (λ (l : List ℕ). IsNextRecord limits a l m mid) same next in
      ⊎_elim
      (λ (x : (fault : TextFault) × Reads limits p (Err fault)). let e = one_reading limits p (Ok m) (Err x.0) n.read x.1 in cc)
      (λ (x : (o : Message) × Reads limits p (Ok o) × ((¬ IsCanonical p o) ⊎ ((r : Refusal) × Decision limits a o (Some r)))).
      let is : m ≡ x.0 = ap (of_ok m) (one_reading limits p (Ok m) (Ok x.0) n.read x.1) in
      ⊎_elim (λ (not : ¬ IsCanonical p x.0). not (subst (IsCanonical p) is n.canonical))
      (λ (r : (r : Refusal) × Decision limits a x.0 (Some r)). let e = one_decision limits a m None (Some r.0) n.step.0
      (subst (λ (o : Message). Decision limits a o (Some r.0)) (sym is) r.1) in cc) x.2)
      bad

  -- nor is a gate before its record
  right_here : (file : List ℕ) (gate : ℕ) (q more : List ℕ) (qs : List (List ℕ)) (ms : List Message) (a b : State) → length q < 2 ^ 64
      → drop gate file ≡ 1 ∷ frame q ++ more → 0 < length more → Holds limits a (q ∷ qs) ms b
      → IsDamagedAt file gate ⊎ ((payload : List ℕ) × HasRecordAt file gate payload × IsBad limits a payload) → ⊥
  right_here file gate q more qs ms a b size there some h (inl d) =
      d.no_record q (record { rest = more; bytes = there; next_gate = some; size = size })
  right_here file gate q more qs ms a b size there some h (inr (p, r, bad)) =
      let same = one_payload q p more r.rest size r.size (tail_of 1 1 (frame q ++ more) (frame p ++ r.rest) (sym there ∙ r.bytes)) in
      not_bad a b q p qs ms same.0 h bad

  -- the gate is right, and the record behind it
  right : (file : List ℕ) (gate : ℕ) (rest : List ℕ) (qs : List (List ℕ)) (ms : List Message) (a b : State) → drop gate file ≡ rest
      → Opens rest qs → Holds limits a qs ms b
      → IsDamagedAt file gate ⊎ ((payload : List ℕ) × HasRecordAt file gate payload × IsBad limits a payload) → ⊥
  right file gate rest [] ms a b there o h (inl d) = o.2 (head_of o.0 1 o.1 d.rest (sym o.3 ∙ sym there ∙ d.is_open))
  right file gate rest [] ms a b there o h (inr (p, r, bad)) =
      o.2 (head_of o.0 1 o.1 (frame p ++ r.rest) (sym o.3 ∙ sym there ∙ r.bytes))
  right file gate rest (q ∷ qs) ms a b there o h bad = right_here file gate q o.0 qs ms a b o.1 (there ∙ o.2) (not_empty o.0 qs o.3) h bad

  -- no file is both
  pub not_both : (file : List ℕ) (gate : ℕ) (ms : List Message) (s : State) → IsSpoiltAt limits file gate → Stands limits file ms s → ⊥
  not_both file gate ms s x h = by_case h.gates
    where
      by_case : StandsFor file h.payloads → ⊥
      by_case (inl few) = not_spoilt limits gate (subst (λ (f : List ℕ). IsSpoiltAt limits f gate) (x.behind.fresh few.0) x)
      by_case (inr (long, gates, e, opens)) =
          let b = x.behind in
          let same : records x.payloads ++ b.rest ≡ gates
          = sym (drop_at mark (records x.payloads ++ b.rest) 8 length-mark) ∙ ap (drop 8)
          (sym (append_assoc mark (records x.payloads) b.rest) ∙ sym b.bytes ∙ e) ∙ drop_at mark gates 8 length-mark in
          let behind
          = opens_behind x.payloads h.payloads b.rest b.sizes (subst (λ (l : List ℕ). Opens l h.payloads) (sym same) opens) b.some in
          let there : drop gate file ≡ b.rest = ap (drop gate) b.bytes ∙ drop_at (mark ++ records x.payloads) b.rest gate (sym b.place) in
          let left = rest_of opening x.state s x.payloads behind.0 ms x.messages
          (subst (λ (l : List (List ℕ)). Holds limits opening l ms s) behind.1 h.holds) x.holds in
          right file gate b.rest behind.0 left.0 x.state s there behind.2 left.1 x.bad

  -- behind a front of the file, this is the record at its end
  record_there : (file front q y : List ℕ) (qs : List (List ℕ)) (gate : ℕ) → file ≡ front ++ (records (q ∷ qs) ++ y) → gate ≡ length front
      → drop gate file ≡ 1 ∷ frame q ++ (records qs ++ y)
  record_there file front q y qs gate is place =
      ap (drop gate) is ∙ drop_at front (records (q ∷ qs) ++ y) gate (sym place) ∙ append_assoc (1 ∷ frame q) (records qs) y

  -- of two bad gates neither comes first
  same_gate : (file front : List ℕ) (ps qs : List (List ℕ)) (ms ns : List Message) (a s t : State) (x y : List ℕ) (gate other : ℕ)
      → file ≡ front ++ (records ps ++ x) → file ≡ front ++ (records qs ++ y) → AreShort ps → AreShort qs → 0 < length x → 0 < length y
      → gate ≡ length front + length (records ps) → other ≡ length front + length (records qs) → Holds limits a ps ms s
      → Holds limits a qs ns t
      → IsDamagedAt file gate ⊎ ((payload : List ℕ) × HasRecordAt file gate payload × IsBad limits s payload)
      → IsDamagedAt file other ⊎ ((payload : List ℕ) × HasRecordAt file other payload × IsBad limits t payload) → gate ≡ other
  unfolding Holds
  same_gate file front [] [] ms ns a s t x y gate other is js ss ts sx sy g o h k bad bad' = g ∙ sym o
  same_gate file front [] (q ∷ qs) [] ns a s t x y gate other is js ss ts sx sy g o h k bad bad' =
      let here : gate ≡ length front = omega (arith, g) in
      let some : 0 < length (records qs ++ y) = omega (arith, sy, length-append (records qs) y) in
      absurd (right_here file gate q (records qs ++ y) qs ns a t ts.0 (record_there file front q y qs gate js here) some k
      (subst (λ (z : State). IsDamagedAt file gate ⊎ ((payload : List ℕ) × HasRecordAt file gate payload × IsBad limits z payload)) h bad))
  same_gate file front (p ∷ ps) [] ms [] a s t x y gate other is js ss ts sx sy g o h k bad bad' =
      let here : other ≡ length front = omega (arith, o) in
      let some : 0 < length (records ps ++ x) = omega (arith, sx, length-append (records ps) x) in
      absurd (right_here file other p (records ps ++ x) ps ms a s ss.0 (record_there file front p x ps other is here) some h
      (subst (λ (z : State). IsDamagedAt file other ⊎ ((payload : List ℕ) × HasRecordAt file other payload × IsBad limits z payload)) k
      bad'))
  same_gate file front (p ∷ ps) (q ∷ qs) (m ∷ ms) (n ∷ ns) a s t x y gate other is js ss ts sx sy g o h k bad bad' =
      let one = sym (record_there file front p x ps (length front) is refl) ∙ record_there file front q y qs (length front) js refl in
      let same = one_payload p q (records ps ++ x) (records qs ++ y) ss.0 ts.0
      (tail_of 1 1 (frame p ++ (records ps ++ x)) (frame q ++ (records qs ++ y)) one) in
      let read : m ≡ n = ap (of_ok m)
      (one_reading limits p (Ok m) (Ok n) h.1.read (subst (λ (l : List ℕ). Reads limits l (Ok n)) (sym same.0) k.1.read)) in
      let mids : h.0 ≡ k.0 = h.1.step.1 ∙ ap (after a) read ∙ sym k.1.step.1 in
      let now : file ≡ (front ++ (1 ∷ frame p)) ++ (records ps ++ x) =
      is ∙ ap (λ (l : List ℕ). front ++ l)
      (append_assoc (1 ∷ frame p) (records ps) x) ∙ sym (append_assoc front (1 ∷ frame p) (records ps ++ x)) in
      let long = length-append front (1 ∷ frame p) in
      let size : length (frame p) ≡ length (frame q) = ap (λ (l : List ℕ). length (frame l)) same.0 in
      same_gate file (front ++ (1 ∷ frame p)) ps qs ms ns k.0 s t x y gate other now
      (now ∙ ap (λ (l : List ℕ). (front ++ (1 ∷ frame p)) ++ l) same.1)
      ss.1 ts.1 sx sy (omega (arith, g, long, length-append (1 ∷ frame p) (records ps)))
      (omega (arith, o, long, size, length-append (1 ∷ frame q) (records qs)))
      (subst (λ (z : State). Holds limits z ps ms s) mids h.2) k.2 bad bad'
  same_gate file front [] (q ∷ qs) (m ∷ ms) ns a s t x y gate other is js ss ts sx sy g o h k bad bad' = absurd h
  same_gate file front (p ∷ ps) [] ms (n ∷ ns) a s t x y gate other is js ss ts sx sy g o h k bad bad' = absurd k
  same_gate file front (p ∷ ps) (q ∷ qs) [] ns a s t x y gate other is js ss ts sx sy g o h k bad bad' = absurd h
  same_gate file front (p ∷ ps) (q ∷ qs) (m ∷ ms) [] a s t x y gate other is js ss ts sx sy g o h k bad bad' = absurd k

  pub one_gate : (file : List ℕ) (gate other : ℕ) → IsSpoiltAt limits file gate → IsSpoiltAt limits file other → gate ≡ other
  one_gate file gate other x y =
      let b = x.behind in
      let c = y.behind in
      same_gate file mark x.payloads y.payloads x.messages y.messages opening x.state y.state b.rest c.rest gate other
      (b.bytes ∙ append_assoc mark (records x.payloads) b.rest) (c.bytes ∙ append_assoc mark (records y.payloads) c.rest) b.sizes c.sizes
      b.some c.some
      (omega (arith, b.place, length-append mark (records x.payloads))) (omega (arith, c.place, length-append mark (records y.payloads)))
      x.holds y.holds x.bad y.bad

-- a file without the mark has no bad gate
pub no_gate : (limits : Limits) (file : List ℕ) (gate : ℕ) → IsNoJournal file → IsSpoiltAt limits file gate → ⊥
no_gate limits file gate wrong x =
    let b = x.behind in
    wrong.other
    (ap (take 8) (b.bytes ∙ append_assoc mark (records x.payloads) b.rest) ∙ take_at mark (records x.payloads ++ b.rest) 8 length-mark)
