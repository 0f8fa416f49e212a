-- Where all records have room, the file is never full.
use Rattle.std.proofs.Common.{◌≡◌, ◌≤◌, ◌+◌, ◌++◌, ◌∷◌, ◌∙◌, inr, ℕ, List, [], length, take, drop, Option, refl, sym, ap, subst, arith, append_assoc, length-append, take-append-drop}
use Rattle.std.specs.Prelude.{Ok, None}
use Rattle.std.proofs.lemmas.Option.{same_Some}
use Rattle.line_feed.specs.Texts.{AreTexts}
use Rattle.line_feed.proofs.Cutting.{cut, stay, one}
use Rattle.message_text.specs.declared.limits.Limits.{Limits}
use Rattle.message_text.specs.declared.message.Message.{Message}
use Rattle.message_text.specs.Texts.{IsCanonical}
use Rattle.message_text.proofs.TextLaws.{one_reading}
use Rattle.map_rules.specs.declared.refusal.Answer.{Answer}
use Rattle.map_rules.specs.declared.refusal.Answer.TheVariants.{Taken, Refused}
use Rattle.map_rules.specs.Runs.{AnswersText, IsRead}
use Rattle.map_rules.specs.Steps.{Decision}
use Rattle.map_rules.specs.State.{State, opening}
use Rattle.map_rules.specs.After.{after}
use Rattle.gate_journal.specs.Journal.{mark, records, StandsFor}
use Rattle.gate_journal.proofs.Gates.{length-mark, stands_closed}
use Rattle.gate_journal.proofs.One.{one_list_for}
use Rattle.map_store.proofs.OneList.{of_ok}
use Rattle.std.specs.List.{All}
use Rattle.std.proofs.lemmas.List.{append-nil}
use Rattle.map_rules.specs.Runs.{Run}
use Rattle.bgt_cli.proofs.Accepting.{accepts_run}
use Rattle.bgt_cli.specs.declared.status.Status.TheVariants as status
use Rattle.bgt_cli.specs.declared.status.Status.TheVariants.{JournalFull}
use Rattle.bgt_cli.specs.Clause.{EndsCheck, IsAllGood}
use Rattle.bgt_cli.specs.Load.{EndsLoad, FileStands}
use Rattle.bgt_cli.specs.Loading.{Accepts}
use Rattle.bgt_cli.specs.Records.{AreCanonical, size_of}
use Rattle.bgt_cli.specs.Room.{AllTaken, HasRoom}
use Rattle.bgt_cli.proofs.Adding.{holds_canonical, length-records}

module _ (one_answer : (limits : Limits) (old : State) (text : List ℕ) (a b : Answer) (x y : State) → AnswersText limits old text a x
    → AnswersText limits old text b y → (a ≡ b) × (x ≡ y))
    (one_text : (a b : List ℕ) (m : Message) → IsCanonical a m → IsCanonical b m → a ≡ b) where
  -- the records of a longer list have at least the bytes of a shorter one and of one record more
  more_bytes : (ps all : List (List ℕ)) (q : List ℕ) (ms : List Message) (m : Message) (later : List Message) → AreCanonical ps ms
      → IsCanonical q m → AreCanonical all (ms ++ m ∷ later) → size_of ps + (9 + length q) ≤ size_of all
  more_bytes [] (r ∷ all) q [] m later c k (d, rest) = let same : length q ≡ length r = ap length (one_text q r m k d) in omega
      (arith, same)
  more_bytes [] [] q [] m later c k d = absurd d
  more_bytes [] all q (n ∷ ms) m later c k d = absurd c
  more_bytes (p ∷ ps) all q [] m later c k d = absurd c
  more_bytes (p ∷ ps) [] q (n ∷ ms) m later c k d = absurd d
  more_bytes (p ∷ ps) (r ∷ all) q (n ∷ ms) m later (c, cs) k (d, ds) =
      let same : length p ≡ length r = ap length (one_text p r n c d) in
      let rest = more_bytes ps all q ms m later cs k ds in omega (arith, same, rest)

  -- a run over more texts goes on from a run over the first of them
  behind : (limits : Limits) (a b c : State) (t1 t2 : List (List ℕ)) (xs a1 : List Answer) (ks k1 : List Message)
      → Accepts limits a (t1 ++ t2) xs ks c → Accepts limits a t1 a1 k1 b
      → (a2 : List Answer) × (k2 : List Message) × (ks ≡ k1 ++ k2) × Accepts limits b t2 a2 k2 c
  unfolding Accepts
  behind limits a b c [] t2 xs [] ks [] h r = (xs, ks, refl, subst (λ (x : State). Accepts limits x t2 xs ks c) (sym r) h)
  behind limits a b c [] t2 xs [] ks (m ∷ k1) h r = absurd r
  behind limits a b c [] t2 xs (x ∷ a1) ks k1 h r = absurd r
  behind limits a b c (t ∷ t1) t2 xs [] ks k1 h r = absurd r
  behind limits a b c (t ∷ t1) t2 [] (x ∷ a1) ks k1 h r = absurd h
  behind limits a b c (t ∷ t1) t2 (x ∷ xs) (Taken ∷ a1) ks [] h r = absurd r
  behind limits a b c (t ∷ t1) t2 (Taken ∷ xs) (Taken ∷ a1) [] (m ∷ k1) h r = absurd h
  behind limits a b c (t ∷ t1) t2 (Taken ∷ xs) (Taken ∷ a1) (n ∷ ks) (m ∷ k1) (read, taken, h) (read', taken', r) =
      let same : n ≡ m = ap (of_ok n) (one_reading limits t (Ok n) (Ok m) read.1 read'.1) in
      let rest = behind limits (after a m) b c t1 t2 xs a1 ks k1
      (subst (λ (x : Message). Accepts limits (after a x) (t1 ++ t2) xs ks c) same h) r in
      (rest.0, rest.1, ap (λ (x : Message). x ∷ ks) same ∙ ap (λ (l : List Message). m ∷ l) rest.2, rest.3)
  behind limits a b c (t ∷ t1) t2 (Refused e ∷ xs) (Taken ∷ a1) ks (m ∷ k1) (step, h) (read', taken', r) =
      let both = one_answer limits a t (Refused e) Taken a (after a m) step
      (inr (record { message = m; read = read'; step = (taken', refl) })) in let is = both.0 in cc
  behind limits a b c (t ∷ t1) t2 (Taken ∷ xs) (Refused e ∷ a1) [] k1 h r = absurd h
  behind limits a b c (t ∷ t1) t2 (Taken ∷ xs) (Refused e ∷ a1) (n ∷ ks) k1 (read, taken, h) (step, r) =
      let both = one_answer limits a t (Refused e) Taken a (after a n) step
      (inr (record { message = n; read = read; step = (taken, refl) })) in let is = both.0 in cc
  behind limits a b c (t ∷ t1) t2 (Refused f ∷ xs) (Refused e ∷ a1) ks k1 (step, h) (step', r) = behind limits a b c t1 t2 xs a1 ks k1 h r

  -- the next text's message is taken first
  next_taken : (limits : Limits) (a c : State) (text : List ℕ) (more : List (List ℕ)) (xs : List Answer) (ks : List Message) (m : Message)
      → IsRead limits text m → Decision limits a m None → Accepts limits a (text ∷ more) xs ks c → (later : List Message) × (ks ≡ m ∷ later)
  unfolding Accepts
  next_taken limits a c text more [] ks m read taken h = absurd h
  next_taken limits a c text more (Taken ∷ xs) [] m read taken h = absurd h
  next_taken limits a c text more (Taken ∷ xs) (n ∷ ks) m read taken (read', taken', h)
      = (ks, ap (λ (x : Message). x ∷ ks) (ap (of_ok n) (one_reading limits text (Ok n) (Ok m) read'.1 read.1)))
  next_taken limits a c text more (Refused e ∷ xs) ks m read taken (step, h) =
      let both = one_answer limits a text (Refused e) Taken a (after a m) step
      (inr (record { message = m; read = read; step = (taken, refl) })) in let is = both.0 in cc

  pub never_full : (limits : Limits) (state : State) (first kept : List Message) (input told : List ℕ) (n gate : ℕ) (disk : Option (List ℕ))
      → EndsLoad limits state input (take n input) told kept gate JournalFull → FileStands limits JournalFull gate disk (first ++ kept)
      → HasRoom limits state first input → ⊥
  never_full limits state first kept input told n gate disk (xs, text, more, tail, mid, a, none) (has, ends) room =
      let later = cut (length (tail ++ drop n input)) (tail ++ drop n input) (omega arith) in
      let all : AreTexts (take n input ++ drop n input) ((a.texts ++ text ∷ more) ++ later.0) later.1
      = stay (a.texts ++ text ∷ more) later.0 (take n input) (drop n input) tail later.1 a.cut later.2 in
      let whole : AreTexts input ((a.texts ++ text ∷ more) ++ later.0) later.1
      = subst (λ (l : List ℕ). AreTexts l ((a.texts ++ text ∷ more) ++ later.0) later.1) (take-append-drop n input) all in
      let texts : room.texts ≡ a.texts ++ (text ∷ (more ++ later.0)) = (one room.texts ((a.texts ++ text ∷ more) ++ later.0) input room.tail
      later.1 room.cut whole).0 ∙ append_assoc a.texts (text ∷ more) later.0 in
      let rest
      = behind limits state mid room.new a.texts (text ∷ (more ++ later.0)) room.answers xs room.kept kept
      (subst (λ (l : List (List ℕ)). Accepts limits state l room.answers room.kept room.new) texts room.run) a.run in
      let next = next_taken limits mid room.new text (more ++ later.0) rest.0 rest.1 none.message none.read none.accepted rest.3 in
      let messages : first ++ room.kept ≡ (first ++ kept) ++ none.message ∷ next.0
      = ap (λ (l : List Message). first ++ l)
      (rest.2 ∙ ap (λ (l : List Message). kept ++ l) next.1) ∙ sym (append_assoc first kept (none.message ∷ next.0)) in
      let file : ends.file ≡ has.file = same_Some ends.file has.file (sym ends.reads ∙ has.reads) in
      let gates : StandsFor has.file ends.payloads
      = subst (λ (f : List ℕ). StandsFor f ends.payloads) (sym ends.ends.bytes ∙ file)
      (stands_closed ends.payloads ends.ends.closed ends.ends.rest ends.ends.sizes ends.ends.shut) in
      let payloads : has.stands.payloads ≡ ends.payloads = one_list_for has.file has.stands.payloads ends.payloads has.stands.gates gates in
      let canonical : AreCanonical ends.payloads (first ++ kept)
      = subst (λ (l : List (List ℕ)). AreCanonical l (first ++ kept)) payloads
      (holds_canonical limits opening has.state has.stands.payloads (first ++ kept) has.stands.holds) in
      let bytes
      = more_bytes ends.payloads room.payloads none.payload (first ++ kept) none.message next.0 canonical none.canonical
      (subst (λ (l : List Message). AreCanonical room.payloads l) messages room.canonical) in
      omega (
        arith,
        bytes,
        room.room,
        none.past,
        ends.ends.place,
        length-append mark (records ends.payloads),
        length-mark,
        length-records ends.payloads,
      )

module _ (one_run : (limits : Limits) (old : State) (texts : List (List ℕ)) (answers others : List Answer) (x y : State)
    → Run limits old texts answers x → Run limits old texts others y → (answers ≡ others) × (x ≡ y)) where
  -- where each text of the input is taken and no tail is left, it is so in each run over the whole input
  all_good : (limits : Limits) (state new : State) (input : List ℕ) (texts : List (List ℕ)) (answers : List Answer) (tail : List ℕ)
      → AreTexts input (texts ++ []) tail → Run limits state texts answers new → AllTaken limits state input → IsAllGood answers tail
  all_good limits state new input texts answers tail cut run x =
      let same = one x.texts (texts ++ []) input [] tail x.cut cut in
      let is_same : x.texts ≡ texts = same.0 ∙ append-nil texts in
      let taken : Run limits state x.texts x.answers x.new = accepts_run limits state x.new x.texts x.answers x.kept x.run in
      let runs = one_run limits state texts x.answers answers x.new new
      (subst (λ (l : List (List ℕ)). Run limits state l x.answers x.new) is_same taken) run in
      (subst (λ (l : List Answer). All (λ (y : Answer). y ≡ Taken) l) runs.0 x.all, sym same.1)

  -- so no run of `load` ends with a refusal then
  pub no_refusal : (limits : Limits) (state : State) (kept : List Message) (input told : List ℕ) (n gate : ℕ)
      → EndsLoad limits state input (take n input) told kept gate status.Refused → AllTaken limits state input → ⊥
  no_refusal limits state kept input told n gate (answers, lines, tail, all, told_is, not_good) x =
      let a = all.answered in
      let whole : AreTexts input (a.texts ++ []) tail = subst (λ (l : List ℕ). AreTexts l (a.texts ++ []) tail) all.whole a.cut in
      not_good (all_good limits state all.state input a.texts answers tail whole
      (accepts_run limits state all.state a.texts answers kept a.run) x)

  -- nor does a run of `check`
  pub no_refusal_of_check : (limits : Limits) (input told : List ℕ) (n : ℕ) → EndsCheck limits input (take n input) told status.Refused
      → AllTaken limits opening input → ⊥
  no_refusal_of_check limits input told n (answers, lines, tail, all, told_is, not_good) x =
      let a = all.answered in
      let whole : AreTexts input (a.texts ++ []) tail = subst (λ (l : List ℕ). AreTexts l (a.texts ++ []) tail) all.whole a.cut in
      not_good (all_good limits opening all.state input a.texts answers tail whole a.run x)
