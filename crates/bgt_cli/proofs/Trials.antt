-- Test maps: sizes, messages answered one after another, and the five lines.
use Rattle.std.proofs.Common.{◌≡◌, ◌≤◌, ◌<◌, ◌+◌, ◌-◌, ◌^◌, ◌++◌, ◌∷◌, ◌∙◌, ℕ, List, [], length, get_or, refl, sym, ap, subst, arith}
use Rattle.std.specs.Prelude.{Result, Ok, cond, count_by, codes, fold}
use Rattle.std.specs.Fmt.{decimal}
use Rattle.std.specs.Result.{OkIff}
use Rattle.std.specs.Str.Parse.{AllDigits, ParsesUnsigned, digits_value}
use Rattle.std.proofs.lemmas.Fmt.{decimal_injective, decimal-digits_value, decimal_nonempty, first_decimal, parse-decimal}
use Rattle.std.proofs.lemmas.List.Sums.{fold_push}
use Rattle.std.proofs.lemmas.Str.Parse.{IsNumeralModel, numerals_by_value, parse_plain, tells_digits}
use Rattle.outside.specs.Outside.{Faults, Rose, Shown}
use Rattle.message_text.specs.declared.limits.Limits.{Limits}
use Rattle.message_text.specs.declared.message.Message.{Message}
use Rattle.map_rules.specs.declared.refusal.Answer.{Answer}
use Rattle.map_rules.specs.declared.refusal.Answer.TheVariants.{Taken, Refused}
use Rattle.map_rules.specs.State.{State, opening}
use Rattle.map_rules.specs.Steps.{Step}
use Rattle.map_maker.specs.Made.{made}
use Rattle.version_history.specs.Versions.{is_current}
use Rattle.bgt_cli.proofs.Answering.{whole_query}
use Rattle.bgt_cli.proofs.Going.{stays}
use Rattle.bgt_cli.specs.declared.status.Status.{Status}
use Rattle.bgt_cli.specs.declared.status.Status.TheVariants.{Good, Refused as Refusing, Usage, ReadFault, WriteFault, DiskFault, BadJournal, NoMemory, InputLong, JournalFull}
use Rattle.bgt_cli.specs.Clause.{TakesAtMost}
use Rattle.bgt_cli.specs.Complete.{IsGoodOrWant, NoneRose}
use Rattle.bgt_cli.specs.Query.{TellsText}
use Rattle.bgt_cli.specs.Session.{is_taken}
use Rattle.bgt_cli.specs.Status.{IsWithoutFile}
use Rattle.bgt_cli.specs.Stream.{Goes}
use Rattle.bgt_cli.specs.Trial.{EndsTrial, IsLeftBy, IsSize, IsTrialText, Steps, count_line, is_refused}

-- ---- sizes
own : IsNumeralModel (AllDigits 10) (digits_value 10)
own = numerals_by_value (AllDigits 10) tells_digits

-- a word that is read as a number, and does not begin with a sign or a zero, is the number in decimal
pub read : {E : Type 0} (word : List ℕ) (r : Result ℕ E) (n : ℕ) → ParsesUnsigned 32 10 word r → 48 < get_or word 0 0 → r ≡ Ok n
    → word ≡ decimal n
read {E} word r n h first e =
    let plain = parse_plain own 32 word r h (λ plus. omega (arith, plus, first)) in
    let ok : OkIff {E = E} (Ok n) (AllDigits 10 word × (0 < length word) × (digits_value 10 word < 2 ^ 32)) (digits_value 10 word) =
    subst (λ (x : Result ℕ E). OkIff x (AllDigits 10 word × (0 < length word) × (digits_value 10 word < 2 ^ 32)) (digits_value 10 word)) e
    plain in
    sym (decimal-digits_value own word ok.0.0 ok.0.1 (λ zero. absurd (omega (arith, zero, first))) (omega (arith, ok.0.2))) ∙ ap decimal
    (sym ok.1)

-- a size is read
pub size_read : {E : Type 0} (word : List ℕ) (r : Result ℕ E) (n : ℕ) → ParsesUnsigned 32 10 word r → IsSize word n → r ≡ Ok n
size_read word r n h size = parse-decimal 32 n word r (omega (arith, size.0.1)) (omega (arith, size.0.1)) size.1 h

-- and begins with neither
pub size_first : (word : List ℕ) (n : ℕ) → IsSize word n → 48 < get_or word 0 0
size_first word n size
    = subst (λ (w : List ℕ). 48 < get_or w 0 0) (sym size.1) (first_decimal n (omega (arith, size.0.0)) (omega (arith, size.0.1)))

-- and is not empty
pub size_some : (word : List ℕ) (n : ℕ) → IsSize word n → 0 < length word
size_some word n size = subst (λ (w : List ℕ). 0 < length w) (sym size.1) (decimal_nonempty n (omega (arith, size.0.1)))

pub one_size : (word : List ℕ) (m n : ℕ) → IsSize word m → IsSize word n → m ≡ n
one_size word m n a b = decimal_injective m n (omega (arith, a.0.1)) (omega (arith, b.0.1)) (sym a.1 ∙ b.1)

-- ---- messages answered one after another
pub no_steps : (limits : Limits) (s : State) → Steps limits s [] [] s
unfolding Steps
no_steps limits s = refl

pub one_more : (limits : Limits) (old mid new : State) (messages : List Message) (answers : List Answer) (m : Message) (answer : Answer)
    → Steps limits old messages answers mid → Step limits mid m answer new
    → Steps limits old (messages ++ m ∷ []) (answers ++ answer ∷ []) new
unfolding Steps
one_more limits old mid new [] [] m answer so_far step = (new, subst (λ (s : State). Step limits s m answer new) so_far step, refl)
one_more limits old mid new (x ∷ messages) (y ∷ answers) m answer so_far step =
    (so_far.0, so_far.1, one_more limits so_far.0 mid new messages answers m answer so_far.2 step)
one_more limits old mid new [] (y ∷ answers) m answer so_far step = absurd so_far
one_more limits old mid new (x ∷ messages) [] m answer so_far step = absurd so_far

-- each message has its answer
pub as_many : (limits : Limits) (old new : State) (messages : List Message) (answers : List Answer) → Steps limits old messages answers new
    → length answers ≡ length messages
unfolding Steps
as_many limits old new [] [] h = refl
as_many limits old new (m ∷ messages) (answer ∷ answers) h = omega (arith, as_many limits h.0 new messages answers h.2)
as_many limits old new [] (answer ∷ answers) h = absurd h
as_many limits old new (m ∷ messages) [] h = absurd h

-- the state counts those that were taken
pub one_counted : (limits : Limits) (old new : State) (m : Message) (answer : Answer) → Step limits old m answer new
    → new.accepted ≡ old.accepted + cond (is_taken answer) 1 0
one_counted limits old new m Taken step = ap (λ (s : State). s.accepted) step.1
one_counted limits old new m (Refused r) step = let e = ap (λ (s : State). s.accepted) step.1 in omega (arith, e)

pub counted_on : (answers : List Answer) (answer : Answer) (before now : ℕ) → before ≡ count_by is_taken answers
    → now ≡ before + cond (is_taken answer) 1 0 → now ≡ count_by is_taken (answers ++ answer ∷ [])
counted_on answers answer before now h e =
    let push = fold_push (λ (n : ℕ) (a : Answer). n + cond (is_taken a) 1 0) 0 answers answer in omega (arith, h, e, push)

-- and the others were refused
pub others_refused : (answers : List Answer) → count_by is_taken answers + count_by is_refused answers ≡ length answers
others_refused answers = omega (arith, from 0 0 answers)
  where
    from : (t r : ℕ) (xs : List Answer)
        → fold (λ (n : ℕ) (a : Answer). n + cond (is_taken a) 1 0) t xs + fold (λ (n : ℕ) (a : Answer). n + cond (is_refused a) 1 0) r
        xs ≡ t + r + length xs
    from t r [] = omega arith
    from t r (Taken ∷ xs) = let e = from (t + 1) (r + 0) xs in omega (arith, e)
    from t r (Refused x ∷ xs) = let e = from (t + 0) (r + 1) xs in omega (arith, e)

pub left_none : (limits : Limits) (s : State) → s ≡ opening → IsLeftBy limits [] s
left_none limits s e = record {
  answers = [];
  steps = subst (λ (x : State). Steps limits opening [] [] x) (sym e) (no_steps limits opening);
  counted = ap (λ (x : State). x.accepted) e;
}

pub left_more : (limits : Limits) (messages : List Message) (m : Message) (old new : State) (answer : Answer) → IsLeftBy limits messages old
    → Step limits old m answer new → IsLeftBy limits (messages ++ m ∷ []) new
left_more limits messages m old new answer so_far step = record {
  answers = so_far.answers ++ answer ∷ [];
  steps = one_more limits opening old new messages so_far.answers m answer so_far.steps step;
  counted = counted_on so_far.answers answer old.accepted new.accepted so_far.counted (one_counted limits old new m answer step);
}

pub few_more : (limits : Limits) (m : Message) (old new : State) (answer : Answer) → Step limits old m answer new
    → new.accepted ≤ old.accepted + 1
few_more limits m old new Taken step = omega (arith, one_counted limits old new m Taken step)
few_more limits m old new (Refused r) step = omega (arith, one_counted limits old new m (Refused r) step)

-- no more were taken than there are, and the rest was refused
pub taken_few : (limits : Limits) (messages : List Message) (s : State) → IsLeftBy limits messages s → s.accepted ≤ length messages
taken_few limits messages s left
    = omega (arith, left.counted, others_refused left.answers, as_many limits opening s messages left.answers left.steps)

pub rest_refused : (limits : Limits) (messages : List Message) (s : State) → (left : IsLeftBy limits messages s)
    → length messages - s.accepted ≡ count_by is_refused left.answers
rest_refused limits messages s left
    = omega (arith, left.counted, others_refused left.answers, as_many limits opening s messages left.answers left.steps)

-- ---- the five lines
abbrev five : (n a r o v : ℕ) → List ℕ
five n a r o v =
    count_line (codes "TRIAL") n
    (count_line (codes "ACCEPTED") a (count_line (codes "REFUSED") r (count_line (codes "OBJECTS") o (count_line (codes "VERSIONS") v []))))

pub tells_trial : (limits : Limits) (n a r o v : ℕ) (text : List ℕ) (messages : List Message) (s : State) → messages ≡ made n
    → (left : IsLeftBy limits messages s)
    → text ≡ five n a r o v → a ≡ s.accepted → r ≡ length messages - a → o ≡ count_by is_current s.versions → v ≡ length s.versions
    → IsTrialText limits n text
tells_trial limits n a r o v text messages s is left told accepted refused objects versions =
    let t = count_by is_taken left.answers in
    let e : a ≡ t = accepted ∙ left.counted in
    let f : r ≡ count_by is_refused left.answers
    = refused ∙ ap (λ (k : ℕ). length messages - k) accepted ∙ rest_refused limits messages s left in
    record {
      answers = left.answers;
      state = s;
      steps = subst (λ (ms : List Message). Steps limits opening ms left.answers s) is left.steps;
      lines = told ∙ ap (λ (k : ℕ). five n k r o v) e ∙ ap (λ (k : ℕ). five n t k o v) f
          ∙ ap (λ (k : ℕ). five n t (count_by is_refused left.answers) k v) objects
          ∙ ap (λ (k : ℕ). five n t (count_by is_refused left.answers) (count_by is_current s.versions) k) versions;
    }

-- ---- how it ends
told_taken : (IsText : List ℕ → Type 0) (limit : ℕ) (status : Status) (old new : Shown) → IsWithoutFile status
    → TellsText IsText status old new
    → TakesAtMost limit old new
told_taken IsText limit Good old new no_file h = (0, h.0, omega arith, h.2)
told_taken IsText limit WriteFault old new no_file h = (0, h.2.0, omega arith, h.2.3)
told_taken IsText limit NoMemory old new no_file h = (0, [], omega arith, subst (λ (s : Shown). Goes 0 [] old s) (sym h) (stays old))
told_taken IsText limit DiskFault old new no_file h = absurd no_file
told_taken IsText limit Refusing old new no_file h = absurd h
told_taken IsText limit Usage old new no_file h = absurd h
told_taken IsText limit ReadFault old new no_file h = absurd h
told_taken IsText limit BadJournal old new no_file h = absurd h
told_taken IsText limit InputLong old new no_file h = absurd h
told_taken IsText limit JournalFull old new no_file h = absurd h

-- no input is taken
pub trial_taken : (limits : Limits) (n limit : ℕ) (status : Status) (old new : Shown) → EndsTrial limits n status old new
    → TakesAtMost limit old new
trial_taken limits n limit status old new h = told_taken (IsTrialText limits n) limit status old new h.no_file h.told

-- and where no call failed all is told, or there is no memory
pub trial_whole : (limits : Limits) (n : ℕ) (status : Status) (old new : Shown) (before now : Faults) → NoneRose before now
    → EndsTrial limits n status old new
    → (status ≡ WriteFault → Rose before.writes now.writes) → IsGoodOrWant status
trial_whole limits n status old new before now none h write =
    whole_query (IsTrialText limits n) status old new before now none h.told write (λ disk. absurd (subst IsWithoutFile disk h.no_file))
