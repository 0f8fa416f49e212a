-- A run of `explain` that goes on: texts answered, pieces fed, and how it ends.
use Rattle.std.proofs.Common.{◌≡◌, ◌≤◌, ◌<◌, ◌+◌, ◌-◌, ◌++◌, ◌∷◌, ◌∙◌, ℕ, List, [], length, take, drop, Some, Bool, true, false, refl, sym, ap, subst, arith, append_assoc, append-nil, length-append}
use Rattle.std.specs.Prelude.{◌&&◌, option_map}
use Rattle.std.specs.List.{list_all}
use Rattle.std.specs.Option.{ForSome}
use Rattle.std.proofs.lemmas.List.{length-drop, take_all}
use Rattle.std.proofs.lemmas.List.Folds.{list_all-append}
use Rattle.outside.specs.Outside.{Shown}
use Rattle.line_feed.specs.Texts.{AreTexts, HasNoText, HandsFirst, IsFirstText}
use Rattle.line_feed.proofs.Cutting.{stay, cut, first_and_later}
use Rattle.message_text.specs.declared.limits.Limits.{Limits}
use Rattle.map_rules.specs.declared.refusal.Answer.{Answer}
use Rattle.map_rules.specs.Runs.{AnswersText}
use Rattle.map_rules.specs.State.{State}
use Rattle.bgt_cli.specs.declared.session.Session.{Session}
use Rattle.bgt_cli.specs.declared.status.Status.{Status}
use Rattle.bgt_cli.specs.declared.status.Status.TheVariants.{Good, Refused, Usage, ReadFault, WriteFault, DiskFault, BadJournal, NoMemory, InputLong, JournalFull}
use Rattle.bgt_cli.specs.Explain.{IsExplainedReply, Tells, TellsFrom}
use Rattle.bgt_cli.specs.Session.{is_taken}
use Rattle.bgt_cli.specs.Stops.{FailsToFeed, FeedsPiece, TakesPiece}
use Rattle.bgt_cli.specs.Stream.{Goes, AreFirst, TellsFront}
use Rattle.bgt_cli.specs.Trying.{HasEnded, IsAllRead, IsReply, UnderWay}
use Rattle.bgt_cli.proofs.Cutting.{next_text}
use Rattle.bgt_cli.proofs.Going.{first_on, goes_on, stays}

-- one more text is answered
tells_on : (limits : Limits) (old mid new : State) (number : ℕ) (texts : List (List ℕ)) (answers : List Answer) (told text : List ℕ)
    (answer : Answer) (reply : List ℕ)
    → Tells limits old number texts answers told mid → AnswersText limits mid text answer new
    → IsExplainedReply limits mid (number + length answers) text answer reply
    → Tells limits old number (texts ++ text ∷ []) (answers ++ answer ∷ []) (told ++ reply) new
unfolding Tells
tells_on limits old mid new number [] [] told text answer reply (same, none) a r = (
  new,
  reply,
  [],
  subst (λ (s : State). AnswersText limits s text answer new) same a,
  subst (λ (s : State). IsExplainedReply limits s number text answer reply) same
      (subst (λ (n : ℕ). IsExplainedReply limits mid n text answer reply) (omega arith) r),
  (refl, refl),
  rw none (sym (append-nil reply)),
)
tells_on limits old mid new number [] (x ∷ answers) told text answer reply t a r = absurd t
tells_on limits old mid new number (y ∷ texts) [] told text answer reply t a r = absurd t
tells_on limits old mid new number (y ∷ texts) (x ∷ answers) told text answer reply (next, first, rest, b, q, behind, is) a r = (
  next,
  first,
  rest ++ reply,
  b,
  q,
  tells_on limits next mid new (number + 1) texts answers rest text answer reply behind a
      (subst (λ (n : ℕ). IsExplainedReply limits mid n text answer reply) (omega arith) r),
  rw is (append_assoc first rest reply),
)

-- bytes are told after what was told
pub on_told : (n : ℕ) (told reply : List ℕ) (a b c : Shown) → Goes n told a b → Goes 0 reply b c → Goes n (told ++ reply) a c
on_told n told reply a b c h k = subst (λ (m : ℕ). Goes m (told ++ reply) a c) (omega arith) (goes_on n 0 told reply a b c h k)

module _ (limits : Limits) (start : State) (first : Shown) (may : ℕ) (old : Session) (state : State) (now : Shown)
    (u : UnderWay limits start first may old state now) where
  -- a text was handed out and answered, and its reply told
  pub answered : (n : ℕ) (answer : Answer) (reply : List ℕ) (new : Session) (next : State) (then : Shown) → HandsFirst old.feed new.feed n
      → IsReply limits state (old.answered + 1) (take n old.feed.left) answer reply next → Goes 0 reply now then
      → new.answered ≡ old.answered + 1 → new.all_taken ≡ (old.all_taken && is_taken answer) → UnderWay limits start first may new next then
  answered n answer reply new next then hands r goes count all = record {
    taken = u.taken;
    told = u.told ++ reply;
    texts = u.texts ++ take n old.feed.left ∷ [];
    answers = u.answers ++ answer ∷ [];
    size = u.size;
    goes = on_told (length u.taken) u.told reply first now then u.goes goes;
    first_taken = u.first_taken;
    tells = tells_on limits start state next 1 u.texts u.answers u.told (take n old.feed.left) answer reply u.tells r.answers
        (subst (λ (k : ℕ). IsExplainedReply limits state k (take n old.feed.left) answer reply) (omega (arith, u.count)) r.reply);
    cut = next_text u.texts u.taken old.feed.left new.feed.left n u.cut hands.first hands.behind;
    count = omega (arith, count, u.count, length-append u.answers (answer ∷ []));
    all = all ∙ (rw u.all (sym (list_all-append is_taken u.answers (answer ∷ []) ∙ one (list_all is_taken u.answers) (is_taken answer))));
  }
    where
      one : (a b : Bool) → (a && (b && true)) ≡ (a && b)
      one a true = refl
      one a false = refl

  -- no text was whole
  pub same_session : (new : Session) → new.feed.left ≡ old.feed.left → new.answered ≡ old.answered → new.all_taken ≡ old.all_taken
      → UnderWay limits start first may new state now
  same_session new left count all = record {
    taken = u.taken;
    told = u.told;
    texts = u.texts;
    answers = u.answers;
    size = u.size;
    goes = u.goes;
    first_taken = u.first_taken;
    tells = u.tells;
    cut = λ us t h. u.cut us t (subst (λ (b : List ℕ). AreTexts b us t) left h);
    count = count ∙ u.count;
    all = all ∙ u.all;
  }

  few : length u.taken ≤ limits.input_bytes
  few = omega (arith, u.size)

  -- memory was wanting
  pub ends_memory : HasEnded limits start first now NoMemory
  ends_memory =
      let rest = cut (length old.feed.left) old.feed.left (omega arith) in
      record {
        taken = u.taken;
        told = u.told;
        few = few;
        goes = u.goes;
        first_taken = u.first_taken;
        ends = λ input. (u.answers, rest.0, rest.1, state, record { texts = u.texts; cut = u.cut rest.0 rest.1 rest.2; tells = u.tells });
      }

  -- a front of the reply to the next text was told
  pub ends_cut : (n : ℕ) (answer : Answer) (reply : List ℕ) (next : State) (then : Shown) → IsFirstText old.feed.left n
      → IsReply limits state (old.answered + 1) (take n old.feed.left) answer reply next → TellsFront reply now then
      → HasEnded limits start first then WriteFault
  ends_cut n answer reply next then is r t =
      let later = cut (length (drop n old.feed.left)) (drop n old.feed.left) (omega arith) in
      record {
        taken = u.taken;
        told = u.told ++ t.0;
        few = few;
        goes = on_told (length u.taken) u.told t.0 first now then u.goes t.3;
        first_taken = u.first_taken;
        ends = λ input. record {
          answers = u.answers;
          more = take n old.feed.left ∷ later.0;
          tail = later.1;
          state = state;
          lines = u.told;
          front = t.0;
          rest = t.1;
          tells = record {
            texts = u.texts;
            cut = u.cut (take n old.feed.left ∷ later.0) later.1 (first_and_later old.feed.left later.1 n later.0 is later.2);
            tells = u.tells;
          };
          next
              = (
                answer,
                next,
                r.answers,
                subst (λ (k : ℕ). IsExplainedReply limits state k (take n old.feed.left) answer (t.0 ++ t.1)) (omega (arith, u.count))
                    (subst (λ (l : List ℕ). IsExplainedReply limits state (old.answered + 1) (take n old.feed.left) answer l) t.2 r.reply),
              );
          told_is = refl;
        };
      }

  module _ (none : HasNoText old.feed.left (length old.feed.left)) where
    so_far : AreTexts u.taken u.texts old.feed.left
    so_far = subst (λ (l : List (List ℕ)). AreTexts u.taken l old.feed.left) (append-nil u.texts) (u.cut [] old.feed.left (none, refl))

    -- all texts were answered
    pub all_told : TellsFrom limits start u.taken u.told u.answers [] old.feed.left state
    all_told = record { texts = u.texts; cut = u.cut [] old.feed.left (none, refl); tells = u.tells }

    taken_on : (bytes : List ℕ) (then : Shown) → TakesPiece bytes now then → Goes (length (u.taken ++ bytes)) u.told first then
    taken_on bytes then t = subst (λ (m : ℕ). Goes m u.told first then) (sym (length-append u.taken bytes))
        (subst (λ (l : List ℕ). Goes (length u.taken + length bytes) l first then) (append-nil u.told)
        (goes_on (length u.taken) (length bytes) u.told [] first now then u.goes t.goes))

    first_of : (bytes : List ℕ) (then : Shown) → TakesPiece bytes now then → AreFirst (u.taken ++ bytes) first
    first_of bytes then t = first_on u.taken bytes u.told first now u.goes u.first_taken t.first

    -- a piece was taken and fed
    pub fed : (n : ℕ) (new : Session) (then : Shown) → n ≤ may → FeedsPiece old new now then n
        → UnderWay limits start first (may - n) new state then
    fed n new then within (bytes, size, t, f) = record {
      taken = u.taken ++ bytes;
      told = u.told;
      texts = u.texts;
      answers = u.answers;
      size = omega (arith, u.size, size, within, length-append u.taken bytes);
      goes = taken_on bytes then t;
      first_taken = first_of bytes then t;
      tells = u.tells;
      cut = λ us r h. stay u.texts us u.taken bytes old.feed.left r so_far (subst (λ (b : List ℕ). AreTexts b us r) f.left h);
      count = f.answered ∙ u.count;
      all = f.all_taken ∙ u.all;
    }

    -- nothing came: the input is at its end
    pub at_its_end : (n : ℕ) (new : Session) (then : Shown) → 0 < may → n ≡ 0 → FeedsPiece old new now then n
        → ForSome now.input (λ input. input ≡ [])
        → IsAllRead limits start first new state then
    unfolding fed
    at_its_end n new then some zero (bytes, size, t, f) at_end =
        let no_more : bytes ≡ [] = nil bytes (size ∙ zero) in
        let same : new.feed.left ≡ old.feed.left = f.left ∙ (ap (λ (l : List ℕ). old.feed.left ++ l) no_more ∙ append-nil old.feed.left) in
        record {
          may = may - n;
          some = omega (arith, some, zero);
          under_way = fed n new then (omega (arith, zero)) (bytes, size, t, f);
          none = subst (λ (l : List ℕ). HasNoText l (length l)) (sym same) none;
          whole = λ input e.
              let behind : now.input ≡ Some (drop (length u.taken) input)
              = ap (λ (s : Shown). s.input) u.goes ∙ ap (option_map (drop (length u.taken))) e in
              let empty = at_end (drop (length u.taken) input) behind in
              let front = u.first_taken input e in
              ap (λ (l : List ℕ). u.taken ++ l) no_more ∙ (append-nil u.taken ∙ (front.1 ∙ take_all (length u.taken) input
              (omega (arith, ap length empty, length-drop (length u.taken) input))));
        }
      where
        nil : (l : List ℕ) → length l ≡ 0 → l ≡ []
        nil [] e = refl
        nil (x ∷ l) e = absurd (omega arith)

    -- no piece was fed
    pub unfed : (most : ℕ) (then : Shown) (status : Status) → FailsToFeed most now then status → most ≤ may
        → HasEnded limits start first then status
    unfed most then ReadFault t within = record {
      taken = u.taken ++ [];
      told = u.told;
      few = omega (arith, u.size, length-append u.taken []);
      goes = taken_on [] then t;
      first_taken = first_of [] then t;
      ends = λ input. (
        u.answers,
        old.feed.left,
        state,
        subst (λ (l : List ℕ). TellsFrom limits start l u.told u.answers [] old.feed.left state) (sym (append-nil u.taken)) all_told,
      );
    }
    unfed most then NoMemory (bytes, small, t) within =
        let rest = cut (length (old.feed.left ++ bytes)) (old.feed.left ++ bytes) (omega arith) in
        record {
          taken = u.taken ++ bytes;
          told = u.told;
          few = omega (arith, u.size, small, within, length-append u.taken bytes);
          goes = taken_on bytes then t;
          first_taken = first_of bytes then t;
          ends = λ input. (
            u.answers,
            rest.0,
            rest.1,
            state,
            record { texts = u.texts; cut = stay u.texts rest.0 u.taken bytes old.feed.left rest.1 so_far rest.2; tells = u.tells },
          );
        }
    unfed most then Good t within = absurd t
    unfed most then Refused t within = absurd t
    unfed most then Usage t within = absurd t
    unfed most then WriteFault t within = absurd t
    unfed most then DiskFault t within = absurd t
    unfed most then BadJournal t within = absurd t
    unfed most then InputLong t within = absurd t
    unfed most then JournalFull t within = absurd t

    -- as many bytes as may be were taken
    pub ends_long : may ≡ 0 → HasEnded limits start first now InputLong
    ends_long e = record {
      taken = u.taken;
      told = u.told;
      few = few;
      goes = u.goes;
      first_taken = u.first_taken;
      ends = λ input. (u.answers, old.feed.left, state, all_told, omega (arith, u.size, e));
    }

-- before the first piece
pub not_begun : (limits : Limits) (s : Session) (state : State) (now : Shown) → s.feed.left ≡ [] → s.answered ≡ 0 → s.all_taken ≡ true
    → UnderWay limits state now limits.input_bytes s state now
unfolding Tells
not_begun limits s state now left count all = record {
  taken = [];
  told = [];
  texts = [];
  answers = [];
  size = omega arith;
  goes = stays now;
  first_taken = λ input e. (omega arith, refl);
  tells = (refl, refl);
  cut = λ us u h. subst (λ (b : List ℕ). AreTexts b us u) left h;
  count = count;
  all = all;
}
