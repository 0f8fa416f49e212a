-- How a run of `explain` ends, once its input was read to its end or it stopped before.
use Rattle.std.proofs.Common.{◌≡◌, ◌<◌, ◌++◌, ◌∙◌, ◌==◌, ◌∷◌, ℕ, List, [], length, take, Bool, true, false, refl, sym, ap, subst, arith, append-nil, eqb-true}
use Rattle.std.specs.Prelude.{◌&&◌, ◌≢◌}
use Rattle.std.specs.Bool.{if◌then◌else◌}
use Rattle.std.specs.Option.{ForSome}
use Rattle.std.proofs.lemmas.List.{length-take-le}
use Rattle.outside.specs.Outside.{Shown, Faults, Rose}
use Rattle.line_feed.proofs.Cutting.{cut}
use Rattle.message_text.specs.declared.limits.Limits.{Limits}
use Rattle.message_text.specs.declared.message.Message.{Message}
use Rattle.map_rules.specs.State.{State}
use Rattle.map_store.specs.Stands.{Stands}
use Rattle.bgt_cli.specs.declared.session.Session.{Session}
use Rattle.bgt_cli.specs.declared.status.Status.{Status}
use Rattle.bgt_cli.specs.declared.status.Status.TheVariants.{Good, Refused, Usage, ReadFault, WriteFault, DiskFault, BadJournal, NoMemory, InputLong, JournalFull}
use Rattle.bgt_cli.specs.Clause.{TakesAtMost}
use Rattle.bgt_cli.specs.Complete.{IsWholeOrWant, NoneRose}
use Rattle.bgt_cli.specs.Explain.{EndsExplain, IsTried, MeetsExplain, Tells, TellsFrom}
use Rattle.bgt_cli.specs.Load.{EndsRefused}
use Rattle.bgt_cli.specs.Session.{tail_line}
use Rattle.bgt_cli.specs.Status.{status_at_end}
use Rattle.bgt_cli.specs.Stream.{Goes, TellsFront}
use Rattle.bgt_cli.specs.Trying.{HasEnded, IsAllRead}
use Rattle.bgt_cli.proofs.Answering.{StandsWith}
use Rattle.bgt_cli.proofs.Ending.{all_taken, both, each_taken, whole_front}
use Rattle.bgt_cli.proofs.Going.{stays}
use Rattle.bgt_cli.proofs.Telling.{all_told, on_told}

module _ (limits : Limits) (start : State) (first now : Shown) (status : Status) (h : HasEnded limits start first now status) where
  -- a run that stopped has ended as its status says
  pub tried : ForSome first.input (λ input. IsTried limits start input status first now)
  tried = λ input e.
      let front = h.first_taken input e in
      record {
        n = length h.taken;
        told = h.told;
        within = front.0;
        goes = h.goes;
        ends = subst (λ (t : List ℕ). EndsExplain limits start input t h.told status) front.1 (h.ends input);
      }

  pub taken : TakesAtMost limits.input_bytes first now
  taken = (length h.taken, h.told, h.few, h.goes)

  pub no_usage : status ≢ Usage
  no_usage e = subst (λ (x : Status). EndsExplain limits start [] h.taken h.told x) e (h.ends [])

  pub no_bad : status ≢ BadJournal
  no_bad e = subst (λ (x : Status). EndsExplain limits start [] h.taken h.told x) e (h.ends [])

  pub no_full : status ≢ JournalFull
  no_full e = subst (λ (x : Status). EndsExplain limits start [] h.taken h.told x) e (h.ends [])

module _ (limits : Limits) (start : State) (first : Shown) (s : Session) (state : State) (mid : Shown)
    (h : IsAllRead limits start first s state mid) (after : Shown) where
  short : length h.under_way.taken < limits.input_bytes
  short = omega (arith, h.under_way.size, h.some)

  goes_tail : (bytes : List ℕ) → Goes 0 bytes mid after → Goes (length h.under_way.taken) (h.under_way.told ++ bytes) first after
  goes_tail bytes goes = on_told (length h.under_way.taken) h.under_way.told bytes first mid after h.under_way.goes goes

  pub tail_taken : (bytes : List ℕ) → Goes 0 bytes mid after → TakesAtMost limits.input_bytes first after
  tail_taken bytes goes = (length h.under_way.taken, h.under_way.told ++ bytes, omega (arith, short), goes_tail bytes goes)

  all : TellsFrom limits start h.under_way.taken h.under_way.told h.under_way.answers [] s.feed.left state
  all = all_told limits start first h.may s state mid h.under_way h.none

  -- a front of the line of the tail was told
  pub tail_cut : (line : List ℕ) → line ≡ tail_line s.feed.left → TellsFront line mid after
      → ForSome first.input (λ input. IsTried limits start input WriteFault first after)
  tail_cut line is t = λ input e.
      let whole = h.whole input e in
      let u = h.under_way in
      record {
        n = length u.taken;
        told = u.told ++ t.0;
        within = omega (arith, ap length whole);
        goes = goes_tail t.0 t.3;
        ends = subst (λ (b : List ℕ). EndsExplain limits start input b (u.told ++ t.0) WriteFault) (whole_front u.taken input whole)
            (record {
              answers = u.answers;
              more = [];
              tail = s.feed.left;
              state = state;
              lines = u.told;
              front = t.0;
              rest = t.1;
              tells = all;
              next = (whole, sym t.2 ∙ is);
              told_is = refl;
            });
      }

  nil : (l : List ℕ) → length l ≡ 0 → l ≡ []
  nil [] e = refl
  nil (x ∷ l) e = absurd (omega arith)

  ends_whole : (input : List ℕ) → h.under_way.taken ≡ input → (b : Bool) → (s.all_taken && length s.feed.left == 0) ≡ b
      → EndsExplain limits start input h.under_way.taken (h.under_way.told ++ tail_line s.feed.left) (if b then Good else Refused)
  ends_whole input whole true e =
      let u = h.under_way in
      let parts = both s.all_taken (length s.feed.left == 0) e in
      let empty : s.feed.left ≡ [] = nil s.feed.left (eqb-true (length s.feed.left) 0 parts.1) in
      let lines : u.told ≡ u.told ++ tail_line s.feed.left = sym (append-nil u.told) ∙ ap (λ (l : List ℕ). u.told ++ tail_line l)
      (sym empty) in (
        u.answers,
        record {
          state = state;
          tells = subst (λ (l : List ℕ). TellsFrom limits start u.taken l u.answers [] [] state) lines
              (subst (λ (tail : List ℕ). TellsFrom limits start u.taken u.told u.answers [] tail state) empty all);
          whole = whole;
          short = omega (arith, short, ap length whole);
        },
        each_taken u.answers (sym u.all ∙ parts.0),
      )
  ends_whole input whole false e =
      let u = h.under_way in (
        u.answers,
        u.told,
        s.feed.left,
        record { state = state; tells = all; whole = whole; short = omega (arith, short, ap length whole) },
        refl,
        λ good.
            let all_of : s.all_taken ≡ true = u.all ∙ all_taken u.answers good.0 in
            let empty : length s.feed.left ≡ 0 = ap length good.1 in
            let yes : (s.all_taken && length s.feed.left == 0) ≡ true = rw (all_of, empty) refl in cc,
      )

  -- the line of the tail was told
  pub at_end : (line : List ℕ) → line ≡ tail_line s.feed.left → Goes 0 line mid after
      → ForSome first.input (λ input. IsTried limits start input (status_at_end s.all_taken (length s.feed.left)) first after)
  at_end line is goes = λ input e.
      let whole = h.whole input e in
      let u = h.under_way in
      let status = status_at_end s.all_taken (length s.feed.left) in
      record {
        n = length u.taken;
        told = u.told ++ line;
        within = omega (arith, ap length whole);
        goes = goes_tail line goes;
        ends = subst (λ (l : List ℕ). EndsExplain limits start input (take (length u.taken) input) (u.told ++ l) status) (sym is)
            (subst (λ (b : List ℕ). EndsExplain limits start input b (u.told ++ tail_line s.feed.left) status) (whole_front u.taken input whole)
            (ends_whole input whole (s.all_taken && length s.feed.left == 0) refl));
      }

-- the run ended before anything was taken
pub none_told : (limits : Limits) (start : State) (input : List ℕ) (now : Shown) → IsTried limits start input NoMemory now now
unfolding Tells
none_told limits start input now =
    let none = cut 0 [] (omega arith) in
    record {
      n = 0;
      told = [];
      within = omega arith;
      goes = stays now;
      ends = ([], none.0, none.1, start, record { texts = []; cut = none.2; tells = (refl, refl) });
    }

pub disk_failed : (limits : Limits) (start : State) (input : List ℕ) (now : Shown) → IsTried limits start input DiskFault now now
disk_failed limits start input now = record { n = 0; told = []; within = omega arith; goes = stays now; ends = (refl, refl) }

-- the file stands for one list, so what is tried from one state is the clause
pub meets : ((limits : Limits) (file : List ℕ) (messages others : List Message) (s u : State) → Stands limits file messages s → Stands limits file others u
    → (messages ≡ others) × (s ≡ u)) → (limits : Limits) (start : State) (status : Status) (old mid
    new : Shown) → mid ≡ old → StandsWith limits old.disk start
    → ForSome mid.input (λ input. IsTried limits start input status mid new) → MeetsExplain limits status old new
meets one limits start status old mid new same stands t = λ input file i d messages state others.
    let s = stands file d in
    subst (λ (x : State). IsTried limits x input status old new) (one limits file s.0 messages start state s.1 others).1
    (subst (λ (o : Shown). IsTried limits start input status o new) same (t input (ap (λ (o : Shown). o.input) same ∙ i)))

-- where no call failed, an input that is shorter than its limit is answered to its end
pub whole_tried : (limits : Limits) (start : State) (input : List ℕ) (status : Status) (old new : Shown) (before now : Faults)
    → length input < limits.input_bytes → NoneRose before now
    → IsTried limits start input status old new → (status ≡ ReadFault → Rose before.reads now.reads)
    → (status ≡ WriteFault → Rose before.writes now.writes)
    → (status ≡ DiskFault → Rose before.disks now.disks) → IsWholeOrWant status
whole_tried limits start input status old new before now short none t read write disk = by_case status refl
  where
    by_case : (x : Status) → status ≡ x → IsWholeOrWant x
    by_case Good e = tt
    by_case Refused e = tt
    by_case NoMemory e = tt
    by_case ReadFault e = none.reads (read e)
    by_case WriteFault e = none.writes (write e)
    by_case DiskFault e = none.disks (disk e)
    by_case Usage e = subst (λ (x : Status). EndsExplain limits start input (take t.n input) t.told x) e t.ends
    by_case BadJournal e = subst (λ (x : Status). EndsExplain limits start input (take t.n input) t.told x) e t.ends
    by_case JournalFull e = subst (λ (x : Status). EndsExplain limits start input (take t.n input) t.told x) e t.ends
    by_case InputLong e =
        let ends : EndsExplain limits start input (take t.n input) t.told InputLong
        = subst (λ (x : Status). EndsExplain limits start input (take t.n input) t.told x) e t.ends in
        absurd (omega (arith, short, ends.4, length-take-le t.n input t.within, t.within))

-- of a file that stands for no list only its line was told
pub refused_goes : (limit : ℕ) (line : List ℕ) (status : Status) (old mid new : Shown) → mid ≡ old → EndsRefused line status mid new
    → TakesAtMost limit old new
refused_goes limit line BadJournal old mid new same h = (0, line, omega arith, subst (λ (s : Shown). Goes 0 line s new) same h)
refused_goes limit line WriteFault old mid new same h = (0, h.0, omega arith, subst (λ (s : Shown). Goes 0 h.0 s new) same h.3)
refused_goes limit line NoMemory old mid new same h
    = (0, [], omega arith, subst (λ (s : Shown). Goes 0 [] s new) same (subst (λ (s : Shown). Goes 0 [] mid s) (sym h) (stays mid)))
refused_goes limit line Good old mid new same h = absurd h
refused_goes limit line Refused old mid new same h = absurd h
refused_goes limit line Usage old mid new same h = absurd h
refused_goes limit line ReadFault old mid new same h = absurd h
refused_goes limit line DiskFault old mid new same h = absurd h
refused_goes limit line InputLong old mid new same h = absurd h
refused_goes limit line JournalFull old mid new same h = absurd h

pub refused_not_full : (line : List ℕ) (status : Status) (a b : Shown) → EndsRefused line status a b → status ≡ JournalFull → ⊥
refused_not_full line status a b h e = subst (λ (x : Status). EndsRefused line x a b) e h

-- nothing was taken or told
pub nothing_goes : (limit : ℕ) (old mid : Shown) → mid ≡ old → TakesAtMost limit old mid
nothing_goes limit old mid same = (0, [], omega arith, subst (λ (s : Shown). Goes 0 [] old s) (sym same) (stays old))
