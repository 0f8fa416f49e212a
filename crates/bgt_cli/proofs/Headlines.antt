-- How `check` and `load` end keeps what the register promises.
use Rattle.std.proofs.Common.{◌≡◌, ◌≤◌, ◌++◌, ℕ, List, [], ◌∷◌, length, take, sym, subst, append-nil, None}
use Rattle.message_text.specs.declared.limits.Limits.{Limits}
use Rattle.message_text.specs.declared.message.Message.{Message}
use Rattle.map_rules.specs.declared.refusal.Answer.{Answer}
use Rattle.map_rules.specs.After.{after}
use Rattle.map_rules.specs.Good.{Good}
use Rattle.map_rules.specs.Runs.{Run}
use Rattle.map_rules.specs.State.{State, opening}
use Rattle.map_rules.specs.Steps.{Decision}
use Rattle.map_rules.specs.Tiled.{StaysTiled}
use Rattle.map_store.specs.Stands.{Holds}
use Rattle.bgt_cli.specs.declared.status.Status.{Status}
use Rattle.bgt_cli.specs.declared.status.Status.TheVariants.{Good as Fine, Refused, Usage, ReadFault, WriteFault, DiskFault, BadJournal, NoMemory, InputLong, JournalFull}
use Rattle.bgt_cli.specs.Clause.{Answered, EndsCheck}
use Rattle.bgt_cli.specs.Headline.{KeepsTiled}
use Rattle.bgt_cli.specs.Load.{AnsweredFrom, EndsLoad}
use Rattle.bgt_cli.specs.Session.{tail_line}
use Rattle.bgt_cli.proofs.Accepting.{accepts_run}

module _ (limits : Limits) (stays : (s : State) (texts : List (List ℕ)) (answers : List Answer) (t : State) → Good s
    → Run limits s texts answers t → StaysTiled limits s texts answers)
    (input : List ℕ) (n : ℕ) (within : n ≤ length input) (goes : ℕ → List ℕ → Type 0) where
  -- `check`
  module _ (good : Good opening) where
    from_front : (answers : List Answer) (more : List (List ℕ)) (tail : List ℕ) (t : State) (lines front told : List ℕ)
        → told ≡ lines ++ front → goes n told
        → Answered limits (take n input) lines answers more tail t → KeepsTiled limits opening input goes
    from_front answers more tail t lines front told e g a = record {
      n = n;
      texts = a.texts;
      more = more;
      tail = tail;
      answers = answers;
      lines = lines;
      front = front;
      within = within;
      cut = a.cut;
      replies = a.replies;
      told = subst (goes n) e g;
      tiled = stays opening a.texts answers t good a.run;
    }

    from_all : (answers : List Answer) (more : List (List ℕ)) (tail : List ℕ) (t : State) (told : List ℕ) → goes n told
        → Answered limits (take n input) told answers more tail t
        → KeepsTiled limits opening input goes
    from_all answers more tail t told g a = from_front answers more tail t told [] told (sym (append-nil told)) g a

    pub by_check : (told : List ℕ) (status : Status) → goes n told → EndsCheck limits input (take n input) told status
        → KeepsTiled limits opening input goes
    by_check told Fine g (answers, all, good) = from_all answers [] [] all.state told g all.answered
    by_check told Refused g (answers, lines, tail, all, e, bad)
        = from_front answers [] tail all.state lines (tail_line tail) told e g all.answered
    by_check told Usage g e = absurd e
    by_check told ReadFault g (answers, tail, t, a) = from_all answers [] tail t told g a
    by_check told WriteFault g e = from_front e.answers e.more e.tail e.state e.lines e.front told e.told_is g e.answered
    by_check told DiskFault g e = absurd e
    by_check told BadJournal g e = absurd e
    by_check told NoMemory g (answers, more, tail, t, a) = from_all answers more tail t told g a
    by_check told InputLong g (answers, tail, t, a, long) = from_all answers [] tail t told g a
    by_check told JournalFull g e = absurd e

  -- `load`
  module _ (s : State) (good : Good s) where
    since_front : (answers : List Answer) (kept : List Message) (more : List (List ℕ)) (tail : List ℕ) (t : State)
        (lines front told : List ℕ) → told ≡ lines ++ front → goes n told
        → AnsweredFrom limits s (take n input) lines answers kept more tail t → KeepsTiled limits s input goes
    since_front answers kept more tail t lines front told e g a = record {
      n = n;
      texts = a.texts;
      more = more;
      tail = tail;
      answers = answers;
      lines = lines;
      front = front;
      within = within;
      cut = a.cut;
      replies = a.replies;
      told = subst (goes n) e g;
      tiled = stays s a.texts answers t good (accepts_run limits s t a.texts answers kept a.run);
    }

    since_all : (answers : List Answer) (kept : List Message) (more : List (List ℕ)) (tail : List ℕ) (t : State) (told : List ℕ)
        → goes n told
        → AnsweredFrom limits s (take n input) told answers kept more tail t → KeepsTiled limits s input goes
    since_all answers kept more tail t told g a = since_front answers kept more tail t told [] told (sym (append-nil told)) g a

    pub by_load : (told : List ℕ) (kept : List Message) (gate : ℕ) (status : Status) → goes n told
        → EndsLoad limits s input (take n input) told kept gate status
        → KeepsTiled limits s input goes
    by_load told kept gate Fine g (answers, all, good) = since_all answers kept [] [] all.state told g all.answered
    by_load told kept gate Refused g (answers, lines, tail, all, e, bad)
        = since_front answers kept [] tail all.state lines (tail_line tail) told e g all.answered
    by_load told kept gate Usage g e = absurd e
    by_load told kept gate ReadFault g (answers, tail, t, a) = since_all answers kept [] tail t told g a
    by_load told kept gate WriteFault g e = since_front e.answers e.so_far e.more e.tail e.state e.lines e.front told e.told_is g e.answered
    by_load told kept gate DiskFault g (answers, more, tail, t, a) = since_all answers kept more tail t told g a
    by_load told kept gate BadJournal g e = absurd e
    by_load told kept gate NoMemory g (answers, more, tail, t, a) = since_all answers kept more tail t told g a
    by_load told kept gate InputLong g (answers, tail, t, a, long) = since_all answers kept [] tail t told g a
    by_load told kept gate JournalFull g (answers, text, more, tail, t, a, room) = since_all answers kept (text ∷ more) tail t told g a

-- the state that the messages of a file leave
pub held_good : ((limits : Limits) (s : State) (m : Message) → Good s → Decision limits s m None → Good (after s m))
    → (limits : Limits) (s : State) (payloads : List (List ℕ))
    (messages : List Message) (t : State) → Good s → Holds limits s payloads messages t → Good t
unfolding Holds
held_good step limits s [] [] t g h = subst Good (sym h) g
held_good step limits s [] (m ∷ messages) t g h = absurd h
held_good step limits s (payload ∷ payloads) [] t g h = absurd h
held_good step limits s (payload ∷ payloads) (m ∷ messages) t g h =
    held_good step limits h.0 payloads messages t (subst Good (sym h.1.step.1) (step limits s m g h.1.step.0)) h.2
