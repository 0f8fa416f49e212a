use Rattle.std.proofs.Common.{◌≡◌, ℕ, ◌+◌, [], ◌∷◌, ◌++◌, length, sym, ◌∙◌, ap, subst, arith, length-append}
use Rattle.std.specs.Prelude.{option_map}
use Rattle.outside.specs.Outside.{Shown, written}
use Rattle.gate_journal.specs.Journal.{frame}
use Rattle.gate_journal.specs.Reading.{Begun}
use Rattle.gate_journal.specs.Settled.{IsSettled, IsSettledIfTold}
use Rattle.gate_journal.proofs.Gates.{length-frame}
use Rattle.gate_journal.proofs.Appending.{writing, opening, appended, ready}
use Rattle.gate_journal.proofs.journal.Journal.append.Goals as goal

pub write_and_sync-requires-clause-low : goal.write_and_sync-requires-clause-low
write_and_sync-requires-clause-low g c =
    let gate : c.self.inside.gate ≡ c.args.self.now.gate = ap (λ (j : Begun). j.gate) c.self.view_is in
    omega (
      arith,
      gate,
      c.requires.room,
      ap length c.bytes.ensures.bytes,
      length-append (frame c.args.frame.now) (0 ∷ []),
      length-frame c.args.frame.now,
    )

pub returns-in_default-clause-moments : goal.returns-in_default-clause-moments
returns-in_default-clause-moments g c = λ ps s.
    let gate : c.self.inside.gate ≡ c.args.self.now.gate = ap (λ (j : Begun). j.gate) c.self.view_is in
    let here = subst (λ (n : ℕ). IsSettled (g.O.Outside.shown c.args.outside.now).disk (g.O.Outside.leaves c.args.outside.now) n ps)
    (sym gate) s in
    writing g.O.Outside.shown g.O.Outside.leaves g.O.Outside.clock g.O.Outside.left c.args.outside.now c.write_and_sync.new.outside
    c.write_and_sync.new.outside c.self.inside.gate c.args.frame.now c.bytes.result.now c.bytes.ensures.size c.bytes.ensures.bytes ps
    here c.in_default.ensures.moments

pub returns-in_default-write_and_sync-clause-moments : goal.returns-in_default-write_and_sync-clause-moments
returns-in_default-write_and_sync-clause-moments g c = λ ps s.
    let gate : c.self.inside.gate ≡ c.args.self.now.gate = ap (λ (j : Begun). j.gate) c.self.view_is in
    let here = subst (λ (n : ℕ). IsSettled (g.O.Outside.shown c.args.outside.now).disk (g.O.Outside.leaves c.args.outside.now) n ps)
    (sym gate) s in
    opening g.O.Outside.shown g.O.Outside.leaves g.O.Outside.clock g.O.Outside.left c.args.outside.now c.write_and_sync.new.outside
    c.write_and_sync-2.new.outside c.self.inside.gate c.args.frame.now c.bytes.result.now c.bytes.ensures.size c.bytes.ensures.bytes
    c.in-Ok.ensures.written c.in-Ok.ensures.durable ps here c.in-Ok.ensures.moments c.in_default-write_and_sync.ensures.moments

pub returns-clause-moments : goal.returns-clause-moments
returns-clause-moments g c = λ ps s.
    let gate : c.self.inside.gate ≡ c.args.self.now.gate = ap (λ (j : Begun). j.gate) c.self.view_is in
    let here = subst (λ (n : ℕ). IsSettled (g.O.Outside.shown c.args.outside.now).disk (g.O.Outside.leaves c.args.outside.now) n ps)
    (sym gate) s in
    opening g.O.Outside.shown g.O.Outside.leaves g.O.Outside.clock g.O.Outside.left c.args.outside.now c.write_and_sync.new.outside
    c.write_and_sync-2.new.outside c.self.inside.gate c.args.frame.now c.bytes.result.now c.bytes.ensures.size c.bytes.ensures.bytes
    c.in-Ok.ensures.written c.in-Ok.ensures.durable ps here c.in-Ok.ensures.moments c.in-Ok-write_and_sync.ensures.moments

pub returns-clause-appended : goal.returns-clause-appended
returns-clause-appended g c = λ ps s.
    let gate : c.self.inside.gate ≡ c.args.self.now.gate = ap (λ (j : Begun). j.gate) c.self.view_is in
    let here = subst (λ (n : ℕ). IsSettled (g.O.Outside.shown c.args.outside.now).disk (g.O.Outside.leaves c.args.outside.now) n ps)
    (sym gate) s in
    subst (λ (n : ℕ). IsSettled (g.O.Outside.shown c.write_and_sync-2.new.outside).disk (g.O.Outside.leaves c.write_and_sync-2.new.outside)
    n (ps ++ c.args.frame.now ∷ [])) {x = c.self.inside.gate + 9 + length c.args.frame.now} {y = c.self.inside.gate + c.len.result}
    (omega (arith, c.len.ensures))
    (appended g.O.Outside.shown g.O.Outside.leaves g.O.Outside.clock g.O.Outside.left c.args.outside.now c.write_and_sync.new.outside
    c.write_and_sync-2.new.outside c.self.inside.gate c.args.frame.now c.bytes.result.now c.bytes.ensures.size c.bytes.ensures.bytes
    c.in-Ok.ensures.written c.in-Ok.ensures.durable c.in-Ok-write_and_sync.ensures.written c.in-Ok-write_and_sync.ensures.durable ps here)

pub returns-clause-ready : goal.returns-clause-ready
returns-clause-ready g c =
    let gate : c.self.inside.gate ≡ c.args.self.now.gate = ap (λ (j : Begun). j.gate) c.self.view_is in
    let here = subst (λ (n : ℕ). IsSettledIfTold (g.O.Outside.shown c.args.outside.now).disk (g.O.Outside.leaves c.args.outside.now) n)
    (sym gate) c.requires.settled in
    subst (λ (n : ℕ). IsSettledIfTold (g.O.Outside.shown c.write_and_sync-2.new.outside).disk
    (g.O.Outside.leaves c.write_and_sync-2.new.outside) n) {x = c.self.inside.gate + 9 + length c.args.frame.now}
    {y = c.self.inside.gate + c.len.result} (omega (arith, c.len.ensures))
    (ready g.O.Outside.shown g.O.Outside.leaves g.O.Outside.clock g.O.Outside.left c.args.outside.now c.write_and_sync.new.outside
    c.write_and_sync-2.new.outside c.self.inside.gate c.args.frame.now c.bytes.result.now c.bytes.ensures.size c.bytes.ensures.bytes
    c.in-Ok.ensures.written c.in-Ok.ensures.durable c.in-Ok-write_and_sync.ensures.written c.in-Ok-write_and_sync.ensures.durable here)

pub returns-clause-untold : goal.returns-clause-untold
returns-clause-untold g c = λ none.
    ap (λ (s : Shown). s.disk) c.in-Ok-write_and_sync.ensures.written ∙ ap (option_map (written c.self.inside.gate (1 ∷ [])))
    (ap (λ (s : Shown). s.disk) c.in-Ok.ensures.written ∙ ap (option_map (written (c.self.inside.gate + 1) c.bytes.result.now)) none)
