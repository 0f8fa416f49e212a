use Rattle.std.proofs.Common.{⊎_elim, ◌≡◌, [], List, ℕ, sym, ap, ◌∙◌, subst, Option}
use Rattle.std.specs.Prelude.{Err, option_map}
use Rattle.outside.specs.Crash.{At}
use Rattle.outside.specs.Outside.{Shown}
use Rattle.outside.proofs.Moments.{run_on}
use Rattle.map_rules.specs.State.{opening}
use Rattle.map_core.specs.Tried.{CoreView}
use Rattle.gate_journal.specs.declared.fault.JournalFault.{JournalFault}
use Rattle.gate_journal.specs.declared.fault.JournalFault.TheVariants as journal
use Rattle.gate_journal.specs.Journal.{StandsFor}
use Rattle.gate_journal.specs.Settled.{begun_file}
use Rattle.map_store.specs.declared.fault.StartFault.TheVariants as fault
use Rattle.map_store.specs.Stands.{Holds}
use Rattle.map_store.proofs.Holding.{holds-none}
use Rattle.map_store.proofs.Spoilt.{same_err}
use Rattle.map_store.proofs.Starting.{spoilt_disk, for_told, started_state, started_kept, still_durable}
use Rattle.map_store.proofs.store.Store.start.Goals as goal

pub returns-in-Err-clause-not_journal : goal.returns-in-Err-clause-not_journal
returns-in-Err-clause-not_journal g c = λ e. c.in-Err.ensures.not_journal
    (ap (λ (f : JournalFault). Err f) (c.start_fault.ensures.not_journal (same_err c.start_fault.result fault.NotJournal e)))

pub take_records-requires-clause-read : goal.take_records-requires-clause-read
take_records-requires-clause-read g c = λ file is. record {
  payloads = [];
  messages = [];
  read = c.in-Ok.ensures.read file is;
  holds = subst (λ (v : CoreView). Holds c.args.limits.now opening [] [] v.state) (sym c.new-core.ensures.value)
      (holds-none c.args.limits.now opening);
}

pub returns-in-Ok-take_records-clause-images : goal.returns-in-Ok-take_records-clause-images
returns-in-Ok-take_records-clause-images g c
    = λ ps all image now. c.in-Ok.ensures.images ps all image (c.take_records.ensures.images image now)

pub returns-in-Ok-take_records-clause-moments : goal.returns-in-Ok-take_records-clause-moments
returns-in-Ok-take_records-clause-moments g c = λ ps all.
    run_on g.O.Outside.clock g.O.Outside.left c.args.outside.now c.begin.new.outside c.take_records.new.outside _ _
    (At (g.O.Outside.shown c.args.outside.now).told (λ image. StandsFor image ps)) (c.in-Ok.ensures.moments ps all)
    c.take_records.ensures.moments (λ told image h. h)
    (λ told image h. (sym (ap (λ (s : Shown). s.told) c.in-Ok.ensures.kept) ∙ h.0, c.in-Ok.ensures.images ps all image h.1))

pub returns-in-Err-take_records-clause-images : goal.returns-in-Err-take_records-clause-images
returns-in-Err-take_records-clause-images g c
    = λ ps all image now. c.in-Ok.ensures.images ps all image (c.take_records.ensures.images image now)

pub returns-in-Err-take_records-clause-moments : goal.returns-in-Err-take_records-clause-moments
returns-in-Err-take_records-clause-moments g c = λ ps all.
    run_on g.O.Outside.clock g.O.Outside.left c.args.outside.now c.begin.new.outside c.take_records.new.outside _ _
    (At (g.O.Outside.shown c.args.outside.now).told (λ image. StandsFor image ps)) (c.in-Ok.ensures.moments ps all)
    c.take_records.ensures.moments (λ told image h. h)
    (λ told image h. (sym (ap (λ (s : Shown). s.told) c.in-Ok.ensures.kept) ∙ h.0, c.in-Ok.ensures.images ps all image h.1))

pub returns-in-Ok-take_records-clause-state : goal.returns-in-Ok-take_records-clause-state
returns-in-Ok-take_records-clause-state g c = λ file is.
    let now = ap (λ (s : Shown). s.disk) c.take_records.ensures.same ∙ c.in-Ok.ensures.disk ∙ ap (option_map (begun_file c.args.mode)) is in
    let e = c.in-Ok-take_records.ensures.at_end.1 (begun_file c.args.mode file) now in
    (e.messages, started_state c.args.limits.now c.take_records.new.journal c.take_records.new.core.state c.args.mode file e)

pub returns-in-Ok-take_records-clause-at_work : goal.returns-in-Ok-take_records-clause-at_work
returns-in-Ok-take_records-clause-at_work g c = λ writing still.
    let durable
    = still_durable _ (g.O.Outside.shown c.take_records.new.outside).disk _ (g.O.Outside.leaves c.take_records.new.outside)
    (ap (λ (s : Shown). s.disk) c.take_records.ensures.same) (c.in-Ok.ensures.durable writing) c.take_records.ensures.images in
    let full = c.in-Ok-take_records.ensures.kept.1 ∙ c.in-Ok.ensures.begun.3 writing in
    for_told (g.O.Outside.shown c.take_records.new.outside).disk _ (λ file is.
    let e = c.in-Ok-take_records.ensures.at_end.1 file is in (
      e.messages,
      started_kept c.args.limits.now c.take_records.new.journal c.take_records.new.core.state
          (g.O.Outside.shown c.take_records.new.outside).disk (g.O.Outside.leaves c.take_records.new.outside) file is durable full e,
    ))

pub returns-in-Ok-take_records-clause-kept : goal.returns-in-Ok-take_records-clause-kept
returns-in-Ok-take_records-clause-kept g c = λ writing file is.
    let now = ap (λ (s : Shown). s.disk) c.take_records.ensures.same ∙ c.in-Ok.ensures.disk ∙ ap (option_map (begun_file c.args.mode)) is in
    let e = c.in-Ok-take_records.ensures.at_end.1 (begun_file c.args.mode file) now in
    let durable
    = still_durable _ (g.O.Outside.shown c.take_records.new.outside).disk _ (g.O.Outside.leaves c.take_records.new.outside)
    (ap (λ (s : Shown). s.disk) c.take_records.ensures.same) (c.in-Ok.ensures.durable writing) c.take_records.ensures.images in
    let full = c.in-Ok-take_records.ensures.kept.1 ∙ c.in-Ok.ensures.begun.3 writing in (
      e.messages,
      started_state c.args.limits.now c.take_records.new.journal c.take_records.new.core.state c.args.mode file e,
      started_kept c.args.limits.now c.take_records.new.journal c.take_records.new.core.state
          (g.O.Outside.shown c.take_records.new.outside).disk (g.O.Outside.leaves c.take_records.new.outside) (begun_file c.args.mode file)
          now durable full e,
    )

pub returns-in-Err-take_records-clause-damaged : goal.returns-in-Err-take_records-clause-damaged
returns-in-Err-take_records-clause-damaged g c = λ at e.
    let spoilt
    = c.in-Err-take_records.ensures.damaged at (ap (λ (f : _). Err f) (same_err c.in-Err-take_records.fault (fault.Damaged at) e)) in
    let same = spoilt_disk c.args.limits.now c.args.mode at (g.O.Outside.shown c.args.outside.now).disk
    (g.O.Outside.shown c.begin.new.outside).disk c.in-Ok.ensures.disk spoilt in (
      (λ file is. spoilt file (same ∙ is)),
      c.take_records.ensures.same ∙ c.in-Ok.ensures.kept ∙ ap (λ (d : Option (List ℕ)). record (g.O.Outside.shown c.args.outside.now)
          { disk = d }) same,
    )

pub returns-in-Err-clause-no_memory : goal.returns-in-Err-clause-no_memory
returns-in-Err-clause-no_memory g c = λ e.
    let memory = c.start_fault.ensures.memory (same_err c.start_fault.result fault.NoMemory e) in
    absurd (⊎_elim (λ (other : c.in-Err.fault ≡ journal.NotJournal). not_journal c.in-Err.fault memory other)
    (λ (other : c.in-Err.fault ≡ journal.DiskFault). not_disk c.in-Err.fault memory other) c.in-Err.ensures.nothing_else)
  where
    not_journal : (f : JournalFault) → f ≡ journal.NoMemory → f ≡ journal.NotJournal → ⊥
    not_journal f a b = cc

    not_disk : (f : JournalFault) → f ≡ journal.NoMemory → f ≡ journal.DiskFault → ⊥
    not_disk f a b = cc

pub returns-in-Ok-take_records-clause-long : goal.returns-in-Ok-take_records-clause-long
returns-in-Ok-take_records-clause-long g c = λ file is long. c.take_records.ensures.same ∙ c.in-Ok.ensures.long file is long

pub returns-in-Err-take_records-clause-long : goal.returns-in-Err-take_records-clause-long
returns-in-Err-take_records-clause-long g c = λ file is long. c.take_records.ensures.same ∙ c.in-Ok.ensures.long file is long

pub returns-in-Ok-take_records-clause-reading : goal.returns-in-Ok-take_records-clause-reading
returns-in-Ok-take_records-clause-reading g c = λ reading.
    let begun = c.in-Ok.ensures.reading reading in
    (c.take_records.ensures.same ∙ begun.0, λ image now. begun.1 image (c.take_records.ensures.images image now))

pub returns-in-Err-take_records-clause-reading : goal.returns-in-Err-take_records-clause-reading
returns-in-Err-take_records-clause-reading g c = λ reading.
    let begun = c.in-Ok.ensures.reading reading in
    (c.take_records.ensures.same ∙ begun.0, λ image now. begun.1 image (c.take_records.ensures.images image now))

pub returns-in-Ok-take_records-clause-reading_moments : goal.returns-in-Ok-take_records-clause-reading_moments
returns-in-Ok-take_records-clause-reading_moments g c = λ reading.
    let begun = c.in-Ok.ensures.reading reading in
    let at_entry = At (g.O.Outside.shown c.args.outside.now).told (g.O.Outside.leaves c.args.outside.now) in
    run_on g.O.Outside.clock g.O.Outside.left c.args.outside.now c.begin.new.outside c.take_records.new.outside _ _ at_entry
    (c.in-Ok.ensures.reading_moments reading) c.take_records.ensures.moments (λ told image h. h)
    (λ told image h. (sym (ap (λ (s : Shown). s.told) begun.0) ∙ h.0, begun.1 image h.1))

pub returns-in-Err-take_records-clause-reading_moments : goal.returns-in-Err-take_records-clause-reading_moments
returns-in-Err-take_records-clause-reading_moments g c = λ reading.
    let begun = c.in-Ok.ensures.reading reading in
    let at_entry = At (g.O.Outside.shown c.args.outside.now).told (g.O.Outside.leaves c.args.outside.now) in
    run_on g.O.Outside.clock g.O.Outside.left c.args.outside.now c.begin.new.outside c.take_records.new.outside _ _ at_entry
    (c.in-Ok.ensures.reading_moments reading) c.take_records.ensures.moments (λ told image h. h)
    (λ told image h. (sym (ap (λ (s : Shown). s.told) begun.0) ∙ h.0, begun.1 image h.1))
