use Rattle.std.proofs.Common.{◌∙◌, inl, inr, refl, ap, subst, sym}
use Rattle.std.specs.Prelude.{Err}
use Rattle.outside.specs.Outside.{Shown}
use Rattle.map_core.specs.Tried.{CoreView}
use Rattle.map_rules.specs.State.{State}
use Rattle.map_store.specs.declared.fault.StartFault.{StartFault}
use Rattle.bgt_cli.specs.declared.status.Status.TheVariants as status
use Rattle.bgt_cli.specs.Clause.{TakesAtMost}
use Rattle.bgt_cli.specs.Explain.{IsTried}
use Rattle.bgt_cli.specs.Load.{not_journal_line, damaged_line}
use Rattle.bgt_cli.proofs.Closing.{disk_failed, meets, none_told, nothing_goes, refused_goes, refused_not_full}
use Rattle.bgt_cli.proofs.Quiet.{quiet_on, while_reading}
use Rattle.bgt_cli.proofs.Refusing.{has_list, no_disk, no_read, no_usage, not_told_disk, not_told_memory, refused_journal, told_bad}
use Rattle.bgt_cli.proofs.explain.explain.Goals as goal

-- ---- a file that is no journal
pub returns-in-Err-NotJournal-clause-tried : goal.returns-in-Err-NotJournal-clause-tried
returns-in-Err-NotJournal-clause-tried g c = λ input file i reads messages state stands.
    let none = c.in-Err-NotJournal.ensures.not_journal (ap (λ (f : StartFault). Err f) c.in-Err-NotJournal.field-0-is) in
    absurd (c.not_both.ensures.mark c.args.limits.now file messages state (none.0 file reads) stands)

pub returns-in-Err-NotJournal-clause-no_list : goal.returns-in-Err-NotJournal-clause-no_list
returns-in-Err-NotJournal-clause-no_list g c =
    let none = c.in-Err-NotJournal.ensures.not_journal (ap (λ (f : StartFault). Err f) c.in-Err-NotJournal.field-0-is) in
    told_bad c.args.limits.now (g.O.Outside.shown c.args.outside.now) (g.O.Outside.shown c.start.new.outside)
    (g.O.Outside.shown c.refuse.new.outside) not_journal_line c.refuse.result none.1 c.refuse.ensures.ends
    (λ file is. inl (none.0 file is, refl))

pub returns-in-Err-NotJournal-clause-bad_journal : goal.returns-in-Err-NotJournal-clause-bad_journal
returns-in-Err-NotJournal-clause-bad_journal g c =
    let none = c.in-Err-NotJournal.ensures.not_journal (ap (λ (f : StartFault). Err f) c.in-Err-NotJournal.field-0-is) in
    refused_journal c.args.limits.now (g.O.Outside.shown c.args.outside.now) (g.O.Outside.shown c.start.new.outside)
    (g.O.Outside.shown c.refuse.new.outside) not_journal_line c.refuse.result none.1 c.refuse.ensures.ends
    (λ file is. inl (none.0 file is, refl))

pub returns-in-Err-NotJournal-clause-taken : goal.returns-in-Err-NotJournal-clause-taken
returns-in-Err-NotJournal-clause-taken g c =
    let none = c.in-Err-NotJournal.ensures.not_journal (ap (λ (f : StartFault). Err f) c.in-Err-NotJournal.field-0-is) in
    refused_goes c.args.limits.now.input_bytes not_journal_line c.refuse.result (g.O.Outside.shown c.args.outside.now)
    (g.O.Outside.shown c.start.new.outside) (g.O.Outside.shown c.refuse.new.outside) none.1 c.refuse.ensures.ends

pub returns-in-Err-NotJournal-clause-listed : goal.returns-in-Err-NotJournal-clause-listed
returns-in-Err-NotJournal-clause-listed g c
    = no_usage not_journal_line c.refuse.result (g.O.Outside.shown c.start.new.outside) (g.O.Outside.shown c.refuse.new.outside)
    c.refuse.ensures.ends

pub returns-in-Err-NotJournal-clause-no_full : goal.returns-in-Err-NotJournal-clause-no_full
returns-in-Err-NotJournal-clause-no_full g c
    = refused_not_full not_journal_line c.refuse.result (g.O.Outside.shown c.start.new.outside) (g.O.Outside.shown c.refuse.new.outside)
    c.refuse.ensures.ends

pub returns-in-Err-NotJournal-clause-read_fault : goal.returns-in-Err-NotJournal-clause-read_fault
returns-in-Err-NotJournal-clause-read_fault g c = λ e. absurd (no_read not_journal_line c.refuse.result
    (g.O.Outside.shown c.start.new.outside) (g.O.Outside.shown c.refuse.new.outside) c.refuse.ensures.ends e)

pub returns-in-Err-NotJournal-clause-disk_fault : goal.returns-in-Err-NotJournal-clause-disk_fault
returns-in-Err-NotJournal-clause-disk_fault g c = λ e. absurd (no_disk not_journal_line c.refuse.result
    (g.O.Outside.shown c.start.new.outside) (g.O.Outside.shown c.refuse.new.outside) c.refuse.ensures.ends e)

pub returns-in-Err-NotJournal-clause-nothing_new : goal.returns-in-Err-NotJournal-clause-nothing_new
returns-in-Err-NotJournal-clause-nothing_new g c =
    quiet_on g.O.Outside.leaves g.O.Outside.clock g.O.Outside.left c.args.outside.now c.start.new.outside c.refuse.new.outside
    (while_reading g.O.Outside.leaves g.O.Outside.clock g.O.Outside.left (g.O.Outside.shown c.args.outside.now).told c.args.outside.now c.start.new.outside
    (c.in-Err-NotJournal.ensures.reading refl).1 (c.in-Err-NotJournal.ensures.reading_moments refl)) c.refuse.ensures.nothing_new

-- ---- one that is damaged
pub returns-in-Err-Damaged-clause-tried : goal.returns-in-Err-Damaged-clause-tried
returns-in-Err-Damaged-clause-tried g c = λ input file i reads messages state stands.
    let bad = c.in-Err-Damaged.ensures.damaged c.in-Err-Damaged.at (ap (λ (f : StartFault). Err f) c.in-Err-Damaged.field-0-is) in
    absurd (c.not_both.ensures.gates c.args.limits.now file c.in-Err-Damaged.at messages state (bad.0 file reads) stands)

pub returns-in-Err-Damaged-clause-no_list : goal.returns-in-Err-Damaged-clause-no_list
returns-in-Err-Damaged-clause-no_list g c =
    let bad = c.in-Err-Damaged.ensures.damaged c.in-Err-Damaged.at (ap (λ (f : StartFault). Err f) c.in-Err-Damaged.field-0-is) in
    told_bad c.args.limits.now (g.O.Outside.shown c.args.outside.now) (g.O.Outside.shown c.start.new.outside)
    (g.O.Outside.shown c.refuse_gate.new.outside) (damaged_line c.in-Err-Damaged.at) c.refuse_gate.result bad.1
    c.refuse_gate.ensures.ends (λ file is. inr (c.in-Err-Damaged.at, bad.0 file is, refl))

pub returns-in-Err-Damaged-clause-bad_journal : goal.returns-in-Err-Damaged-clause-bad_journal
returns-in-Err-Damaged-clause-bad_journal g c =
    let bad = c.in-Err-Damaged.ensures.damaged c.in-Err-Damaged.at (ap (λ (f : StartFault). Err f) c.in-Err-Damaged.field-0-is) in
    refused_journal c.args.limits.now (g.O.Outside.shown c.args.outside.now) (g.O.Outside.shown c.start.new.outside)
    (g.O.Outside.shown c.refuse_gate.new.outside) (damaged_line c.in-Err-Damaged.at) c.refuse_gate.result bad.1
    c.refuse_gate.ensures.ends (λ file is. inr (c.in-Err-Damaged.at, bad.0 file is, refl))

pub returns-in-Err-Damaged-clause-taken : goal.returns-in-Err-Damaged-clause-taken
returns-in-Err-Damaged-clause-taken g c =
    let bad = c.in-Err-Damaged.ensures.damaged c.in-Err-Damaged.at (ap (λ (f : StartFault). Err f) c.in-Err-Damaged.field-0-is) in
    refused_goes c.args.limits.now.input_bytes (damaged_line c.in-Err-Damaged.at) c.refuse_gate.result
    (g.O.Outside.shown c.args.outside.now) (g.O.Outside.shown c.start.new.outside) (g.O.Outside.shown c.refuse_gate.new.outside) bad.1
    c.refuse_gate.ensures.ends

pub returns-in-Err-Damaged-clause-listed : goal.returns-in-Err-Damaged-clause-listed
returns-in-Err-Damaged-clause-listed g c
    = no_usage (damaged_line c.in-Err-Damaged.at) c.refuse_gate.result (g.O.Outside.shown c.start.new.outside)
    (g.O.Outside.shown c.refuse_gate.new.outside) c.refuse_gate.ensures.ends

pub returns-in-Err-Damaged-clause-no_full : goal.returns-in-Err-Damaged-clause-no_full
returns-in-Err-Damaged-clause-no_full g c
    = refused_not_full (damaged_line c.in-Err-Damaged.at) c.refuse_gate.result (g.O.Outside.shown c.start.new.outside)
    (g.O.Outside.shown c.refuse_gate.new.outside) c.refuse_gate.ensures.ends

pub returns-in-Err-Damaged-clause-read_fault : goal.returns-in-Err-Damaged-clause-read_fault
returns-in-Err-Damaged-clause-read_fault g c = λ e. absurd (no_read (damaged_line c.in-Err-Damaged.at) c.refuse_gate.result
    (g.O.Outside.shown c.start.new.outside) (g.O.Outside.shown c.refuse_gate.new.outside) c.refuse_gate.ensures.ends e)

pub returns-in-Err-Damaged-clause-disk_fault : goal.returns-in-Err-Damaged-clause-disk_fault
returns-in-Err-Damaged-clause-disk_fault g c = λ e. absurd (no_disk (damaged_line c.in-Err-Damaged.at) c.refuse_gate.result
    (g.O.Outside.shown c.start.new.outside) (g.O.Outside.shown c.refuse_gate.new.outside) c.refuse_gate.ensures.ends e)

pub returns-in-Err-Damaged-clause-nothing_new : goal.returns-in-Err-Damaged-clause-nothing_new
returns-in-Err-Damaged-clause-nothing_new g c =
    quiet_on g.O.Outside.leaves g.O.Outside.clock g.O.Outside.left c.args.outside.now c.start.new.outside c.refuse_gate.new.outside
    (while_reading g.O.Outside.leaves g.O.Outside.clock g.O.Outside.left (g.O.Outside.shown c.args.outside.now).told c.args.outside.now c.start.new.outside
    (c.in-Err-Damaged.ensures.reading refl).1 (c.in-Err-Damaged.ensures.reading_moments refl)) c.refuse_gate.ensures.nothing_new

-- ---- one that was not read
pub returns-in-Err-DiskFault-clause-tried : goal.returns-in-Err-DiskFault-clause-tried
returns-in-Err-DiskFault-clause-tried g c = λ input file i reads messages state stands.
    let same = (c.in-Err-DiskFault.ensures.reading refl).0 in
    subst (λ (s : Shown). IsTried c.args.limits.now state input status.DiskFault (g.O.Outside.shown c.args.outside.now) s) (sym same)
    (disk_failed c.args.limits.now state input (g.O.Outside.shown c.args.outside.now))

pub returns-in-Err-DiskFault-clause-no_list : goal.returns-in-Err-DiskFault-clause-no_list
returns-in-Err-DiskFault-clause-no_list g c =
    not_told_disk c.args.limits.now (g.O.Outside.shown c.args.outside.now) (g.O.Outside.shown c.start.new.outside)
    c.in-Err-DiskFault.ensures.long

pub returns-in-Err-DiskFault-clause-taken : goal.returns-in-Err-DiskFault-clause-taken
returns-in-Err-DiskFault-clause-taken g c =
    nothing_goes c.args.limits.now.input_bytes (g.O.Outside.shown c.args.outside.now) (g.O.Outside.shown c.start.new.outside)
    (c.in-Err-DiskFault.ensures.reading refl).0

pub returns-in-Err-DiskFault-clause-nothing_new : goal.returns-in-Err-DiskFault-clause-nothing_new
returns-in-Err-DiskFault-clause-nothing_new g c =
    while_reading g.O.Outside.leaves g.O.Outside.clock g.O.Outside.left (g.O.Outside.shown c.args.outside.now).told c.args.outside.now
    c.start.new.outside
    (c.in-Err-DiskFault.ensures.reading refl).1 (c.in-Err-DiskFault.ensures.reading_moments refl)

pub returns-in-Err-NoMemory-clause-tried : goal.returns-in-Err-NoMemory-clause-tried
returns-in-Err-NoMemory-clause-tried g c = λ input file i reads messages state stands.
    let same = (c.in-Err-NoMemory.ensures.reading refl).0 in
    subst (λ (s : Shown). IsTried c.args.limits.now state input status.NoMemory (g.O.Outside.shown c.args.outside.now) s) (sym same)
    (none_told c.args.limits.now state input (g.O.Outside.shown c.args.outside.now))

pub returns-in-Err-NoMemory-clause-no_list : goal.returns-in-Err-NoMemory-clause-no_list
returns-in-Err-NoMemory-clause-no_list g c =
    not_told_memory c.args.limits.now (g.O.Outside.shown c.args.outside.now) (g.O.Outside.shown c.start.new.outside)
    c.in-Err-NoMemory.ensures.long

pub returns-in-Err-NoMemory-clause-taken : goal.returns-in-Err-NoMemory-clause-taken
returns-in-Err-NoMemory-clause-taken g c =
    nothing_goes c.args.limits.now.input_bytes (g.O.Outside.shown c.args.outside.now) (g.O.Outside.shown c.start.new.outside)
    (c.in-Err-NoMemory.ensures.reading refl).0

pub returns-in-Err-NoMemory-clause-nothing_new : goal.returns-in-Err-NoMemory-clause-nothing_new
returns-in-Err-NoMemory-clause-nothing_new g c =
    while_reading g.O.Outside.leaves g.O.Outside.clock g.O.Outside.left (g.O.Outside.shown c.args.outside.now).told c.args.outside.now
    c.start.new.outside
    (c.in-Err-NoMemory.ensures.reading refl).1 (c.in-Err-NoMemory.ensures.reading_moments refl)

-- ---- one that stands for messages
pub explain_input-requires-clause-untried : goal.explain_input-requires-clause-untried
explain_input-requires-clause-untried g c = ap (λ (v : CoreView). v.tried) c.into_core-core.ensures.core

pub explain_input-requires-clause-limits : goal.explain_input-requires-clause-limits
explain_input-requires-clause-limits g c = ap (λ (v : CoreView). v.limits) c.into_core-core.ensures.core ∙ c.in-Ok.ensures.started.0

pub returns-clause-tried : goal.returns-clause-tried
returns-clause-tried g c =
    let same = (c.in-Ok.ensures.reading refl).0 in
    meets c.one_list.ensures c.args.limits.now c.in-Ok.store.state c.explain_input.result (g.O.Outside.shown c.args.outside.now)
    (g.O.Outside.shown c.start.new.outside) (g.O.Outside.shown c.explain_input.new.outside)
    same c.in-Ok.ensures.state
    (λ input i. subst (λ (s : State). IsTried c.args.limits.now s input c.explain_input.result (g.O.Outside.shown c.start.new.outside)
    (g.O.Outside.shown c.explain_input.new.outside))
    (ap (λ (v : CoreView). v.state) c.into_core-core.ensures.core) (c.explain_input.ensures.tried input i))

pub returns-clause-no_list : goal.returns-clause-no_list
returns-clause-no_list g c =
    has_list c.args.limits.now c.explain_input.result c.in-Ok.store.state (g.O.Outside.shown c.args.outside.now)
    (g.O.Outside.shown c.explain_input.new.outside) c.in-Ok.ensures.state

pub returns-clause-taken : goal.returns-clause-taken
returns-clause-taken g c =
    subst (λ (s : Shown). TakesAtMost c.args.limits.now.input_bytes s (g.O.Outside.shown c.explain_input.new.outside))
    (c.in-Ok.ensures.reading refl).0 c.explain_input.ensures.taken

pub returns-clause-nothing_new : goal.returns-clause-nothing_new
returns-clause-nothing_new g c =
    quiet_on g.O.Outside.leaves g.O.Outside.clock g.O.Outside.left c.args.outside.now c.start.new.outside c.explain_input.new.outside
    (while_reading g.O.Outside.leaves g.O.Outside.clock g.O.Outside.left (g.O.Outside.shown c.args.outside.now).told c.args.outside.now c.start.new.outside
    (c.in-Ok.ensures.reading refl).1 (c.in-Ok.ensures.reading_moments refl)) c.explain_input.ensures.nothing_new
