use Rattle.std.proofs.Common.{inl, inr, refl, ap, subst, List, ℕ}
use Rattle.std.specs.Prelude.{Err}
use Rattle.map_rules.specs.State.{State}
use Rattle.map_core.specs.Tried.{CoreView}
use Rattle.map_store.specs.declared.fault.StartFault.{StartFault}
use Rattle.bgt_cli.specs.declared.status.Status.TheVariants.{Good, WriteFault}
use Rattle.bgt_cli.specs.Load.{EndsRefused, not_journal_line, damaged_line}
use Rattle.bgt_cli.specs.Query.{IsAnswer}
use Rattle.bgt_cli.specs.Stream.{Goes, TellsFront}
use Rattle.bgt_cli.proofs.Answering.{as_before, is_no_bad, told_all, told_front}
use Rattle.bgt_cli.proofs.Quiet.{quiet_on, while_reading, while_telling}
use Rattle.bgt_cli.proofs.Refusing.{told_bad}
use Rattle.bgt_cli.proofs.query.answer_query.Goals as goal

pub returns-in-Err-NotJournal-clause-told : goal.returns-in-Err-NotJournal-clause-told
returns-in-Err-NotJournal-clause-told g c = λ file reads messages state stands.
    let none = c.in-Err-NotJournal.ensures.not_journal (ap (λ (f : StartFault). Err f) c.in-Err-NotJournal.field-0-is) in
    absurd (c.not_both.ensures.mark c.args.limits.now file messages state (none.0 file reads) stands)

pub returns-in-Err-NotJournal-clause-no_list : goal.returns-in-Err-NotJournal-clause-no_list
returns-in-Err-NotJournal-clause-no_list g c =
    let none = c.in-Err-NotJournal.ensures.not_journal (ap (λ (f : StartFault). Err f) c.in-Err-NotJournal.field-0-is) in
    told_bad c.args.limits.now (g.O.Outside.shown c.args.outside.now) (g.O.Outside.shown c.start.new.outside)
    (g.O.Outside.shown c.refuse.new.outside)
    not_journal_line c.refuse.result none.1 c.refuse.ensures.ends (λ file is. inl (none.0 file is, refl))

pub returns-in-Err-Damaged-clause-told : goal.returns-in-Err-Damaged-clause-told
returns-in-Err-Damaged-clause-told g c = λ file reads messages state stands.
    let bad = c.in-Err-Damaged.ensures.damaged c.in-Err-Damaged.at (ap (λ (f : StartFault). Err f) c.in-Err-Damaged.field-0-is) in
    absurd (c.not_both.ensures.gates c.args.limits.now file c.in-Err-Damaged.at messages state (bad.0 file reads) stands)

pub returns-in-Err-Damaged-clause-no_list : goal.returns-in-Err-Damaged-clause-no_list
returns-in-Err-Damaged-clause-no_list g c =
    let bad = c.in-Err-Damaged.ensures.damaged c.in-Err-Damaged.at (ap (λ (f : StartFault). Err f) c.in-Err-Damaged.field-0-is) in
    let mid = g.O.Outside.shown c.start.new.outside in
    let new = g.O.Outside.shown c.refuse_gate.new.outside in
    let ends = subst (λ (at : ℕ). EndsRefused (damaged_line at) c.refuse_gate.result mid new) c.in-Err-Damaged.at-is
    c.refuse_gate.ensures.ends in
    told_bad c.args.limits.now (g.O.Outside.shown c.args.outside.now) mid new (damaged_line c.in-Err-Damaged.at) c.refuse_gate.result bad.1
    ends
    (λ file is. inr (c.in-Err-Damaged.at, bad.0 file is, refl))

pub returns-in_default-tell-clause-told : goal.returns-in_default-tell-clause-told
returns-in_default-tell-clause-told g c =
    let old = g.O.Outside.shown c.args.outside.now in
    let mid = g.O.Outside.shown c.start.new.outside in
    let new = g.O.Outside.shown c.tell.new.outside in
    let same = as_before old mid c.in-Ok.ensures.told c.in-Ok.ensures.disk in
    let is = subst (λ (s : State). IsAnswer c.args.query s c.in-Ok-text.text) (ap (λ (v : CoreView). v.state) c.core.ensures.core)
    c.in-Ok-text.ensures in
    let front = subst (λ (text : List ℕ). TellsFront text mid new) c.as_slice.ensures c.in_default-tell.ensures.err in
    told_front c.args.limits.now c.args.query c.in-Ok.store.state c.in-Ok-text.text old mid new same c.in-Ok.ensures.state
    c.one_list.ensures is front

pub returns-in_default-tell-clause-no_list : goal.returns-in_default-tell-clause-no_list
returns-in_default-tell-clause-no_list g c =
    let old = g.O.Outside.shown c.args.outside.now in
    let new = g.O.Outside.shown c.tell.new.outside in
    is_no_bad c.args.limits.now c.in-Ok.store.state WriteFault old new c.in-Ok.ensures.state

pub returns-clause-told : goal.returns-clause-told
returns-clause-told g c =
    let old = g.O.Outside.shown c.args.outside.now in
    let mid = g.O.Outside.shown c.start.new.outside in
    let new = g.O.Outside.shown c.tell.new.outside in
    let same = as_before old mid c.in-Ok.ensures.told c.in-Ok.ensures.disk in
    let is = subst (λ (s : State). IsAnswer c.args.query s c.in-Ok-text.text) (ap (λ (v : CoreView). v.state) c.core.ensures.core)
    c.in-Ok-text.ensures in
    let goes = subst (λ (text : List ℕ). Goes 0 text mid new) c.as_slice.ensures c.in-Ok-tell.ensures.ok in
    told_all c.args.limits.now c.args.query c.in-Ok.store.state c.in-Ok-text.text old mid new same c.in-Ok.ensures.state c.one_list.ensures
    is goes

pub returns-clause-no_list : goal.returns-clause-no_list
returns-clause-no_list g c =
    let old = g.O.Outside.shown c.args.outside.now in
    let new = g.O.Outside.shown c.tell.new.outside in
    is_no_bad c.args.limits.now c.in-Ok.store.state Good old new c.in-Ok.ensures.state

pub returns-in-Err-NotJournal-clause-nothing_new : goal.returns-in-Err-NotJournal-clause-nothing_new
returns-in-Err-NotJournal-clause-nothing_new g c =
    let begun
    = while_reading g.O.Outside.leaves g.O.Outside.clock g.O.Outside.left (g.O.Outside.shown c.args.outside.now).told c.args.outside.now
    c.start.new.outside
    (c.in-Err-NotJournal.ensures.reading refl).1 (c.in-Err-NotJournal.ensures.reading_moments refl) in
    quiet_on g.O.Outside.leaves g.O.Outside.clock g.O.Outside.left c.args.outside.now c.start.new.outside c.refuse.new.outside begun
    c.refuse.ensures.nothing_new

pub returns-in-Err-Damaged-clause-nothing_new : goal.returns-in-Err-Damaged-clause-nothing_new
returns-in-Err-Damaged-clause-nothing_new g c =
    let begun
    = while_reading g.O.Outside.leaves g.O.Outside.clock g.O.Outside.left (g.O.Outside.shown c.args.outside.now).told c.args.outside.now
    c.start.new.outside
    (c.in-Err-Damaged.ensures.reading refl).1 (c.in-Err-Damaged.ensures.reading_moments refl) in
    quiet_on g.O.Outside.leaves g.O.Outside.clock g.O.Outside.left c.args.outside.now c.start.new.outside c.refuse_gate.new.outside begun
    c.refuse_gate.ensures.nothing_new

pub returns-in-Err-DiskFault-clause-nothing_new : goal.returns-in-Err-DiskFault-clause-nothing_new
returns-in-Err-DiskFault-clause-nothing_new g c =
    while_reading g.O.Outside.leaves g.O.Outside.clock g.O.Outside.left (g.O.Outside.shown c.args.outside.now).told c.args.outside.now
    c.start.new.outside
    (c.in-Err-DiskFault.ensures.reading refl).1 (c.in-Err-DiskFault.ensures.reading_moments refl)

pub returns-in-Err-NoMemory-clause-nothing_new : goal.returns-in-Err-NoMemory-clause-nothing_new
returns-in-Err-NoMemory-clause-nothing_new g c =
    while_reading g.O.Outside.leaves g.O.Outside.clock g.O.Outside.left (g.O.Outside.shown c.args.outside.now).told c.args.outside.now
    c.start.new.outside
    (c.in-Err-NoMemory.ensures.reading refl).1 (c.in-Err-NoMemory.ensures.reading_moments refl)

pub returns-in_default-clause-nothing_new : goal.returns-in_default-clause-nothing_new
returns-in_default-clause-nothing_new g c =
    while_reading g.O.Outside.leaves g.O.Outside.clock g.O.Outside.left (g.O.Outside.shown c.args.outside.now).told c.args.outside.now
    c.start.new.outside
    (c.in-Ok.ensures.reading refl).1 (c.in-Ok.ensures.reading_moments refl)

pub returns-in_default-tell-clause-nothing_new : goal.returns-in_default-tell-clause-nothing_new
returns-in_default-tell-clause-nothing_new g c =
    let begun
    = while_reading g.O.Outside.leaves g.O.Outside.clock g.O.Outside.left (g.O.Outside.shown c.args.outside.now).told c.args.outside.now
    c.start.new.outside
    (c.in-Ok.ensures.reading refl).1 (c.in-Ok.ensures.reading_moments refl) in
    quiet_on g.O.Outside.leaves g.O.Outside.clock g.O.Outside.left c.args.outside.now c.start.new.outside c.tell.new.outside begun
    (while_telling g.O.Outside.leaves g.O.Outside.clock g.O.Outside.left (g.O.Outside.shown c.start.new.outside).told c.as_slice.result.now _
    c.start.new.outside c.tell.new.outside c.tell.ensures.images c.tell.ensures.moments)

pub returns-clause-nothing_new : goal.returns-clause-nothing_new
returns-clause-nothing_new g c =
    let begun
    = while_reading g.O.Outside.leaves g.O.Outside.clock g.O.Outside.left (g.O.Outside.shown c.args.outside.now).told c.args.outside.now
    c.start.new.outside
    (c.in-Ok.ensures.reading refl).1 (c.in-Ok.ensures.reading_moments refl) in
    quiet_on g.O.Outside.leaves g.O.Outside.clock g.O.Outside.left c.args.outside.now c.start.new.outside c.tell.new.outside begun
    (while_telling g.O.Outside.leaves g.O.Outside.clock g.O.Outside.left (g.O.Outside.shown c.start.new.outside).told c.as_slice.result.now _
    c.start.new.outside c.tell.new.outside c.tell.ensures.images c.tell.ensures.moments)
