use Rattle.std.proofs.Common.{◌≡◌, ◌++◌, ◌∷◌, [], List, ℕ, sym, ap, ◌∙◌, subst, arith, Option, Some, None}
use Rattle.std.specs.Prelude.{Err}
use Rattle.outside.specs.Outside.{Shown}
use Rattle.map_rules.specs.State.{opening}
use Rattle.gate_journal.specs.Reading.{Begun, ReadsOn, HasRecordAt, Hands, Moves}
use Rattle.map_store.specs.declared.records.RecordFault.{RecordFault}
use Rattle.map_store.specs.declared.fault.StartFault.TheVariants as fault
use Rattle.map_store.specs.Stands.{IsNextRecord, IsBad, IsSpoiltAt}
use Rattle.map_store.proofs.Holding.{holds-push}
use Rattle.map_store.proofs.Spoilt.{spoilt_gate, spoilt_record, same_err, same_place}
use Rattle.map_store.proofs.records.take_next.Goals as goal

pub next_payload-requires : goal.next_payload-requires
next_payload-requires g c = λ file is. let r = c.requires.read file is in (r.payloads, r.read)

pub returns-in-Ok-None-clause-read : goal.returns-in-Ok-None-clause-read
returns-in-Ok-None-clause-read g c = λ file now.
    let is = ap (λ (s : Shown). s.disk) (sym c.next_payload.ensures.same) ∙ now in
    let r = c.requires.read file is in
    let on : ReadsOn c.next_payload.new.self file r.payloads None = subst
    (λ (o : Option (List ℕ)). ReadsOn c.next_payload.new.self file r.payloads o) c.in-Ok-None.field-0-is
    (c.in-Ok-None.ensures.read file is r.payloads r.read) in
    record { payloads = r.payloads; messages = r.messages; read = on.0; holds = r.holds }

pub returns-in-Ok-None-clause-at_end : goal.returns-in-Ok-None-clause-at_end
returns-in-Ok-None-clause-at_end g c = (
  ap (λ (j : Begun). j.at_end) (subst (λ (o : Option (List ℕ)). Moves c.args.journal.now c.next_payload.new.self o) c.in-Ok-None.field-0-is
      c.in-Ok-None.ensures.moves),
  λ file now.
      let is = ap (λ (s : Shown). s.disk) (sym c.next_payload.ensures.same) ∙ now in
      let r = c.requires.read file is in
      let on : ReadsOn c.next_payload.new.self file r.payloads None = subst
      (λ (o : Option (List ℕ)). ReadsOn c.next_payload.new.self file r.payloads o) c.in-Ok-None.field-0-is
      (c.in-Ok-None.ensures.read file is r.payloads r.read) in
      record { payloads = r.payloads; messages = r.messages; gates = on.1; ends = on.2; holds = r.holds },
)

pub returns-in-Err-clause-damaged : goal.returns-in-Err-clause-damaged
returns-in-Err-clause-damaged g c = λ at e file is.
    let is_damaged = ap (λ (f : _). Err f) (c.start_fault.ensures.damaged at (same_err c.start_fault.result (fault.Damaged at) e)) in
    let d = c.in-Err.ensures.damaged at is_damaged in
    subst (λ (gate : ℕ). IsSpoiltAt c.args.limits.now file gate) (sym d.0) (spoilt_gate c.args.limits.now file c.args.journal.now
    c.args.core.now.state (c.requires.read file is) (d.1 file is) (c.in-Err.ensures.stands_for_none at is_damaged file is))

pub take_record-requires-clause-room : goal.take_record-requires-clause-room
take_record-requires-clause-room g c = omega (arith, c.requires.under_way.few, c.requires.under_way.gate)

pub returns-in-Ok-clause-read : goal.returns-in-Ok-clause-read
returns-in-Ok-clause-read g c = λ file now.
    let is = ap (λ (s : Shown). s.disk) (sym c.next_payload.ensures.same) ∙ now in
    let r = c.requires.read file is in
    let text = c.in-Ok-Some.text in
    let taken = c.in-Ok.ensures.taken in
    record {
      payloads = r.payloads ++ text ∷ [];
      messages = r.messages ++ taken.0 ∷ [];
      read = subst (λ (o : Option (List ℕ)). ReadsOn c.next_payload.new.self file r.payloads o) c.in-Ok-Some.field-0-is
          (c.in-Ok-Some.ensures.read file is r.payloads r.read);
      holds
          = holds-push c.args.limits.now opening c.args.core.now.state c.take_record.new.core.state r.payloads r.messages text taken.0
          r.holds
          (subst (λ (p : List ℕ). IsNextRecord c.args.limits.now c.args.core.now.state p taken.0 c.take_record.new.core.state)
          c.as_slice.ensures taken.1);
    }

pub returns-in-Err-Bad-clause-damaged : goal.returns-in-Err-Bad-clause-damaged
returns-in-Err-Bad-clause-damaged g c = λ at e file is.
    let text = c.in-Ok-Some.text in
    let moved : Moves c.args.journal.now c.next_payload.new.self (Some text) = subst
    (λ (o : Option (List ℕ)). Moves c.args.journal.now c.next_payload.new.self o) c.in-Ok-Some.field-0-is c.in-Ok-Some.ensures.moves
    in
    let record_there : HasRecordAt file c.args.journal.now.gate text
    = subst (λ (o : Option (List ℕ)). Hands file c.args.journal.now o) c.in-Ok-Some.field-0-is (c.in-Ok-Some.ensures.hands file is) in
    let gate : c.last_gate.result ≡ c.args.journal.now.gate = c.last_gate.ensures ∙ ap (λ (j : Begun). j.last_gate) moved.0 in
    let here : c.args.journal.now.gate ≡ at
    = sym gate ∙ same_place c.last_gate.result at (same_err (fault.Damaged c.last_gate.result) (fault.Damaged at) e) in
    let bad = subst (λ (p : List ℕ). IsBad c.args.limits.now c.args.core.now.state p) c.as_slice.ensures
    (c.in-Err-Bad.ensures.bad (ap (λ (f : RecordFault). Err f) c.in-Err-Bad.field-0-is)) in
    subst (λ (g : ℕ). IsSpoiltAt c.args.limits.now file g) here
    (spoilt_record c.args.limits.now file c.args.journal.now c.args.core.now.state (c.requires.read file is) text record_there bad)
