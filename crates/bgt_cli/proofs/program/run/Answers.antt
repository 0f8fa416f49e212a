use Rattle.std.proofs.Common.{ℕ, subst}
use Rattle.bgt_cli.specs.declared.query.Query.{Query}
use Rattle.bgt_cli.specs.Query.{IsAnswer, MeetsQuery}
use Rattle.bgt_cli.specs.Trial.{EndsTrial}
use Rattle.bgt_cli.proofs.Answering.{whole_query}
use Rattle.bgt_cli.proofs.Asking.{one_query}
use Rattle.bgt_cli.proofs.Closing.{whole_tried}
use Rattle.bgt_cli.proofs.Complete.{good_check, whole_check, whole_load, with_all, with_room}
use Rattle.bgt_cli.proofs.RingsTold.{whole_rings}
use Rattle.bgt_cli.proofs.Trials.{one_size, trial_taken}
use Rattle.bgt_cli.proofs.Words.{is_explain, is_load, size_asked}
use Rattle.bgt_cli.proofs.program.run.Goals as goal

pub returns-in-load-clause-unlisted : goal.returns-in-load-clause-unlisted
returns-in-load-clause-unlisted g c
    = λ not_check not_load. absurd (not_load (is_load c.args.words.now _ c.in-load.len_at_least c.in-load.len_below c.in-load.is-load))

pub returns-in-load-clause-no_file : goal.returns-in-load-clause-no_file
returns-in-load-clause-no_file g c
    = λ not_load. absurd (not_load (is_load c.args.words.now _ c.in-load.len_at_least c.in-load.len_below c.in-load.is-load))

pub returns-in-load-clause-taken : goal.returns-in-load-clause-taken
returns-in-load-clause-taken g c
    = λ not_load. absurd (not_load (is_load c.args.words.now _ c.in-load.len_at_least c.in-load.len_below c.in-load.is-load))

pub returns-in-check-clause-whole : goal.returns-in-check-clause-whole
returns-in-check-clause-whole g c = λ is none input e short.
    whole_check c.args.limits.now input c.check.result (g.O.Outside.shown c.args.outside.now) (g.O.Outside.shown c.check.new.outside)
    (g.O.Outside.faults c.args.outside.now) (g.O.Outside.faults c.check.new.outside) short none (c.check.ensures.check input e)
    c.check.ensures.read_fault c.check.ensures.write_fault

pub returns-in-check-clause-good_check : goal.returns-in-check-clause-good_check
returns-in-check-clause-good_check g c = λ is none input e short all.
    let checked = c.check.ensures.check input e in
    let before = g.O.Outside.shown c.args.outside.now in
    let after = g.O.Outside.shown c.check.new.outside in
    let whole
    = whole_check c.args.limits.now input c.check.result before after (g.O.Outside.faults c.args.outside.now)
    (g.O.Outside.faults c.check.new.outside) short none checked
    c.check.ensures.read_fault c.check.ensures.write_fault in
    good_check c.no_refusal.ensures.check c.args.limits.now input c.check.result before after checked all whole

pub returns-in-load-clause-whole_load : goal.returns-in-load-clause-whole_load
returns-in-load-clause-whole_load g c = λ is none input before i t short first state b.
    whole_load g.O.Outside.shown g.O.Outside.clock g.O.Outside.left c.args.limits.now first state input c.load.result c.args.outside.now
    c.load.new.outside (g.O.Outside.faults c.args.outside.now) (g.O.Outside.faults c.load.new.outside) short none
    (c.load.ensures.load input before i t first state b)
    c.load.ensures.read_fault c.load.ensures.write_fault c.load.ensures.disk_fault

pub returns-in-load-clause-room_load : goal.returns-in-load-clause-room_load
returns-in-load-clause-room_load g c = λ is none input before i t short first state b room.
    let loaded = c.load.ensures.load input before i t first state b in
    let whole
    = whole_load g.O.Outside.shown g.O.Outside.clock g.O.Outside.left c.args.limits.now first state input c.load.result
    c.args.outside.now c.load.new.outside (g.O.Outside.faults c.args.outside.now) (g.O.Outside.faults c.load.new.outside) short none
    loaded
    c.load.ensures.read_fault c.load.ensures.write_fault c.load.ensures.disk_fault in
    with_room g.O.Outside.shown g.O.Outside.clock g.O.Outside.left c.args.limits.now first state input c.load.result c.args.outside.now
    c.load.new.outside loaded c.never_full.ensures room whole

pub returns-in-load-clause-good_load : goal.returns-in-load-clause-good_load
returns-in-load-clause-good_load g c = λ is none input before i t short first state b room all.
    let loaded = c.load.ensures.load input before i t first state b in
    let whole
    = whole_load g.O.Outside.shown g.O.Outside.clock g.O.Outside.left c.args.limits.now first state input c.load.result
    c.args.outside.now c.load.new.outside (g.O.Outside.faults c.args.outside.now) (g.O.Outside.faults c.load.new.outside) short none
    loaded
    c.load.ensures.read_fault c.load.ensures.write_fault c.load.ensures.disk_fault in
    with_all g.O.Outside.shown g.O.Outside.clock g.O.Outside.left c.args.limits.now first state input c.load.result c.args.outside.now
    c.load.new.outside loaded c.no_refusal.ensures.load all
    (with_room g.O.Outside.shown g.O.Outside.clock g.O.Outside.left c.args.limits.now first state input c.load.result c.args.outside.now
    c.load.new.outside loaded c.never_full.ensures room whole)

pub returns-in-Some-read-clause-query : goal.returns-in-Some-read-clause-query
returns-in-Some-read-clause-query g c = λ query asks.
    let old = g.O.Outside.shown c.args.outside.now in
    let new = g.O.Outside.shown c.answer_query.new.outside in
    subst (λ (q : Query). MeetsQuery c.args.limits.now q c.answer_query.result old new)
    (one_query c.args.words.now c.in-Some-read.query query c.in-Some-read.ensures asks) c.answer_query.ensures.told

pub returns-in-Some-read-clause-whole_query : goal.returns-in-Some-read-clause-whole_query
returns-in-Some-read-clause-whole_query g c = λ is none file reads messages state stands.
    whole_query (IsAnswer c.in-Some-read.query state) c.answer_query.result (g.O.Outside.shown c.args.outside.now)
    (g.O.Outside.shown c.answer_query.new.outside)
    (g.O.Outside.faults c.args.outside.now) (g.O.Outside.faults c.answer_query.new.outside) none
    (c.answer_query.ensures.told file reads messages state stands)
    c.answer_query.ensures.write_fault c.answer_query.ensures.disk_fault

pub returns-in-Some-clause-trial : goal.returns-in-Some-clause-trial
returns-in-Some-clause-trial g c = λ n asks.
    let old = g.O.Outside.shown c.args.outside.now in
    let new = g.O.Outside.shown c.trial.new.outside in
    let size = size_asked c.args.words.now _ c.in-trial.len_at_least c.in-trial.len_below c.in-trial.is-trial n asks in
    subst (λ (m : ℕ). EndsTrial c.args.limits.now m c.trial.result old new) (one_size _ c.in-Some.size n c.in-Some.ensures size)
    c.trial.ensures.ends

pub returns-in-Some-clause-taken : goal.returns-in-Some-clause-taken
returns-in-Some-clause-taken g c = λ not_load not_query.
    trial_taken c.args.limits.now c.in-Some.size c.args.limits.now.input_bytes c.trial.result (g.O.Outside.shown c.args.outside.now)
    (g.O.Outside.shown c.trial.new.outside)
    c.trial.ensures.ends

pub returns-in-check-clause-tiled : goal.returns-in-check-clause-tiled
returns-in-check-clause-tiled g c = λ is input e.
    let k = c.check.ensures.check input e in
    c.stays_tiled.ensures.check c.args.limits.now input k.told k.n c.check.result (g.O.Outside.shown c.args.outside.now)
    (g.O.Outside.shown c.check.new.outside)
    k.within k.goes k.ends

pub returns-in-load-clause-tiled_load : goal.returns-in-load-clause-tiled_load
returns-in-load-clause-tiled_load g c = λ is input before i t first state b.
    let k = c.load.ensures.load input before i t first state b in
    c.stays_tiled.ensures.load c.args.limits.now b.file first k.kept state input k.told k.n k.gate c.load.result
    (g.O.Outside.shown c.args.outside.now)
    (g.O.Outside.shown c.load.new.outside) b.stands k.within k.goes k.ends

pub returns-in-rings-clause-whole_rings : goal.returns-in-rings-clause-whole_rings
returns-in-rings-clause-whole_rings g c = λ is none input e short.
    whole_rings c.args.limits.now input c.rings.result (g.O.Outside.shown c.args.outside.now) (g.O.Outside.shown c.rings.new.outside)
    (g.O.Outside.faults c.args.outside.now) (g.O.Outside.faults c.rings.new.outside) short none (c.rings.ensures.rings input e)
    c.rings.ensures.read_fault c.rings.ensures.write_fault

pub returns-in-explain-clause-unlisted : goal.returns-in-explain-clause-unlisted
returns-in-explain-clause-unlisted g c = λ not_check not_load not_explain.
    absurd (not_explain (is_explain c.args.words.now _ c.in-explain.len_at_least c.in-explain.len_below c.in-explain.is-explain))

pub returns-in-explain-clause-no_file : goal.returns-in-explain-clause-no_file
returns-in-explain-clause-no_file g c = λ not_load not_explain.
    absurd (not_explain (is_explain c.args.words.now _ c.in-explain.len_at_least c.in-explain.len_below c.in-explain.is-explain))

pub returns-in-explain-clause-whole_explain : goal.returns-in-explain-clause-whole_explain
returns-in-explain-clause-whole_explain g c = λ is none input file i d short messages state stands.
    whole_tried c.args.limits.now state input c.explain.result (g.O.Outside.shown c.args.outside.now)
    (g.O.Outside.shown c.explain.new.outside) (g.O.Outside.faults c.args.outside.now) (g.O.Outside.faults c.explain.new.outside)
    short none (c.explain.ensures.tried input file i d messages state stands) c.explain.ensures.read_fault c.explain.ensures.write_fault
    c.explain.ensures.disk_fault
