use Rattle.std.proofs.Common.{◌≡◌, ◌∙◌, ap, arith, length, refl, subst, sym}
use Rattle.bgt_cli.specs.declared.status.Status.{Status}
use Rattle.bgt_cli.specs.Explain.{IsTried}
use Rattle.bgt_cli.specs.Session.{tail_text}
use Rattle.bgt_cli.specs.Status.{status_at_end}
use Rattle.bgt_cli.proofs.Closing.{at_end, no_bad, no_full, no_usage, none_told, nothing_goes, tail_cut, tail_taken, taken, tried}
use Rattle.bgt_cli.proofs.Quiet.{none_yet, quiet_on, while_telling}
use Rattle.bgt_cli.proofs.Telling.{ends_memory, not_begun}
use Rattle.bgt_cli.proofs.explain.explain_input.Goals as goal

pub explain_pieces-requires-clause-ready : goal.explain_pieces-requires-clause-ready
explain_pieces-requires-clause-ready g c = record {
  untried = c.requires.untried;
  core_limits = c.requires.limits;
  feed_limit = c.new-session.ensures.limit;
  accepted = omega (arith, c.requires.room);
  few = omega (arith, c.new-session.ensures.answered, ap length c.new-session.ensures.left);
}

pub explain_pieces-requires-clause-empty : goal.explain_pieces-requires-clause-empty
explain_pieces-requires-clause-empty g c = omega (arith, c.new-session.ensures.answered, ap length c.new-session.ensures.left)

-- no memory for the buffer
pub returns-in_default-clause-tried : goal.returns-in_default-clause-tried
returns-in_default-clause-tried g c
    = λ input e. none_told c.args.limits.now c.args.core.now.state input (g.O.Outside.shown c.args.outside.now)

pub returns-in_default-clause-taken : goal.returns-in_default-clause-taken
returns-in_default-clause-taken g c
    = nothing_goes c.args.limits.now.input_bytes (g.O.Outside.shown c.args.outside.now) (g.O.Outside.shown c.args.outside.now) refl

pub returns-in_default-clause-nothing_new : goal.returns-in_default-clause-nothing_new
returns-in_default-clause-nothing_new g c =
    none_yet g.O.Outside.leaves g.O.Outside.clock g.O.Outside.left (g.O.Outside.shown c.args.outside.now).told c.args.outside.now
    (g.met.O.Outside.only_now c.args.outside.now)

-- the run stopped
pub returns-in-Err-clause-tried : goal.returns-in-Err-clause-tried
returns-in-Err-clause-tried g c =
    let start = c.args.core.now.state in
    let first = g.O.Outside.shown c.args.outside.now in
    let u
    = not_begun c.args.limits.now c.new-session.result start first c.new-session.ensures.left c.new-session.ensures.answered
    (c.new-session.ensures.progress start).all in
    tried c.args.limits.now start first (g.O.Outside.shown c.explain_pieces.new.outside) c.in-Err.status
    (c.in-Err.ensures.ended start first u)

pub returns-in-Err-clause-taken : goal.returns-in-Err-clause-taken
returns-in-Err-clause-taken g c =
    let start = c.args.core.now.state in
    let first = g.O.Outside.shown c.args.outside.now in
    let u
    = not_begun c.args.limits.now c.new-session.result start first c.new-session.ensures.left c.new-session.ensures.answered
    (c.new-session.ensures.progress start).all in
    taken c.args.limits.now start first (g.O.Outside.shown c.explain_pieces.new.outside) c.in-Err.status
    (c.in-Err.ensures.ended start first u)

pub returns-in-Err-clause-listed : goal.returns-in-Err-clause-listed
returns-in-Err-clause-listed g c =
    let start = c.args.core.now.state in
    let first = g.O.Outside.shown c.args.outside.now in
    let u
    = not_begun c.args.limits.now c.new-session.result start first c.new-session.ensures.left c.new-session.ensures.answered
    (c.new-session.ensures.progress start).all in
    no_usage c.args.limits.now start first (g.O.Outside.shown c.explain_pieces.new.outside) c.in-Err.status
    (c.in-Err.ensures.ended start first u)

pub returns-in-Err-clause-no_bad_journal : goal.returns-in-Err-clause-no_bad_journal
returns-in-Err-clause-no_bad_journal g c =
    let start = c.args.core.now.state in
    let first = g.O.Outside.shown c.args.outside.now in
    let u
    = not_begun c.args.limits.now c.new-session.result start first c.new-session.ensures.left c.new-session.ensures.answered
    (c.new-session.ensures.progress start).all in
    no_bad c.args.limits.now start first (g.O.Outside.shown c.explain_pieces.new.outside) c.in-Err.status
    (c.in-Err.ensures.ended start first u)

pub returns-in-Err-clause-no_full : goal.returns-in-Err-clause-no_full
returns-in-Err-clause-no_full g c =
    let start = c.args.core.now.state in
    let first = g.O.Outside.shown c.args.outside.now in
    let u
    = not_begun c.args.limits.now c.new-session.result start first c.new-session.ensures.left c.new-session.ensures.answered
    (c.new-session.ensures.progress start).all in
    no_full c.args.limits.now start first (g.O.Outside.shown c.explain_pieces.new.outside) c.in-Err.status
    (c.in-Err.ensures.ended start first u)

-- no memory for the line of the tail
pub returns-in_default-tail_line-clause-tried : goal.returns-in_default-tail_line-clause-tried
returns-in_default-tail_line-clause-tried g c =
    let start = c.args.core.now.state in
    let first = g.O.Outside.shown c.args.outside.now in
    let u
    = not_begun c.args.limits.now c.new-session.result start first c.new-session.ensures.left c.new-session.ensures.answered
    (c.new-session.ensures.progress start).all in
    let a = c.in_default-explain_pieces.ensures.whole start first u in
    let mid = g.O.Outside.shown c.explain_pieces.new.outside in
    tried c.args.limits.now start first mid _
    (ends_memory c.args.limits.now start first a.may c.explain_pieces.new.session c.explain_pieces.new.core.state mid a.under_way)

pub returns-in_default-tail_line-clause-taken : goal.returns-in_default-tail_line-clause-taken
returns-in_default-tail_line-clause-taken g c =
    let start = c.args.core.now.state in
    let first = g.O.Outside.shown c.args.outside.now in
    let u
    = not_begun c.args.limits.now c.new-session.result start first c.new-session.ensures.left c.new-session.ensures.answered
    (c.new-session.ensures.progress start).all in
    let a = c.in_default-explain_pieces.ensures.whole start first u in
    let mid = g.O.Outside.shown c.explain_pieces.new.outside in
    taken c.args.limits.now start first mid _
    (ends_memory c.args.limits.now start first a.may c.explain_pieces.new.session c.explain_pieces.new.core.state mid a.under_way)

-- a front of it was told
pub returns-in_default-tell-clause-tried : goal.returns-in_default-tell-clause-tried
returns-in_default-tell-clause-tried g c =
    let start = c.args.core.now.state in
    let first = g.O.Outside.shown c.args.outside.now in
    let u
    = not_begun c.args.limits.now c.new-session.result start first c.new-session.ensures.left c.new-session.ensures.answered
    (c.new-session.ensures.progress start).all in
    let line = c.as_bytes.ensures.value ∙ (c.in-Ok-tail_line.ensures ∙ ap tail_text c.rest-rest.ensures) in
    tail_cut c.args.limits.now start first c.explain_pieces.new.session c.explain_pieces.new.core.state
    (g.O.Outside.shown c.explain_pieces.new.outside) (c.in_default-explain_pieces.ensures.whole start first u)
    (g.O.Outside.shown c.tell.new.outside) c.as_bytes.result.now line c.in_default-tell.ensures.err

pub returns-in_default-tell-clause-taken : goal.returns-in_default-tell-clause-taken
returns-in_default-tell-clause-taken g c =
    let start = c.args.core.now.state in
    let first = g.O.Outside.shown c.args.outside.now in
    let u
    = not_begun c.args.limits.now c.new-session.result start first c.new-session.ensures.left c.new-session.ensures.answered
    (c.new-session.ensures.progress start).all in
    let t = c.in_default-tell.ensures.err in
    tail_taken c.args.limits.now start first c.explain_pieces.new.session c.explain_pieces.new.core.state
    (g.O.Outside.shown c.explain_pieces.new.outside) (c.in_default-explain_pieces.ensures.whole start first u)
    (g.O.Outside.shown c.tell.new.outside) t.0 t.3

pub returns-in_default-tell-clause-nothing_new : goal.returns-in_default-tell-clause-nothing_new
returns-in_default-tell-clause-nothing_new g c =
    quiet_on g.O.Outside.leaves g.O.Outside.clock g.O.Outside.left c.args.outside.now c.explain_pieces.new.outside c.tell.new.outside
    c.explain_pieces.ensures.nothing_new
    (while_telling g.O.Outside.leaves g.O.Outside.clock g.O.Outside.left (g.O.Outside.shown c.explain_pieces.new.outside).told
    c.as_bytes.result.now _ c.explain_pieces.new.outside c.tell.new.outside c.tell.ensures.images c.tell.ensures.moments)

-- all of it was told
pub returns-clause-tried : goal.returns-clause-tried
returns-clause-tried g c =
    let start = c.args.core.now.state in
    let first = g.O.Outside.shown c.args.outside.now in
    let u
    = not_begun c.args.limits.now c.new-session.result start first c.new-session.ensures.left c.new-session.ensures.answered
    (c.new-session.ensures.progress start).all in
    let s = c.explain_pieces.new.session in
    let line = c.as_bytes.ensures.value ∙ (c.in-Ok-tail_line.ensures ∙ ap tail_text c.rest-rest.ensures) in
    let status : c.final_status.result ≡ status_at_end s.all_taken (length s.feed.left)
    = c.final_status.ensures ∙ ap (status_at_end s.all_taken) c.rest-rest.ensures in
    λ input e.
    subst (λ (x : Status). IsTried c.args.limits.now start input x first (g.O.Outside.shown c.tell.new.outside)) (sym status)
    (at_end c.args.limits.now start first s c.explain_pieces.new.core.state (g.O.Outside.shown c.explain_pieces.new.outside)
    (c.in_default-explain_pieces.ensures.whole start first u)
    (g.O.Outside.shown c.tell.new.outside) c.as_bytes.result.now line c.in-Ok-tell.ensures.ok input e)

pub returns-clause-taken : goal.returns-clause-taken
returns-clause-taken g c =
    let start = c.args.core.now.state in
    let first = g.O.Outside.shown c.args.outside.now in
    let u
    = not_begun c.args.limits.now c.new-session.result start first c.new-session.ensures.left c.new-session.ensures.answered
    (c.new-session.ensures.progress start).all in
    tail_taken c.args.limits.now start first c.explain_pieces.new.session c.explain_pieces.new.core.state
    (g.O.Outside.shown c.explain_pieces.new.outside) (c.in_default-explain_pieces.ensures.whole start first u)
    (g.O.Outside.shown c.tell.new.outside) c.as_bytes.result.now c.in-Ok-tell.ensures.ok

pub returns-clause-nothing_new : goal.returns-clause-nothing_new
returns-clause-nothing_new g c =
    quiet_on g.O.Outside.leaves g.O.Outside.clock g.O.Outside.left c.args.outside.now c.explain_pieces.new.outside c.tell.new.outside
    c.explain_pieces.ensures.nothing_new
    (while_telling g.O.Outside.leaves g.O.Outside.clock g.O.Outside.left (g.O.Outside.shown c.explain_pieces.new.outside).told
    c.as_bytes.result.now _ c.explain_pieces.new.outside c.tell.new.outside c.tell.ensures.images c.tell.ensures.moments)
