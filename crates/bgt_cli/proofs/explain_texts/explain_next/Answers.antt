use Rattle.std.proofs.Common.{◌∙◌, refl, subst, arith, List, ℕ, take}
use Rattle.bgt_cli.specs.Session.{IsFramed}
use Rattle.bgt_cli.specs.Stream.{Goes, TellsFront}
use Rattle.bgt_cli.proofs.Cutting.{handed, fewer}
use Rattle.bgt_cli.proofs.Quiet.{none_yet, while_telling}
use Rattle.bgt_cli.proofs.Telling.{answered, ends_cut, ends_memory, same_session}
use Rattle.bgt_cli.proofs.explain_texts.explain_next.Goals as goal

pub returns-in-Err-clause-ended : goal.returns-in-Err-clause-ended
returns-in-Err-clause-ended g c = λ start first may u.
    ends_memory c.args.limits.now start first may c.args.session.now c.args.core.now.state (g.O.Outside.shown c.args.outside.now) u

pub returns-in_default-clause-ended : goal.returns-in_default-clause-ended
returns-in_default-clause-ended g c = λ start first may u.
    ends_memory c.args.limits.now start first may c.args.session.now c.args.core.now.state (g.O.Outside.shown c.args.outside.now) u

pub returns-in-Ok-None-clause-under_way : goal.returns-in-Ok-None-clause-under_way
returns-in-Ok-None-clause-under_way g c = λ start first may u.
    let none = rw c.in-Ok-None.field-0-is at c.in-Ok-None.ensures.ok in
    same_session c.args.limits.now start first may c.args.session.now c.args.core.now.state (g.O.Outside.shown c.args.outside.now) u _
    none.1 refl refl

pub returns-in_default-tell-clause-ended : goal.returns-in_default-tell-clause-ended
returns-in_default-tell-clause-ended g c = λ start first may u.
    let h
    = handed c.args.session.now.feed c.next_text.new.self c.in-Ok-Some.framed (rw c.in-Ok-Some.field-0-is at c.in-Ok-Some.ensures.ok) in
    let text = take h.n c.args.session.now.feed.left in
    let framed = subst (λ (limit : ℕ). IsFramed limit c.in-Ok-Some.framed text) c.requires.ready.feed_limit h.is in
    ends_cut c.args.limits.now start first may c.args.session.now c.args.core.now.state (g.O.Outside.shown c.args.outside.now) u h.n
    c.in-Ok.reply.answer c.in-Ok.reply.told _
    (g.O.Outside.shown c.tell.new.outside) h.hands.first (c.in-Ok.ensures.reply text framed)
    (subst (λ (l : List ℕ). TellsFront l (g.O.Outside.shown c.args.outside.now) (g.O.Outside.shown c.tell.new.outside)) c.as_slice.ensures
    c.in_default-tell.ensures.err)

pub returns-clause-under_way : goal.returns-clause-under_way
returns-clause-under_way g c = λ start first may u.
    let h
    = handed c.args.session.now.feed c.next_text.new.self c.in-Ok-Some.framed (rw c.in-Ok-Some.field-0-is at c.in-Ok-Some.ensures.ok) in
    let text = take h.n c.args.session.now.feed.left in
    let framed = subst (λ (limit : ℕ). IsFramed limit c.in-Ok-Some.framed text) c.requires.ready.feed_limit h.is in
    answered c.args.limits.now start first may c.args.session.now c.args.core.now.state (g.O.Outside.shown c.args.outside.now) u h.n
    c.in-Ok.reply.answer c.in-Ok.reply.told _ _
    (g.O.Outside.shown c.tell.new.outside) h.hands (c.in-Ok.ensures.reply text framed)
    (subst (λ (l : List ℕ). Goes 0 l (g.O.Outside.shown c.args.outside.now) (g.O.Outside.shown c.tell.new.outside)) c.as_slice.ensures
    c.in-Ok-tell.ensures.ok)
    refl c.are_taken-session.ensures

pub returns-clause-ready : goal.returns-clause-ready
returns-clause-ready g c =
    let h
    = handed c.args.session.now.feed c.next_text.new.self c.in-Ok-Some.framed (rw c.in-Ok-Some.field-0-is at c.in-Ok-Some.ensures.ok) in
    let was = c.requires.ready in
    record {
      untried = c.in-Ok.ensures.untried;
      core_limits = c.in-Ok.ensures.limits ∙ was.core_limits;
      feed_limit = c.in-Ok-Some.ensures.limit ∙ was.feed_limit;
      accepted = omega (arith, c.in-Ok.ensures.count, was.accepted);
      few = omega (arith, fewer _ _ _ h, h.some, was.few);
    }

pub returns-clause-few : goal.returns-clause-few
returns-clause-few g c =
    let h
    = handed c.args.session.now.feed c.next_text.new.self c.in-Ok-Some.framed (rw c.in-Ok-Some.field-0-is at c.in-Ok-Some.ensures.ok) in
    omega (arith, fewer _ _ _ h, h.some)

pub returns-clause-fewer : goal.returns-clause-fewer
returns-clause-fewer g c =
    let h
    = handed c.args.session.now.feed c.next_text.new.self c.in-Ok-Some.framed (rw c.in-Ok-Some.field-0-is at c.in-Ok-Some.ensures.ok) in
    omega (arith, fewer _ _ _ h, h.some)

pub returns-in-Err-clause-nothing_new : goal.returns-in-Err-clause-nothing_new
returns-in-Err-clause-nothing_new g c =
    none_yet g.O.Outside.leaves g.O.Outside.clock g.O.Outside.left (g.O.Outside.shown c.args.outside.now).told c.args.outside.now
    (g.met.O.Outside.only_now c.args.outside.now)

pub returns-in-Ok-None-clause-nothing_new : goal.returns-in-Ok-None-clause-nothing_new
returns-in-Ok-None-clause-nothing_new g c =
    none_yet g.O.Outside.leaves g.O.Outside.clock g.O.Outside.left (g.O.Outside.shown c.args.outside.now).told c.args.outside.now
    (g.met.O.Outside.only_now c.args.outside.now)

pub returns-in_default-clause-nothing_new : goal.returns-in_default-clause-nothing_new
returns-in_default-clause-nothing_new g c =
    none_yet g.O.Outside.leaves g.O.Outside.clock g.O.Outside.left (g.O.Outside.shown c.args.outside.now).told c.args.outside.now
    (g.met.O.Outside.only_now c.args.outside.now)

pub returns-in_default-tell-clause-nothing_new : goal.returns-in_default-tell-clause-nothing_new
returns-in_default-tell-clause-nothing_new g c =
    while_telling g.O.Outside.leaves g.O.Outside.clock g.O.Outside.left (g.O.Outside.shown c.args.outside.now).told c.as_slice.result.now _
    c.args.outside.now c.tell.new.outside c.tell.ensures.images c.tell.ensures.moments

pub returns-clause-nothing_new : goal.returns-clause-nothing_new
returns-clause-nothing_new g c =
    while_telling g.O.Outside.leaves g.O.Outside.clock g.O.Outside.left (g.O.Outside.shown c.args.outside.now).told c.as_slice.result.now _
    c.args.outside.now c.tell.new.outside c.tell.ensures.images c.tell.ensures.moments
