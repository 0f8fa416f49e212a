use Rattle.std.proofs.Common.{◌++◌, ◌∷◌, ◌∙◌, [], List, take, sym, ap, subst, arith}
use Rattle.std.proofs.lemmas.List.{take_more}
use Rattle.message_text.specs.declared.limits.Limits.{Limits}
use Rattle.message_text.specs.declared.message.Message.{Message}
use Rattle.map_rules.specs.Counted.{IsCounted}
use Rattle.map_rules.specs.State.{State}
use Rattle.map_rules.specs.Steps.{Step}
use Rattle.map_core.specs.Tried.{CoreView, at_rest}
use Rattle.bgt_cli.specs.Trial.{IsLeftBy}
use Rattle.bgt_cli.proofs.Trials.{few_more, left_more, left_none}
use Rattle.bgt_cli.proofs.trial.answer_messages.Goals as goal

pub loop-message-init : goal.loop-message-init
loop-message-init c =
    let limits = c.args.core.now.limits in
    let empty = ap (λ (v : CoreView). v.state) c.requires.empty in
    record {
      rest = c.requires.empty ∙ ap (λ (s : State). at_rest limits s) (sym empty);
      left = left_none limits c.args.core.now.state empty;
      few = omega (arith, ap (λ (s : State). s.accepted) empty);
    }

pub answer_message-requires-clause-rest : goal.answer_message-requires-clause-rest
answer_message-requires-clause-rest c =
    let rest = c.loop-message.invariant.rest in
    rest ∙ ap (λ (limits : Limits). at_rest limits c.loop-message.core.state) (sym (ap (λ (v : CoreView). v.limits) rest))

pub answer_message-requires-clause-counted : goal.answer_message-requires-clause-counted
answer_message-requires-clause-counted c =
    subst IsCounted (sym c.message-item.is) (c.requires.counted c.loop-message.message-index c.message-item.result c.loop-message-test.true)

pub loop-message-preserved : goal.loop-message-preserved
loop-message-preserved c =
    let so_far = c.loop-message.invariant in
    let limits = c.args.core.now.limits in
    let messages = c.args.messages.now in
    let index = c.loop-message.message-index in
    let m = c.message-item.result in
    let old = c.loop-message.core in
    let new = c.answer_message.new.core in
    let same = ap (λ (v : CoreView). v.limits) so_far.rest in
    let step = subst (λ (l : Limits). Step l old.state m c.in-Ok.field-0 new.state) same c.in-Ok.ensures.step in
    let more = take_more messages index m c.loop-message-test.true ∙ ap (λ (x : Message). take index messages ++ x ∷ [])
    (sym c.message-item.is) in
    record {
      rest = c.in-Ok.ensures.rest ∙ ap (λ (l : Limits). at_rest l new.state) same;
      left = subst (λ (ms : List Message). IsLeftBy limits ms new.state) (sym more)
          (left_more limits (take index messages) m old.state new.state c.in-Ok.field-0 so_far.left step);
      few = omega (arith, few_more limits m old.state new.state c.in-Ok.field-0 step);
    }
