use Rattle.std.proofs.Common.{◌-◌, ◌∙◌, ℕ, List, length, sym, ap, subst, arith}
use Rattle.std.specs.Prelude.{string_bytes}
use Rattle.std.specs.List.{All}
use Rattle.message_text.specs.declared.limits.Limits.{Limits}
use Rattle.message_text.specs.declared.message.Message.{Message}
use Rattle.map_rules.specs.Counted.{IsCounted}
use Rattle.map_core.specs.Tried.{CoreView}
use Rattle.version_history.specs.declared.version.Version.{Version}
use Rattle.bgt_cli.specs.Trial.{IsLeftBy}
use Rattle.bgt_cli.proofs.Counting.{made_counted}
use Rattle.bgt_cli.proofs.Trials.{taken_few, tells_trial}
use Rattle.bgt_cli.proofs.trial.trial_text.Goals as goal

pub answer_messages-requires-clause-counted : goal.answer_messages-requires-clause-counted
answer_messages-requires-clause-counted c =
    subst (λ (ms : List Message). All IsCounted ms) (sym (c.as_slice.ensures ∙ c.in-Ok.ensures.made.1))
    (made_counted c.args.size c.requires.size)

pub overflow_sub-refused : goal.overflow_sub-refused
overflow_sub-refused c =
    let few
    = taken_few c.new-core.result.limits c.as_slice.result.now c.answer_messages.new.core.state c.in-Ok-answer_messages.ensures.steps in
    omega (arith, few, c.accepted-accepted.ensures, c.len.ensures, ap length c.as_slice.ensures)

pub returns : goal.returns
returns c =
    let messages = c.as_slice.result.now in
    let state = c.answer_messages.new.core.state in
    let accepted = c.accepted-accepted.result in
    let left = subst (λ (l : Limits). IsLeftBy l messages state) (ap (λ (v : CoreView). v.limits) c.new-core.ensures.value)
    c.in-Ok-answer_messages.ensures.steps in
    tells_trial c.args.limits.now c.args.size accepted (c.len.result - accepted) c.objects-objects.result c.count-versions.result
    (string_bytes c.in-Ok-format.text) messages state (c.as_slice.ensures ∙ c.in-Ok.ensures.made.1) left c.in-Ok-format.ensures.ok
    c.accepted-accepted.ensures
    (ap (λ (k : ℕ). k - accepted) (c.len.ensures ∙ sym (ap length c.as_slice.ensures))) c.objects-objects.ensures
    (c.count-versions.ensures ∙ ap (λ (vs : List Version). length vs) c.history.ensures.versions)
