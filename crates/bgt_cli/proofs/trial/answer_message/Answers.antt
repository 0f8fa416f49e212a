use Rattle.std.proofs.Common.{refl, sym, ap, ◌∙◌, Err}
use Rattle.map_core.specs.Tried.{CoreView, at_rest}
use Rattle.bgt_cli.proofs.trial.answer_message.Goals as goal

pub try_uncounted-requires-clause-untried : goal.try_uncounted-requires-clause-untried
try_uncounted-requires-clause-untried c = ap (λ (v : CoreView). v.tried) c.requires.rest

pub commit-requires : goal.commit-requires
commit-requires c = rw c.in-Ok.ensures.tried refl

pub returns-in-Ok-clause-step : goal.returns-in-Ok-clause-step
returns-in-Ok-clause-step c = (
  c.in-Ok.ensures.taken,
  ap (λ (v : CoreView). v.state) (rw c.in-Ok.ensures.tried at c.commit.ensures.value),
)

pub returns-in-Ok-clause-rest : goal.returns-in-Ok-clause-rest
returns-in-Ok-clause-rest c =
    let now = rw c.in-Ok.ensures.tried at c.commit.ensures.value in
    now ∙ ap (at_rest c.args.core.now.limits) (sym (ap (λ (v : CoreView). v.state) now))

pub returns-in-Err-Refused-clause-step : goal.returns-in-Err-Refused-clause-step
returns-in-Err-Refused-clause-step c = (
  c.in-Err-Refused.ensures.refused c.in-Err-Refused.refusal (ap Err c.in-Err-Refused.field-0-is),
  ap (λ (v : CoreView). v.state) c.in-Err-Refused.ensures.as_before,
)

pub returns-in-Err-Refused-clause-rest : goal.returns-in-Err-Refused-clause-rest
returns-in-Err-Refused-clause-rest c =
    let same = c.in-Err-Refused.ensures.as_before in
    same ∙ c.requires.rest ∙ ap (at_rest c.args.core.now.limits) (sym (ap (λ (v : CoreView). v.state) same))
