use Rattle.std.proofs.Common.{◌≡◌, ◌∙◌, ◌++◌, ◌+◌, ◌&&◌, ℕ, Bool, List, ap, sym, subst, rules}
use Rattle.std.specs.Prelude.{string_bytes}
use Rattle.ring_judge.specs.Verdicts.{is_fine}
use Rattle.ring_judge.proofs.SoFar.{IsJudgedUpTo, none_judged, one_judged}
use Rattle.ring_judge.proofs.rings.judge_rings.Goals as goal

pub loop-line-init : goal.loop-line-init
loop-line-init c = none_judged c.args.limits.now c.args.input.now (string_bytes c.new-replies.result) c.new-replies.ensures.bytes

pub loop-line-preserved : goal.loop-line-preserved
loop-line-preserved c =
    let limits = c.args.limits.now in
    let input = c.args.input.now in
    let told = string_bytes c.in_ok-told.told in
    let step = one_judged limits input (string_bytes c.loop-line.replies) told c.loop-line.all_fine c.loop-line.number c.loop-line.rest.now
    c.in-Some.line.now
    c.in-Some.behind.now c.in_ok-verdict.verdict c.loop-line.invariant c.in-Some.ensures.cut c.in-Some.ensures.shorter
    c.in_ok-verdict.ensures c.in_ok-told.ensures in
    let replies : string_bytes c.push_str.new.self ≡ string_bytes c.loop-line.replies ++ told
    = c.in_ok-push_str.ensures.bytes ∙ ap (λ (l : List ℕ). string_bytes c.loop-line.replies ++ l) (search rules) in
    subst (λ (fine : Bool). IsJudgedUpTo limits input (string_bytes c.push_str.new.self) fine (c.loop-line.number + 1) c.in-Some.behind.now)
    (sym c.with_verdict-all_fine.ensures)
    (subst (λ (l : List ℕ). IsJudgedUpTo limits input l (c.loop-line.all_fine && is_fine c.in_ok-verdict.verdict) (c.loop-line.number + 1)
    c.in-Some.behind.now) (sym replies) step)
