use Rattle.std.proofs.Common.{◌≡◌, ◌∙◌, ◌+◌, ◌∷◌, ◌++◌, [], ap, arith, map, ℕ, List}
use Rattle.message_text.specs.declared.message.Message.{Message}
use Rattle.map_maker.specs.Made.{below, first_message, next_message, last_message}
use Rattle.map_maker.proofs.Steps.{no_items, next_item, one_is}
use Rattle.map_maker.proofs.messages.all_messages.Goals as goal

pub loop-k-init : goal.loop-k-init
loop-k-init c =
    one_is c.in_ok-messages.messages c.push.new.self c.in_ok-push.ensures.ok c.in_ok-first_message.ensures
    ∙ (ap (λ (l : List Message). l ++ first_message c.args.n ∷ []) c.in_ok-messages.ensures
    ∙ no_items (λ k. next_message c.args.n (k + 1)) (first_message c.args.n ∷ []))

pub loop-k-preserved : goal.loop-k-preserved
loop-k-preserved c =
    next_item (λ k. next_message c.args.n (k + 1)) c.loop-k.k (first_message c.args.n ∷ []) c.loop-k.messages c.push-in-loop-k.new.self
    c.loop-k.invariant
    (one_is c.loop-k.messages c.push-in-loop-k.new.self c.in_ok-push-2.ensures.ok c.in_ok-next_message.ensures)

pub returns : goal.returns
returns c =
    let all : c.loop-k.k ≡ c.args.n = omega arith in
    one_is c.loop-k.messages c.push-2.new.self c.in_ok-push-3.ensures.ok c.in_ok-last_message.ensures
    ∙ ap (λ (l : List Message). l ++ last_message c.args.n ∷ [])
    (c.loop-k.invariant ∙ ap (λ (n : ℕ). first_message c.args.n ∷ map (λ k. next_message c.args.n (k + 1)) (below n)) all)
