use Rattle.std.proofs.Common.{◌∷◌, ◌++◌, ◌∙◌, List, [], ap, subst, sym, take, ℕ}
use Rattle.std.proofs.lemmas.List.{take_all, take_more}
use Rattle.local_check.specs.Borders.{Names}
use Rattle.local_check.specs.Numbered.{number_in}
use Rattle.local_check.specs.Placed.{present}
use Rattle.local_check.proofs.Found.{Leavers, leavers_count, more_leavers}
use Rattle.local_check.proofs.borders.push_leaving.Goals as goal

pub push_leaver-requires-clause-there : goal.push_leaver-requires-clause-there
push_leaver-requires-clause-there c = subst (Names (present c.args.parts.now.slots.items)) (sym c.ident-item.is)
    (c.requires.there c.loop-ident.ident-index c.ident-item.result c.loop-ident-test.true)

pub loop-ident-preserved : goal.loop-ident-preserved
loop-ident-preserved c =
    let number = number_in c.args.parts.now.numbers in
    let parts = present c.args.parts.now.slots.items in
    let i = c.loop-ident.ident-index in
    let more = take_more c.args.leaving.now i c.ident-item.result c.loop-ident-test.true
    ∙ ap (λ (y : List ℕ). take i c.args.leaving.now ++ y ∷ []) (sym c.ident-item.is) in
    subst (λ (is : List (List ℕ)). Leavers number parts is c.args.borders.now c.push_leaver.new.borders) (sym more)
    (more_leavers number parts (take i c.args.leaving.now) c.ident-item.result c.args.borders.now c.loop-ident.borders c.push_leaver.new.borders
    c.loop-ident.invariant c.in_ok-push_leaver.ensures)

pub returns : goal.returns
returns c =
    let number = number_in c.args.parts.now.numbers in
    let parts = present c.args.parts.now.slots.items in
    leavers_count number parts c.args.leaving.now c.args.borders.now c.loop-ident.borders
    (subst (λ (is : List (List ℕ)). Leavers number parts is c.args.borders.now c.loop-ident.borders)
    (take_all c.loop-ident.ident-index c.args.leaving.now c.loop-ident-test.false) c.loop-ident.invariant)
    c.requires.different c.requires.parts
