use Rattle.std.proofs.Common.{◌∙◌, ◌-◌, map, sym, arith, below_more}
use Rattle.std.proofs.lemmas.List.{length-map}
use Rattle.code_tables.proofs.Rising.{rises_by_place, fails_by_place, read_text, same_text, carried}
use Rattle.code_tables.proofs.codes.are_rising.Goals as goal

pub returns-then-not-stands_before : goal.returns-then-not-stands_before
returns-then-not-stands_before g c =
    let at = read_text g.T.HasText.bytes c.args.texts.now (c.loop-place.place - 1) c.index-texts-place.result (omega arith)
    c.index-texts-place.is in
    let behind
    = read_text g.T.HasText.bytes c.args.texts.now c.loop-place.place c.index-texts-place-in-loop-place.result (omega arith)
    c.index-texts-place-in-loop-place.is in
    let step = carried _ _ _ _ _ _ c.stands_before.ensures c.if-not-stands_before.true c.text.ensures c.text-in-loop-place.ensures in
    sym (fails_by_place _ c.loop-place.place (omega arith) _ _ at behind step)

pub returns : goal.returns
returns g c = sym (rises_by_place (map g.T.HasText.bytes c.args.texts.now)
    (λ j within. c.loop-place.invariant j (omega (arith, simp length-map at within))))

pub loop-place-preserved : goal.loop-place-preserved
loop-place-preserved g c =
    below_more _ _ c.loop-place.invariant (λ above text next at behind.
    let first = read_text g.T.HasText.bytes c.args.texts.now (c.loop-place.place - 1) c.index-texts-place.result (omega arith)
    c.index-texts-place.is in
    let second
    = read_text g.T.HasText.bytes c.args.texts.now c.loop-place.place c.index-texts-place-in-loop-place.result (omega arith)
    c.index-texts-place-in-loop-place.is in
    carried _ _ _ _ _ _ c.stands_before.ensures c.if-not-stands_before.false (c.text.ensures ∙ same_text (sym first ∙ at))
    (c.text-in-loop-place.ensures ∙ same_text (sym second ∙ behind)))
