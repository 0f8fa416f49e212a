use Rattle.std.proofs.Common.{Some, map, sym, ap, ◌∙◌, arith, below_more}
use Rattle.std.proofs.lemmas.Grind.{common_steps}
use Rattle.std.proofs.lemmas.Option.{slice_get_within}
use Rattle.std.proofs.lemmas.Slice.Eq.{bytes_eq-Decides}
use Rattle.code_tables.proofs.Places.{first_place, no_place}
use Rattle.code_tables.proofs.Rising.{read_text, same_text}
use Rattle.code_tables.proofs.codes.place_among.Goals as goal

pub returns-then-eq : goal.returns-then-eq
returns-then-eq g c =
    let at
    = read_text g.T.HasText.bytes c.args.texts.now c.loop-place.place c.index-texts-place.result (omega arith) c.index-texts-place.is in
    let same = (bytes_eq-Decides c.as_bytes.result.now c.args.text.now).0 (sym c.eq.ensures ∙ c.if-eq.true) in
    sym (first_place _ _ c.loop-place.place (at ∙ ap Some (sym c.text.ensures ∙ sym c.as_bytes.ensures.value ∙ same))
    c.loop-place.invariant)

pub returns : goal.returns
returns g c = sym (no_place (map g.T.HasText.bytes c.args.texts.now) c.args.text.now (λ j at. c.loop-place.invariant j
    (let within = slice_get_within (map g.T.HasText.bytes c.args.texts.now) j c.args.text.now at in grind (arith, common_steps)) at))

pub loop-place-preserved : goal.loop-place-preserved
loop-place-preserved g c =
    below_more _ _ c.loop-place.invariant (λ stands.
    let at
    = read_text g.T.HasText.bytes c.args.texts.now c.loop-place.place c.index-texts-place.result (omega arith) c.index-texts-place.is in
    let same = (bytes_eq-Decides c.as_bytes.result.now c.args.text.now).1
    (c.as_bytes.ensures.value ∙ c.text.ensures ∙ same_text (sym at ∙ stands)) in
    let other = sym c.eq.ensures ∙ c.if-eq.false in cc)
