-- The lines of an input, judged up to here.
use Rattle.std.proofs.Common.{◌≡◌, ◌≤◌, ◌<◌, ◌+◌, ◌++◌, ◌∷◌, ◌∙◌, ℕ, Bool, true, false, List, [], length, refl, sym, ap, arith, append_assoc, append-nil}
use Rattle.std.specs.Prelude.{◌&&◌}
use Rattle.std.specs.List.{list_all}
use Rattle.std.proofs.lemmas.List.Folds.{list_all-append}
use Rattle.std.proofs.lemmas.List.{length-append}
use Rattle.message_text.specs.declared.limits.Limits.{Limits}
use Rattle.ring_judge.specs.declared.verdict.Verdict.{Verdict}
use Rattle.ring_judge.specs.Judging.{AreRepliesTo, AreVerdicts, parts, reply_lines}
use Rattle.ring_judge.specs.Verdicts.{IsVerdict, is_fine, reply_line}

-- so many lines in front of this rest were judged, and these are the replies to them
pub record IsJudgedUpTo (limits : Limits) (input replies : List ℕ) (all_fine : Bool) (number : ℕ) (rest : List ℕ) : Type 0 where
  pub verdicts : List Verdict
  pub lines : List (List ℕ)
  pub cut : parts input ≡ lines ++ parts rest
  pub each : AreVerdicts limits lines verdicts
  pub told : replies ≡ reply_lines 1 verdicts
  pub fine : all_fine ≡ list_all is_fine verdicts
  pub count : number ≡ length verdicts
  pub few : number + length rest ≤ length input

-- one more line
each_more : (limits : Limits) (lines : List (List ℕ)) (verdicts : List Verdict) (body : List ℕ) (verdict : Verdict)
    → AreVerdicts limits lines verdicts
    → IsVerdict limits (body ++ 10 ∷ []) verdict → AreVerdicts limits (lines ++ body ∷ []) (verdicts ++ verdict ∷ [])
each_more limits [] [] body verdict so_far is = (is, tt)
each_more limits [] (v ∷ verdicts) body verdict so_far is = absurd so_far
each_more limits (line ∷ lines) [] body verdict so_far is = absurd so_far
each_more limits (line ∷ lines) (v ∷ verdicts) body verdict so_far is = (so_far.0, each_more limits lines verdicts body verdict so_far.1 is)

-- and its reply
replies_more : (number : ℕ) (verdicts : List Verdict) (verdict : Verdict)
    → reply_lines number (verdicts ++ verdict ∷ []) ≡ reply_lines number verdicts ++ reply_line (number + length verdicts) verdict
replies_more number [] verdict =
    let here : number ≡ number + length {A = Verdict} [] = omega arith in
    append-nil (reply_line number verdict) ∙ ap (λ (k : ℕ). reply_line k verdict) here
replies_more number (v ∷ verdicts) verdict =
    let next : (number + 1) + length verdicts ≡ number + length (v ∷ verdicts) = omega arith in
    ap (λ (l : List ℕ). reply_line number v ++ l) (replies_more (number + 1) verdicts verdict)
    ∙ (sym (append_assoc (reply_line number v) (reply_lines (number + 1) verdicts) (reply_line ((number + 1) + length verdicts) verdict))
    ∙ ap (λ (k : ℕ). (reply_line number v ++ reply_lines (number + 1) verdicts) ++ reply_line k verdict) next)

fine_more : (verdicts : List Verdict) (verdict : Verdict)
    → list_all is_fine (verdicts ++ verdict ∷ []) ≡ (list_all is_fine verdicts && is_fine verdict)
fine_more verdicts verdict
    = list_all-append is_fine verdicts (verdict ∷ []) ∙ ap (λ (b : Bool). list_all is_fine verdicts && b) (alone (is_fine verdict))
  where
    alone : (b : Bool) → (b && true) ≡ b
    alone true = refl
    alone false = refl

pub none_judged : (limits : Limits) (input replies : List ℕ) → replies ≡ [] → IsJudgedUpTo limits input replies true 0 input
none_judged limits input replies e = record {
  verdicts = [];
  lines = [];
  cut = refl;
  each = tt;
  told = e;
  fine = refl;
  count = refl;
  few = omega arith;
}

pub one_judged : (limits : Limits) (input replies more : List ℕ) (all_fine : Bool) (number : ℕ) (rest line behind : List ℕ)
    (verdict : Verdict)
    → IsJudgedUpTo limits input replies all_fine number rest
    → (body : List ℕ) × (line ≡ body ++ 10 ∷ []) × (parts rest ≡ body ∷ parts behind) → length behind < length rest
    → IsVerdict limits line verdict → more ≡ reply_line (number + 1) verdict
    → IsJudgedUpTo limits input (replies ++ more) (all_fine && is_fine verdict) (number + 1) behind
one_judged limits input replies more all_fine number rest line behind verdict so_far front shorter is told = record {
  verdicts = so_far.verdicts ++ verdict ∷ [];
  lines = so_far.lines ++ front.0 ∷ [];
  cut = so_far.cut ∙ (ap (λ (l : List (List ℕ)). so_far.lines ++ l)
      front.2 ∙ sym (append_assoc so_far.lines (front.0 ∷ []) (parts behind)));
  each = each_more limits so_far.lines so_far.verdicts front.0 verdict so_far.each (rw front.1 at is);
  told =
      let count : number + 1 ≡ 1 + length so_far.verdicts = omega (arith, so_far.count) in
      ap (λ (l : List ℕ). l ++ more)
      so_far.told ∙ (ap (λ (l : List ℕ). reply_lines 1 so_far.verdicts ++ l) (told ∙ ap (λ (k : ℕ). reply_line k verdict) count)
      ∙ sym (replies_more 1 so_far.verdicts verdict));
  fine = ap (λ (b : Bool). b && is_fine verdict) so_far.fine ∙ sym (fine_more so_far.verdicts verdict);
  count = omega (arith, so_far.count, length-append so_far.verdicts (verdict ∷ []));
  few = omega (arith, so_far.few);
}

pub all_judged : (limits : Limits) (input replies : List ℕ) (all_fine : Bool) (number : ℕ) (rest : List ℕ)
    → IsJudgedUpTo limits input replies all_fine number rest
    → parts rest ≡ rest ∷ [] → AreRepliesTo limits input replies all_fine (length rest)
all_judged limits input replies all_fine number rest so_far last = record {
  verdicts = so_far.verdicts;
  tail = rest;
  judged = record {
    lines = so_far.lines;
    cut = so_far.cut ∙ ap (λ (l : List (List ℕ)). so_far.lines ++ l) last;
    each = so_far.each;
  };
  told = so_far.told;
  fine = so_far.fine;
  left = refl;
}
