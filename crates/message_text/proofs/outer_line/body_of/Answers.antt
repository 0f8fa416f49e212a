use Rattle.std.proofs.Common.{ℕ, List, ◌++◌, ◌≡◌, ◌≢◌, subst}
use Rattle.std.specs.Prelude.{MatchOption}
use Rattle.std.proofs.lemmas.Bool.Decides.{Decides-eqb}
use Rattle.std.proofs.lemmas.Slice.Eq.{strip_suffix_is}
use Rattle.message_text.proofs.outer_line.body_of.Goals as goal

pub returns : goal.returns
returns c =
    subst (λ (feed : List ℕ). MatchOption c.strip_suffix.result ((body : List ℕ) → c.args.line.now ≢ body ++ feed)
    (λ body. c.args.line.now ≡ body.now ++ feed)) c.as_slice.ensures
    (strip_suffix_is Decides-eqb _ _ _ c.strip_suffix.ensures.cases)
