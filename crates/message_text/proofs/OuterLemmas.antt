-- The line of an outer ring, read by itself.
use Rattle.std.proofs.Common.{◌≡◌, ◌≢◌, ◌++◌, ◌∷◌, ◌∙◌, [], ℕ, List, sym, subst}
use Rattle.std.specs.Prelude.{false, Option, Some, None, MatchOption}
use Rattle.std.proofs.lemmas.List.{append_cancel_right}
use Rattle.rd_plane.specs.Plane.{Vertex}
use Rattle.message_text.specs.declared.token.Token.{Token}
use Rattle.message_text.specs.declared.token.Token.TheVariants.{Outer}
use Rattle.message_text.specs.Lines.{fields_of}
use Rattle.message_text.specs.OuterLines.{IsRingLine}
use Rattle.message_text.specs.Reading.{has_arc_word}
use Rattle.message_text.specs.Spelling.{wide}
use Rattle.message_text.specs.Tokens.{IsLine}
use Rattle.message_text.proofs.LineLaws.{one_token}

-- one body is in front of its line feed
same_body : (line body : List ℕ) (ring : List Vertex) → line ≡ body ++ 10 ∷ [] → (h : IsRingLine line ring) → h.body ≡ body
same_body line body ring e h = append_cancel_right h.body body (10 ∷ []) (sym h.ends ∙ e)

-- a line that says this is that of the ring which it says, and of none where it says something else
pub ring_of_line : (line body : List ℕ) (token : Token) (found : Option (List Vertex)) → line ≡ body ++ 10 ∷ [] → IsLine wide body token
    → has_arc_word (fields_of body) ≡ false
    → MatchOption found ((ring : List Vertex) → token ≢ Outer ring) (λ ring. token ≡ Outer ring)
    → MatchOption found ((ring : List Vertex) → ¬ IsRingLine line ring) (IsRingLine line)
ring_of_line line body token None e says no_arc other = λ ring h.
    other ring
    (one_token body token (Outer ring) says (subst (λ (b : List ℕ). IsLine wide b (Outer ring)) (same_body line body ring e h) h.says))
ring_of_line line body token (Some ring) e says no_arc is = record {
  body = body;
  ends = e;
  says = subst (λ (t : Token). IsLine wide body t) is says;
  no_arc = no_arc;
}
