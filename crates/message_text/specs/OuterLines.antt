-- The line of an outer ring, read by itself.
use Rattle.std.specs.Prelude.{◌≡◌, false, List, ℕ, [], ◌∷◌, ◌++◌}
use Rattle.rd_plane.specs.Plane.{Vertex}
use Rattle.message_text.specs.declared.token.Token.TheVariants.{Outer}
use Rattle.message_text.specs.Lines.{fields_of}
use Rattle.message_text.specs.Reading.{has_arc_word}
use Rattle.message_text.specs.Spelling.{wide}
use Rattle.message_text.specs.Tokens.{IsLine}

-- the line, its line feed with it, is that of this outer ring, and no arc
pub record IsRingLine (line : List ℕ) (ring : List Vertex) : Type 0 where
  pub body : List ℕ
  pub ends : line ≡ body ++ 10 ∷ []
  pub says : IsLine wide body (Outer ring)
  pub no_arc : has_arc_word (fields_of body) ≡ false
