-- Of the lines of a canonical text the last alone is the end.
use Rattle.std.proofs.Common.{◌≡◌, ◌≢◌, ◌∙◌, ℕ, refl, sym, ap, List, [], ◌∷◌, ◌++◌, append_assoc, codes, map, subst}
use Rattle.std.specs.Prelude.{true, false, Bool, Option, Some, None}
use Rattle.std.specs.List.{AllByRecursion, flat_map, join_with_byte}
use Rattle.std.proofs.lemmas.Bool.{both_ways}
use Rattle.std.proofs.lemmas.List.Splits.{join_with_byte-slice_split}
use Rattle.rd_plane.proofs.Members.{all_join}
use Rattle.rd_plane.specs.Plane.{Vertex}
use Rattle.message_text.specs.declared.message.Message.{Message}
use Rattle.message_text.specs.declared.message.Mutation.{Mutation}
use Rattle.message_text.specs.declared.message.Mutation.TheVariants as mutation
use Rattle.message_text.specs.declared.token.Token.{Token}
use Rattle.message_text.specs.declared.token.Token.TheVariants.{Header, Hole, Done}
use Rattle.message_text.specs.Spelling.{printed, wide}
use Rattle.message_text.specs.Texts.{AreLines, area_lines, message_lines, mutation_lines, shape_lines}
use Rattle.message_text.specs.Tokens.{IsLine}
use Rattle.message_text.proofs.LineLaws.{an_end, one_token, printed_is_wide}

abbrev pub ende : List ℕ
ende = codes "EINDE"

-- ---- which line is the last
pub is_done : Token → Bool
is_done Done = true
is_done _ = false

abbrev GoesOn : Token → Type 0
GoesOn token = is_done token ≡ false

holes_go_on : (rings : List (List Vertex)) → AllByRecursion GoesOn (map Hole rings)
unfolding is_done
holes_go_on [] = tt
holes_go_on (ring ∷ rings) = (refl, holes_go_on rings)

shape_goes_on : (rings : List (List Vertex)) → AllByRecursion GoesOn (shape_lines rings)
unfolding is_done
shape_goes_on [] = tt
shape_goes_on (outer ∷ holes) = (refl, holes_go_on holes)

shapes_go_on : (shapes : List (List (List Vertex))) → AllByRecursion GoesOn (flat_map shape_lines shapes)
shapes_go_on [] = tt
shapes_go_on (shape ∷ shapes)
    = all_join GoesOn (shape_lines shape) (flat_map shape_lines shapes) (shape_goes_on shape) (shapes_go_on shapes)

area_goes_on : (area : Option (List (List (List Vertex)))) → AllByRecursion GoesOn (area_lines area)
unfolding is_done
area_goes_on None = tt
area_goes_on (Some shapes) = (refl, shapes_go_on shapes)

mutation_goes_on : (m : Mutation) → AllByRecursion GoesOn (mutation_lines m)
unfolding is_done
mutation_goes_on (mutation.Add ident item) = (refl, shape_goes_on item.rings)
mutation_goes_on (mutation.Change ident was item) = (refl, shape_goes_on item.rings)
mutation_goes_on (mutation.End ident was day) = (refl, tt)

mutations_go_on : (ms : List Mutation) → AllByRecursion GoesOn (flat_map mutation_lines ms)
mutations_go_on [] = tt
mutations_go_on (m ∷ ms) = all_join GoesOn (mutation_lines m) (flat_map mutation_lines ms) (mutation_goes_on m) (mutations_go_on ms)

-- the lines before the last one
abbrev pub before_last : Message → List Token
before_last m = Header m.holder m.moment ∷ (area_lines m.area ++ flat_map mutation_lines m.mutations)

pub all_go_on : (m : Message) → AllByRecursion GoesOn (before_last m)
unfolding is_done
all_go_on m
    = (refl, all_join GoesOn (area_lines m.area) (flat_map mutation_lines m.mutations) (area_goes_on m.area) (mutations_go_on m.mutations))

pub lines_are : (m : Message) → message_lines m ≡ before_last m ++ Done ∷ []
lines_are m = ap (λ (l : List Token). Header m.holder m.moment ∷ l)
    (sym (append_assoc (area_lines m.area) (flat_map mutation_lines m.mutations) (Done ∷ [])))

-- ---- lines that are not the last
-- the line that says the end
end_line : (line : List ℕ) → IsLine printed line Done → line ≡ ende
unfolding IsLine
end_line line p = sym (join_with_byte-slice_split 32 line) ∙ ap (join_with_byte 32) p

-- no other line is it
not_done : (x : Token) → GoesOn x → x ≡ Done → ⊥
unfolding is_done
not_done x h q = both_ways (is_done x) h (ap is_done q)

no_end_line : (line : List ℕ) (token : Token) → GoesOn token → IsLine printed line token → line ≢ ende
no_end_line line token g p e
    = not_done token g (one_token ende token Done (subst (λ l. IsLine wide l token) e (printed_is_wide line token p)) an_end)

abbrev pub NoEnds : List (List ℕ) → Type 0
NoEnds lines = AllByRecursion (λ line. line ≢ ende) lines

-- lines, of which the last alone is the end
pub record EndsOnce (lines : List (List ℕ)) : Type 0 where
  pub front : List (List ℕ)
  pub no_ends : NoEnds front
  pub is : lines ≡ front ++ ende ∷ []

pub ends_once : (lines : List (List ℕ)) (tokens : List Token) → AllByRecursion GoesOn tokens → AreLines printed lines (tokens ++ Done ∷ [])
    → EndsOnce lines
ends_once [] [] g p = absurd p
ends_once (line ∷ []) [] g p = record { front = []; no_ends = tt; is = ap (λ (l : List ℕ). l ∷ []) (end_line line p.0) }
ends_once (line ∷ other ∷ lines) [] g p = absurd p.1
ends_once [] (token ∷ tokens) g p = absurd p
ends_once (line ∷ lines) (token ∷ tokens) g p =
    let rest = ends_once lines tokens g.1 p.1 in record {
      front = line ∷ rest.front;
      no_ends = (no_end_line line token g.0 p.0, rest.no_ends);
      is = ap (λ (l : List (List ℕ)). line ∷ l) rest.is;
    }
