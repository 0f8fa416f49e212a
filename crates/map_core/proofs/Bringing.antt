-- What mutations add to the change of a map, one after another.
use Rattle.std.proofs.Common.{◌≡◌, ◌∙◌, ℕ, List, [], ◌∷◌, ◌++◌, ap, sym, append_assoc, append-nil}
use Rattle.std.specs.Prelude.{Option}
use Rattle.std.specs.List.{flat_map}
use Rattle.std.proofs.lemmas.Grind.{flat_map-append}
use Rattle.rd_plane.specs.Plane.{Vertex}
use Rattle.message_text.specs.declared.message.Mutation.{Mutation}
use Rattle.level_rules.specs.declared.item.LevelItem.{LevelItem}
use Rattle.local_check.specs.declared.change.Change.{Change}
use Rattle.map_rules.specs.Changes.{coming_by, leaving_by, with_mutations}

behind_none : {A : Type 0} (xs : List A) → xs ≡ xs ++ []
behind_none xs = sym (append-nil xs)

abbrev change : Option (List (List (List Vertex))) → List (List ℕ) → List LevelItem → Change
change area leaving coming = record { area = area; leaving = leaving; coming = coming }

same : (area : Option (List (List (List Vertex)))) (l k : List (List ℕ)) (c d : List LevelItem) → l ≡ k → c ≡ d
    → change area l c ≡ change area k d
same area l k c d p q = ap (λ (x : List (List ℕ)). change area x c) p ∙ ap (change area k) q

-- no mutation adds nothing
pub none_added : (c : Change) → c ≡ with_mutations [] c
none_added c = same c.area c.leaving (c.leaving ++ []) c.coming (c.coming ++ []) (behind_none c.leaving) (behind_none c.coming)

more : {A : Type 0} (by : Mutation → List A) (before : List Mutation) (x : Mutation) (xs : List A)
    → (xs ++ flat_map by before) ++ by x ≡ xs ++ flat_map by (before ++ x ∷ [])
more {A} by before x xs =
    append_assoc xs (flat_map by before) (by x)
    ∙ ap (λ (l : List A). xs ++ l)
    (ap (λ (l : List A). flat_map by before ++ l) (behind_none (by x)) ∙ sym (flat_map-append by before (x ∷ [])))

-- one mutation more adds what it ends and brings
pub one_added : (before all : List Mutation) (x : Mutation) (c now : Change) (leaving : List (List ℕ)) (coming : List LevelItem)
    → now ≡ with_mutations before c → all ≡ before ++ x ∷ []
    → leaving ≡ now.leaving ++ leaving_by x → coming ≡ now.coming ++ coming_by x → change now.area leaving coming ≡ with_mutations all c
one_added before all x c now leaving coming so_far whole left brought =
    ap (λ (a : Option (List (List (List Vertex)))). change a leaving coming) (ap (λ (n : Change). n.area) so_far)
    ∙ (same c.area leaving ((c.leaving ++ flat_map leaving_by before) ++ leaving_by x) coming ((c.coming ++ flat_map coming_by before) ++ coming_by x)
    (left ∙ ap (λ (n : Change). n.leaving ++ leaving_by x) so_far) (brought ∙ ap (λ (n : Change). n.coming ++ coming_by x) so_far)
    ∙ (same c.area _ _ _ _ (more leaving_by before x c.leaving) (more coming_by before x c.coming)
    ∙ ap (λ (ms : List Mutation). with_mutations ms c) (sym whole)))
