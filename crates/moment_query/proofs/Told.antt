-- The lines that were pushed are the text of the query.
use Rattle.std.proofs.Common.{◌≡◌, ◌==◌, ℕ, ℤ, true, false, List, [], ◌∷◌, ◌++◌, length, refl, ap, subst, ◌∙◌, arith, codes}
use Rattle.std.specs.List.{flat_map}
use Rattle.std.specs.Borrow.{Bor}
use Rattle.std.proofs.lemmas.Bool.Decides.{nat_tests}
use Rattle.version_history.specs.declared.version.Version.{Version}
use Rattle.version_history.specs.Moments.{contents, versions_at, versions_of}
use Rattle.area_book.specs.declared.version.AreaVersion.{AreaVersion}
use Rattle.map_rules.specs.State.{State}
use Rattle.moment_query.specs.Rows.{PushesRows}
use Rattle.moment_query.specs.Queries.{area_rows, version_rows, areas_at, or_none, IsStateText, IsHistoryText}
use Rattle.moment_query.proofs.RowLemmas.{one_row, both_rows}

pub told_state : {x y z : List ℕ} (s : State) (moment : ℤ) (areas : List AreaVersion) (versions : List Version)
    → areas ≡ areas_at moment s.areas
    → versions ≡ versions_at moment s.versions → x ≡ []
    → PushesRows (flat_map area_rows areas) x y → PushesRows (flat_map version_rows versions) y z → IsStateText s moment z
unfolding IsStateText
told_state {x} {y} {z} s moment areas versions a v e p q =
    subst
    (λ (found : List AreaVersion). PushesRows (flat_map area_rows found ++ flat_map version_rows (versions_at moment s.versions)) [] z)
    a
    (subst (λ (vs : List Version). PushesRows (flat_map area_rows areas ++ flat_map version_rows vs) [] z) v
    (subst (λ (old : List ℕ). PushesRows (flat_map area_rows areas ++ flat_map version_rows versions) old z) e (both_rows p q)))

some_told : {x z : List ℕ} (refs : List (Bor Version)) → (length refs == 0) ≡ false → PushesRows (flat_map version_rows (contents refs)) x z
    → PushesRows (or_none (flat_map version_rows (contents refs))) x z
some_told [] e p = cc
some_told (r ∷ refs) e p = p

pub told_versions : {x z : List ℕ} (s : State) (ident : List ℕ) (refs : List (Bor Version)) → (length refs == 0) ≡ false
    → contents refs ≡ versions_of ident s.versions → x ≡ []
    → PushesRows (flat_map version_rows (contents refs)) x z → IsHistoryText s ident z
unfolding IsHistoryText
told_versions {x} {z} s ident refs some is e p =
    subst (λ (vs : List Version). PushesRows (or_none (flat_map version_rows vs)) [] z) is
    (subst (λ (old : List ℕ). PushesRows (or_none (flat_map version_rows (contents refs))) old z) e (some_told refs some p))

none_told : {z : List ℕ} (refs : List (Bor Version)) → (length refs == 0) ≡ true → z ≡ codes "NONE\n"
    → PushesRows (or_none (flat_map version_rows (contents refs))) [] z
none_told [] e p = one_row (codes "NONE") refl p
none_told (r ∷ refs) e p = let none : length (r ∷ refs) ≡ 0 = grind (arith, nat_tests) in absurd (omega (arith, none))

pub told_none : {x z : List ℕ} (s : State) (ident : List ℕ) (refs : List (Bor Version)) → (length refs == 0) ≡ true
    → contents refs ≡ versions_of ident s.versions → x ≡ [] → z ≡ x ++ codes "NONE\n" → IsHistoryText s ident z
unfolding IsHistoryText
told_none {x} {z} s ident refs none is e p =
    subst (λ (vs : List Version). PushesRows (or_none (flat_map version_rows vs)) [] z) is
    (none_told refs none (p ∙ ap (λ (old : List ℕ). old ++ codes "NONE\n") e))
