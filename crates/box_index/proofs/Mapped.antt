-- The map that entries in order stand for, as the ordered map reads them.
use Rattle.std.proofs.Common.{◌≡◌, ℕ, refl, sym, ap, ◌∙◌, List, [], ◌∷◌}
use Rattle.std.specs.Prelude.{true, false, cond, Option, Some, None, IsSome, is_some}
use Rattle.std.proofs.lemmas.Bool.{both_ways}
use Rattle.std.specs.BTreeMap.{is_at}
use Rattle.std.specs.Cmp.{nat_cmp_total, eq_by_cmp_equiv}
use Rattle.std.specs.FinMap as map
use Rattle.std.specs.FinMap.{find, get-from_entries, get-insert, get-remove, same_map, nat_cmp-IsAntisymmetric}
use Rattle.std.specs.Map.{lookup}
use Rattle.std.specs.Ordering.{nat_cmp}
use Rattle.rd_plane.specs.Bounds.{Box}

abbrev pub at : ℕ → List (ℕ × Box) → Option Box
at q es = lookup (is_at (nat_cmp q)) es

found_at : (q : ℕ) (es : List (ℕ × Box)) → find nat_cmp q es ≡ at q es
found_at q [] = refl
found_at q (e ∷ es) = ap (λ r. cond (is_at (nat_cmp q) e.0) (Some e.1) r) (found_at q es)

pub got_at : (es : List (ℕ × Box)) (q : ℕ) → map.get (map.from_entries {R = nat_cmp} es) q ≡ at q es
got_at es q = get-from_entries nat_cmp_total es q ∙ found_at q es

pub inserted : (old new : List (ℕ × Box)) (k : ℕ) (box : Box) → ((q : ℕ) → at q new ≡ cond (is_at (nat_cmp k) q) (Some box) (at q old)) →
    map.from_entries {R = nat_cmp} new ≡ map.insert (map.from_entries old) k box
inserted old new k box h
    = same_map nat_cmp_total nat_cmp-IsAntisymmetric _ _
    (λ q. got_at new q ∙ h q ∙ ap (λ b. cond b (Some box) (at q old)) ((eq_by_cmp_equiv nat_cmp_total).symm k q)
    ∙ sym (get-insert nat_cmp_total (map.from_entries old) k box q ∙ ap (cond (is_at (nat_cmp q) k) (Some box)) (got_at old q)))

pub removed : (old new : List (ℕ × Box)) (k : ℕ) → ((q : ℕ) → at q new ≡ cond (is_at (nat_cmp k) q) None (at q old)) →
    map.from_entries {R = nat_cmp} new ≡ map.remove (map.from_entries old) k
removed old new k h
    = same_map nat_cmp_total nat_cmp-IsAntisymmetric _ _
    (λ q. got_at new q ∙ h q ∙ ap (λ b. cond b None (at q old)) ((eq_by_cmp_equiv nat_cmp_total).symm k q)
    ∙ sym (get-remove nat_cmp_total (map.from_entries old) k q ∙ ap (cond (is_at (nat_cmp q) k) None) (got_at old q)))

pub has_some : (es : List (ℕ × Box)) (m : map.FinMap nat_cmp Box) (k : ℕ) → map.from_entries es ≡ m → is_some (at k es) ≡ true
    → IsSome (map.get m k)
has_some es m k v h = ap is_some (ap (λ n. map.get n k) (sym v) ∙ got_at es k) ∙ h

pub has_none : (es : List (ℕ × Box)) (m : map.FinMap nat_cmp Box) (k : ℕ) → map.from_entries es ≡ m → is_some (at k es) ≡ false
    → IsSome (map.get m k) → ⊥
has_none es m k v h s = both_ways (is_some (at k es)) h (ap is_some (sym (got_at es k) ∙ ap (λ n. map.get n k) v) ∙ s)
