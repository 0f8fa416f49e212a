use Rattle.std.proofs.Common.{◌∙◌, ap, List, ℕ, rules, tests}
use Rattle.std.specs.Borrow.{Bor}
use Rattle.std.proofs.lemmas.Cmp.{nat_list_cmp_total}
use Rattle.std.proofs.lemmas.List.Sorted.{ranks_by}
use Rattle.std.proofs.lemmas.Fn.{always_returns_same}
use Rattle.area_book.specs.declared.version.AreaVersion.{AreaVersion}
use Rattle.version_history.specs.Moments.{contents, in_order, has_lower}
use Rattle.version_history.proofs.Rising.{sorts, in_order_map}
use Rattle.moment_query.proofs.held.areas_at.Goals as goal

pub returns-clause-value : goal.returns-clause-value
returns-clause-value c =
    let key : Bor AreaVersion → List ℕ = λ b. b.now.holder in
    let computes = always_returns_same _ _ _ (λ a r f k. search (rules, tests)) in
    let is = sorts (has_lower key) (ranks_by nat_list_cmp_total key) c.in_ok-found.found.items c.sort_by_key.new.self.items
    (c.in_ok-sort_by_key.ensures.sorted key computes) (c.in_ok-sort_by_key.ensures.stable key computes) in
    ap contents is
    ∙ (in_order_map (λ (b : Bor AreaVersion). b.now) (has_lower (λ (a : AreaVersion). a.holder)) c.in_ok-found.found.items
    ∙ ap (in_order (has_lower (λ (a : AreaVersion). a.holder))) c.in_ok-found.ensures)

pub returns-clause-order : goal.returns-clause-order
returns-clause-order c =
    let key : Bor AreaVersion → List ℕ = λ b. b.now.holder in
    c.in_ok-sort_by_key.ensures.sorted key (always_returns_same _ _ _ (λ a r f k. search (rules, tests)))
