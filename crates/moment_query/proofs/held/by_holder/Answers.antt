use Rattle.std.proofs.Common.{◌∙◌, ap, List, ℕ, rules, tests}
use Rattle.std.specs.Borrow.{Bor}
use Rattle.std.proofs.lemmas.Cmp.{nat_list_cmp_total}
use Rattle.std.proofs.lemmas.List.Sorted.{ranks_by}
use Rattle.std.proofs.lemmas.Fn.{always_returns_same}
use Rattle.version_history.specs.declared.version.Version.{Version}
use Rattle.version_history.specs.Moments.{contents, has_lower}
use Rattle.version_history.proofs.Rising.{sorts, in_order_map}
use Rattle.moment_query.proofs.held.by_holder.Goals as goal

pub returns-clause-value : goal.returns-clause-value
returns-clause-value c =
    let key : Bor Version → List ℕ = λ b. b.now.holder in
    let computes = always_returns_same _ _ _ (λ a r f k. search (rules, tests)) in
    let is = sorts (has_lower key) (ranks_by nat_list_cmp_total key) c.args.versions.items c.sort_by_key.new.self.items
    (c.in_ok-sort_by_key.ensures.sorted key computes) (c.in_ok-sort_by_key.ensures.stable key computes) in
    ap contents is ∙ in_order_map (λ (b : Bor Version). b.now) (has_lower (λ (v : Version). v.holder)) c.args.versions.items

pub returns-clause-order : goal.returns-clause-order
returns-clause-order c =
    let key : Bor Version → List ℕ = λ b. b.now.holder in
    c.in_ok-sort_by_key.ensures.sorted key (always_returns_same _ _ _ (λ a r f k. search (rules, tests)))
