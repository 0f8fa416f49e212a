use Rattle.std.proofs.Common.{◌∙◌, ap, List, ℕ, Bool, rules, tests, filter}
use Rattle.std.specs.Borrow.{Bor}
use Rattle.std.proofs.lemmas.Cmp.{nat_cmp_total, lists_total}
use Rattle.std.proofs.lemmas.List.Sorted.{ranks_by}
use Rattle.std.proofs.lemmas.Fn.{always_returns_same}
use Rattle.version_history.specs.declared.version.Version.{Version}
use Rattle.version_history.specs.Versions.{HistoryView}
use Rattle.version_history.specs.Moments.{contents, in_order, has_lower, holds_at}
use Rattle.version_history.proofs.Rising.{sorts, in_order_map}
use Rattle.version_history.proofs.history.History.at.Goals as goal

pub returns : goal.returns
returns c =
    let key : Bor Version → List ℕ = λ b. b.now.ident in
    let lt : Bor Version → Bor Version → Bool = has_lower key in
    let computes = always_returns_same _ _ _ (λ a r f k. search (rules, tests)) in
    let sorted = c.in_ok-sort_by_key.ensures.sorted key computes in
    let stable = c.in_ok-sort_by_key.ensures.stable key computes in
    let is = sorts lt (ranks_by (lists_total nat_cmp_total) key) c.in_ok-found.found.items c.sort_by_key.new.self.items sorted stable in
    let held = c.in_ok-found.ensures in
    ap contents is
    ∙ (in_order_map (λ (b : Bor Version). b.now) (has_lower (λ (v : Version). v.ident)) c.in_ok-found.found.items
    ∙ ap (in_order (has_lower (λ (v : Version). v.ident)))
    (held ∙ ap (filter (holds_at c.args.moment)) (c.deref.ensures.value ∙ ap (λ (k : HistoryView). k.versions) c.self.view_is)))
