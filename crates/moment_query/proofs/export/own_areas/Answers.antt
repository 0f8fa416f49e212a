use Rattle.std.proofs.Common.{◌∙◌, ap, sym, List, ℕ, take, drop, ◌-◌, ◌≤◌, rules, tests}
use Rattle.std.specs.Borrow.{Bor}
use Rattle.std.proofs.lemmas.List.Sorted.{IsPartitionPoint-from_clause}
use Rattle.version_history.specs.Moments.{contents}
use Rattle.area_book.specs.declared.version.AreaVersion.{AreaVersion}
use Rattle.moment_query.specs.Exports.{is_own_area}
use Rattle.moment_query.proofs.Grouped.{in_turn, keys_agree, kept_contents, kept_stretch, lower, lower_first, upto, upto_first}
use Rattle.moment_query.proofs.export.own_areas.Goals as goal

pub slice_bounds-result-count : goal.slice_bounds-result-count
slice_bounds-result-count c =
    let key : Bor AreaVersion → List ℕ = λ v. v.now.holder in
    let xs = c.args.areas.now in
    let h = c.args.holder in
    in_turn key h xs c.partition_point-from.result c.partition_point-to.result
    (IsPartitionPoint-from_clause (λ (v : Bor AreaVersion). lower (key v) h) xs _
    c.partition_point-from.ensures.partitioned (lower_first key h xs c.requires) (λ a r q k. search (rules, tests, keys_agree)))
    (IsPartitionPoint-from_clause (λ (v : Bor AreaVersion). upto (key v) h) xs _
    c.partition_point-to.ensures.partitioned (upto_first key h xs c.requires) (λ a r q k. search (rules, tests, keys_agree)))
    c.partition_point-from.ensures.bound

pub slice_bounds-result-start : goal.slice_bounds-result-start
slice_bounds-result-start c = let turn : c.partition_point-from.result ≤ c.partition_point-to.result = slice_bounds-result-count c in search
    rules

pub returns : goal.returns
returns c =
    let key : Bor AreaVersion → List ℕ = λ v. v.now.holder in
    let xs = c.args.areas.now in
    let h = c.args.holder in
    let from = c.partition_point-from.result in
    let to = c.partition_point-to.result in
    let stretch = kept_stretch key h xs from to
    (IsPartitionPoint-from_clause (λ (v : Bor AreaVersion). lower (key v) h) xs _
    c.partition_point-from.ensures.partitioned (lower_first key h xs c.requires) (λ a r q k. search (rules, tests, keys_agree)))
    (IsPartitionPoint-from_clause (λ (v : Bor AreaVersion). upto (key v) h) xs _
    c.partition_point-to.ensures.partitioned (upto_first key h xs c.requires) (λ a r q k. search (rules, tests, keys_agree))) in
    kept_contents (is_own_area h) (take (to - from) (drop from xs)) ∙ (ap contents stretch ∙ sym (kept_contents (is_own_area h) xs))
