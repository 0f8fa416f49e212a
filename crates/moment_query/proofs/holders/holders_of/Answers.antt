use Rattle.std.proofs.Common.{◌∙◌, ◌++◌, ap, List, ℕ, map, filter}
use Rattle.std.specs.Str.{bytes_eq}
use Rattle.std.proofs.lemmas.Cmp.{nat_list_cmp_total}
use Rattle.std.proofs.lemmas.List.Filters.{dedup_is}
use Rattle.std.proofs.lemmas.List.Sorted.{ranks_by}
use Rattle.version_history.specs.declared.version.Version.{Version}
use Rattle.version_history.specs.Moments.{contents, has_lower, in_order}
use Rattle.version_history.proofs.Rising.{sorts}
use Rattle.area_book.specs.declared.version.AreaVersion.{AreaVersion}
use Rattle.moment_query.specs.Exports.{has_shapes, once}
use Rattle.moment_query.proofs.Collected.{deduped}
use Rattle.moment_query.proofs.holders.holders_of.Goals as goal

pub returns : goal.returns
returns c =
    let key : List ℕ → List ℕ = λ h. h in
    let of_areas = map (λ (a : AreaVersion). a.holder) (filter has_shapes (contents c.args.areas.now)) in
    let of_versions = map (λ (v : Version). v.holder) (contents c.args.versions.now) in
    let collected = c.in_ok-push_version_holders.ensures ∙ ap (λ (l : List (List ℕ)). l ++ of_versions)
    (c.in_ok-push_area_holders.ensures ∙ ap (λ (l : List (List ℕ)). l ++ of_areas) c.new-holders.ensures.items) in
    let sorted = sorts (has_lower key) (ranks_by nat_list_cmp_total key) c.push_version_holders.new.holders.items c.sort.new.self.items
    c.in_ok-sort.ensures.sorted c.in_ok-sort.ensures.stable in
    dedup_is bytes_eq c.sort.new.self.items c.dedup.new.self.items c.dedup.ensures.filtered
    ∙ (deduped c.sort.new.self.items ∙ ap once (sorted ∙ ap (in_order (has_lower key)) collected))
