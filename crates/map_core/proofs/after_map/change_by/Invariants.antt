use Rattle.std.proofs.Common.{◌≡◌, take}
use Rattle.std.specs.List.{flat_map}
use Rattle.map_rules.specs.Changes.{coming_by, leaving_by}
use Rattle.map_core.proofs.after_map.change_by.Given as goal

abbrev pub invariant-loop-mutation : goal.invariant-loop-mutation
invariant-loop-mutation l = record {
  coming : l.coming ≡ flat_map coming_by (take l.mutation-index l.message.mutations);
  leaving : l.leaving ≡ flat_map leaving_by (take l.mutation-index l.message.mutations);
}
