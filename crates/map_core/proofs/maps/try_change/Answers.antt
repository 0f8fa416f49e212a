use Rattle.std.proofs.Common.{◌∙◌, sym}
use Rattle.local_check.specs.Maps.{changed}
use Rattle.map_core.proofs.Holding.{told}
use Rattle.map_core.proofs.maps.try_change.Goals as goal

pub returns-in_default-clause-rule : goal.returns-in_default-clause-rule
returns-in_default-clause-rule g c = c.checked_is_ruled.ensures.taken (changed c.args.change.now c.args.map.now.now) c.requires.area
    c.requires.sound c.in_default.ensures.ok

pub returns-in-Some-clause-rule : goal.returns-in-Some-clause-rule
returns-in-Some-clause-rule g c =
    told (changed c.args.change.now c.args.map.now.now) c.in-Err.fault c.in-Some.refusal (sym c.told.ensures ∙ c.in-Some.is)
    c.in-Err.ensures.refused
    (c.checked_is_ruled.ensures.refused (changed c.args.change.now c.args.map.now.now) c.in-Err.fault c.requires.area c.requires.sound)
