-- Areas and versions from which exports are made: they stand by rising holder, and have canonical lines.
use Rattle.std.specs.Prelude.{List}
use Rattle.std.specs.Borrow.{Bor}
use Rattle.std.specs.List.{All}
use Rattle.std.specs.List.Sorted.{IsSortedBy}
use Rattle.version_history.specs.declared.version.Version.{Version}
use Rattle.version_history.specs.Moments.{contents, has_lower}
use Rattle.area_book.specs.declared.version.AreaVersion.{AreaVersion}
use Rattle.moment_query.specs.Printed.{IsPrintableArea, IsPrintableVersion}

-- no area stands behind one of a greater holder
abbrev pub AreAreasByHolder : List (Bor AreaVersion) → Type 0
AreAreasByHolder areas = IsSortedBy (has_lower (λ (a : Bor AreaVersion). a.now.holder)) areas

-- no version stands behind one of a greater holder
abbrev pub AreByHolder : List (Bor Version) → Type 0
AreByHolder versions = IsSortedBy (has_lower (λ (v : Bor Version). v.now.holder)) versions

-- both stand so, and each has canonical lines
pub record AreExportable (areas : List (Bor AreaVersion)) (versions : List (Bor Version)) : Type 0 where
  pub areas_order : AreAreasByHolder areas
  pub versions_order : AreByHolder versions
  pub shapes : All IsPrintableArea (contents areas)
  pub items : All IsPrintableVersion (contents versions)
