-- Which areas and versions have canonical lines.
use Rattle.std.specs.List.{All}
use Rattle.message_text.specs.Printable.{IsPrintableItem, IsPrintableShape}
use Rattle.version_history.specs.declared.version.Version.{Version}
use Rattle.area_book.specs.declared.version.AreaVersion.{AreaVersion}

-- each shape of the area has canonical lines
abbrev pub IsPrintableArea : AreaVersion → Type 0
IsPrintableArea a = All IsPrintableShape a.shapes

-- the item of the version has canonical lines
abbrev pub IsPrintableVersion : Version → Type 0
IsPrintableVersion v = IsPrintableItem v.item
