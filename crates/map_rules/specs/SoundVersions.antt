-- What holds of each version that the register has: its shapes are sound, and its item is right.
use Rattle.std.specs.Prelude.{◌≡◌, None}
use Rattle.std.specs.List.{All}
use Rattle.rd_plane.specs.Shapes.{IsSoundShape}
use Rattle.imgeo_types.specs.ItemRule.{item_fault}
use Rattle.version_history.specs.declared.version.Version.{Version}
use Rattle.area_book.specs.declared.version.AreaVersion.{AreaVersion}

-- the shape of the version is sound
abbrev pub HasSoundShape : Version → Type 0
HasSoundShape v = IsSoundShape v.item.rings

-- and so is each shape of the area
abbrev pub HasSoundArea : AreaVersion → Type 0
HasSoundArea a = All IsSoundShape a.shapes

-- the item of the version has no fault by the catalogue
abbrev pub HasRightItem : Version → Type 0
HasRightItem v = item_fault v.item ≡ None
