-- What a reply says of an area block that is not right.
use Rattle.std.specs.Prelude.{ℕ, List}
use Rattle.rd_plane.specs.Plane.{Vertex}
use Rattle.area_book.specs.declared.fault.AreaFault.{AreaFault}
use Rattle.area_book.specs.declared.fault.AreaFault.TheVariants as fault
use Rattle.area_book.specs.declared.version.AreaVersion.{AreaVersion}
use Rattle.area_book.specs.Rule.{IsAreaFault}
use Rattle.map_rules.specs.declared.refusal.AreaNote.{AreaNote}
use Rattle.map_rules.specs.declared.refusal.AreaNote.TheVariants as note

-- the fault of which the note speaks
abbrev pub fault_of : AreaNote → AreaFault
fault_of (note.Shape s what) = fault.Shape s what
fault_of (note.Own first second) = fault.Own first second
fault_of (note.Meets holder) = fault.Meets holder

-- what is wrong with an area block of these shapes as the holder's new area, among the areas that there are
abbrev pub IsAreaNote : List AreaVersion → List ℕ → List (List (List Vertex)) → AreaNote → Type 0
IsAreaNote areas holder shapes what = IsAreaFault areas holder shapes (fault_of what)
