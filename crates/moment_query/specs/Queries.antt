-- The texts of the queries: the state at a moment, and the history of an object.
use Rattle.std.specs.Prelude.{ℕ, ℤ, List, [], ◌∷◌, ◌++◌, map, filter, codes}
use Rattle.std.specs.List.{flat_map}
use Rattle.message_text.specs.declared.message.Mutation.TheVariants.{Add}
use Rattle.message_text.specs.Texts.{mutation_lines, shape_lines}
use Rattle.version_history.specs.declared.version.Version.{Version}
use Rattle.version_history.specs.Moments.{holds, rising, versions_at, versions_of}
use Rattle.area_book.specs.declared.version.AreaVersion.{AreaVersion}
use Rattle.map_rules.specs.State.{State}
use Rattle.moment_query.specs.Rows.{Row, AreaOf, ObjectOf, Says, Word, IsTextOf}

-- whose area it is and when it holds, and then its shapes
abbrev pub area_rows : AreaVersion → List Row
area_rows a = AreaOf a.holder a.since a.until ∷ map Says (flat_map shape_lines a.shapes)

-- whose object it is and when it holds, and then the lines that begin the object
abbrev pub version_rows : Version → List Row
version_rows v = ObjectOf v.holder v.since v.until v.end_day ∷ map Says (mutation_lines (Add v.ident v.item))

-- the area versions that hold at the moment, by rising holder
abbrev pub areas_at : ℤ → List AreaVersion → List AreaVersion
areas_at moment areas = rising (λ (a : AreaVersion). a.holder) (filter (λ (a : AreaVersion). holds moment a.since a.until) areas)

-- the areas and then the objects that hold at the moment
abbrev pub state_rows : State → ℤ → List Row
state_rows s moment = flat_map area_rows (areas_at moment s.areas) ++ flat_map version_rows (versions_at moment s.versions)

-- the lines, or a word where there are none
abbrev pub or_none : List Row → List Row
or_none [] = Word (codes "NONE") ∷ []
or_none (row ∷ rows) = row ∷ rows

-- the versions of the identification, in order of making
abbrev pub history_rows : State → List ℕ → List Row
history_rows s ident = or_none (flat_map version_rows (versions_of ident s.versions))

-- the bytes tell the state at the moment
unfoldable pub IsStateText : State → ℤ → List ℕ → Type 0
IsStateText s moment text = IsTextOf text (state_rows s moment)

-- the bytes tell the history of the object
unfoldable pub IsHistoryText : State → List ℕ → List ℕ → Type 0
IsHistoryText s ident text = IsTextOf text (history_rows s ident)
