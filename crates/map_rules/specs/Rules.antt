-- The rules: why a message is refused by what the register has. Their order is that of `Decision`.
use Rattle.std.specs.Prelude.{◌≡◌, ◌+◌, ℕ, ℤ, pos, int_lt, int_le, nat_lt, nat_le, Bool, not, ◌&&◌, ◌||◌, List, [], ◌∷◌, ◌++◌, length, count_by, Option, Some, None, is_some, is_none, find, IfSome, ◌<ℤ◌, ◌≤ℤ◌, option_and_then, option_map}
use Rattle.std.specs.Bool.{if◌then◌else◌}
use Rattle.std.specs.List.{list_any}
use Rattle.std.specs.Int.{int_div_euclid}
use Rattle.std.specs.Option.{option_or}
use Rattle.std.specs.Str.{bytes_eq}
use Rattle.rd_plane.specs.Plane.{Vertex, Segment}
use Rattle.rd_plane.specs.Covering.{IsTiled, IsUncancelled}
use Rattle.rd_plane.specs.Order.{IsLeast, segment_cmp}
use Rattle.rd_plane.specs.Rule.{Rule, ◌then◌, Is, when}
use Rattle.rd_plane.specs.Shapes.{IsSoundShape}
use Rattle.part_shape.specs.declared.fault.ShapeNote.{ShapeNote}
use Rattle.part_shape.specs.Faults.{IsShapeNote}
use Rattle.imgeo_types.specs.declared.item.Item.{Item}
use Rattle.imgeo_types.specs.Fields.{holder_of}
use Rattle.imgeo_types.specs.ItemRule.{item_fault}
use Rattle.imgeo_types.specs.Kinds.{word_of}
use Rattle.message_text.specs.declared.limits.Limits.{Limits}
use Rattle.message_text.specs.declared.message.Header.{Header}
use Rattle.message_text.specs.declared.message.Message.{Message}
use Rattle.message_text.specs.declared.message.Mutation.{Mutation}
use Rattle.message_text.specs.declared.message.Mutation.TheVariants.{Add, Change, End}
use Rattle.version_history.specs.declared.version.Version.{Version}
use Rattle.version_history.specs.Versions.{current_of, last_of}
use Rattle.map_rules.specs.declared.refusal.Refusal.{Refusal}
use Rattle.map_rules.specs.declared.refusal.Refusal.TheVariants as refusal
use Rattle.map_rules.specs.declared.refusal.AreaNote.{AreaNote}
use Rattle.map_rules.specs.declared.refusal.FullName.TheVariants.{Holders, Objects}
use Rattle.area_book.specs.declared.version.AreaVersion.{AreaVersion}
use Rattle.area_book.specs.Areas.{is_area_of, newest_area}
use Rattle.area_book.specs.Rule.{KeepsAreas}
use Rattle.local_check.specs.declared.fault.MapFault.{MapFault}
use Rattle.local_check.specs.declared.fault.MapFault.TheVariants as fault
use Rattle.local_check.specs.MapRules.{LevelRule, NodeRule}
use Rattle.local_check.specs.Maps.{HolderParts, ground_of}
use Rattle.map_rules.specs.State.{edges_of, is_object_of, moment_of}
use Rattle.map_rules.specs.declared.last.LastMessage.{LastMessage}
use Rattle.map_rules.specs.Sound.{IsAreaNote}

-- the moment is not later than the kept one
abbrev pub not_later : ℤ → Option ℤ → Option Refusal
not_later moment kept = option_and_then (λ k. when (int_le moment k) (refusal.Stale k) None) kept

-- the moment is earlier than the kept one
abbrev pub earlier : ℤ → Option ℤ → Option Refusal
earlier moment kept = option_and_then (λ k. when (int_lt moment k) (refusal.Stale k) None) kept

-- the moment is not later than that of the holder's last message
abbrev pub stale_message : List LastMessage → Message → Option Refusal
stale_message last m = not_later m.moment (moment_of m.holder last)

-- there is an area block, and the moment is earlier than that of the last area block of any holder
abbrev pub stale_area : List AreaVersion → Message → Option Refusal
stale_area areas m = if is_some m.area then earlier m.moment (newest_area areas) else None

-- the identification that a mutation names
abbrev pub ident_of : Mutation → List ℕ
ident_of (Add ident item) = ident
ident_of (Change ident was item) = ident
ident_of (End ident was day) = ident

-- an earlier mutation has the identification
abbrev pub has_twice : List Mutation → Mutation → Bool
has_twice before mutation = list_any (λ other. bytes_eq (ident_of other) (ident_of mutation)) before

-- the day of a moment, also before 1970
abbrev pub day_of : ℤ → ℤ
day_of moment = int_div_euclid moment (pos 86_400_000)

-- the holder and the moment of a message
abbrev pub header_of : Message → Header
header_of m = record { holder = m.holder; moment = m.moment }

-- the kept version is the holder's own, and the one that is named; then what else is asked of it
abbrev pub kept_refusal : Header → ℕ → ℤ → Version → Option Refusal → Option Refusal
kept_refusal header at was v next = when (not (bytes_eq v.holder header.holder)) (refusal.Owner at v.holder)
    (when (not (int_le v.since was && int_le was v.since)) (refusal.Was at v.since) next)

-- the version that is to be changed is there, and right
abbrev pub change_refusal : Header → ℕ → ℤ → (Version → Option Refusal) → Option Version → Option Version → Option Refusal
change_refusal header at was next last None = Some (refusal.Unknown at (option_and_then (λ (v : Version). v.until) last))
change_refusal header at was next last (Some v) = kept_refusal header at was v (next v)

-- the begin day is later than the day of the message
abbrev pub begin_refusal : Header → ℕ → Item → Option Refusal
begin_refusal header at item = when (int_lt (day_of header.moment) item.begin) (refusal.Days at) None

-- the item is wrong by the catalogue, or its begin day is too late
abbrev pub item_refusal : Header → ℕ → Item → Option Refusal
item_refusal header at item = option_or (option_map (refusal.Item at) (item_fault item)) (begin_refusal header at item)

-- the kind is not the kept version's, or the item is wrong
abbrev pub kind_refusal : Header → ℕ → Item → Version → Option Refusal
kind_refusal header at item v
    = when (not (bytes_eq (word_of item.kind) (word_of v.item.kind))) (refusal.Kind at v.item.kind) (item_refusal header at item)

-- the end day is earlier than the kept begin day, or later than the day of the message
abbrev pub end_day_refusal : Header → ℕ → ℤ → Version → Option Refusal
end_day_refusal header at day v = when (int_lt day v.item.begin || int_lt (day_of header.moment) day) (refusal.Days at) None

-- what is wrong with one mutation of a message with this header, by its number
abbrev pub mutation_refusal : List Version → Header → ℕ → Mutation → Option Refusal
mutation_refusal versions header at (Add ident item) =
    when (not (bytes_eq (holder_of ident) header.holder)) (refusal.Prefix at)
    (when (is_some (last_of ident versions)) (refusal.Known at)
    (item_refusal header at item))
mutation_refusal versions header at (Change ident was item)
    = change_refusal header at was (kind_refusal header at item) (last_of ident versions)
    (current_of ident versions)
mutation_refusal versions header at (End ident was day)
    = change_refusal header at was (end_day_refusal header at day) (last_of ident versions)
    (current_of ident versions)

-- the shape of these rings is sound, or the mutation at this place is refused with its note
abbrev pub SoundRule : ℕ → List (List Vertex) → Rule Refusal
SoundRule at rings None = IsSoundShape rings
SoundRule at rings (Some r) = (note : ShapeNote) × IsShapeNote rings note × (r ≡ refusal.Shape at note)

-- the shape that a mutation brings is sound
abbrev pub ShapeRule : ℕ → Mutation → Rule Refusal
ShapeRule at (Add ident item) = SoundRule at item.rings
ShapeRule at (Change ident was item) = SoundRule at item.rings
ShapeRule at (End ident was day) = Is None

-- the mutations in their order, counted from 1, each with those before it
unfoldable pub MutationsRule : List Version → Message → List Mutation → List Mutation → Rule Refusal
MutationsRule versions m before [] = Is None
MutationsRule versions m before (mutation ∷ rest) =
    Is (when (has_twice before mutation) (refusal.Twice (length before + 1)) None)
    then Is (mutation_refusal versions (header_of m) (length before + 1) mutation)
    then ShapeRule (length before + 1) mutation
    then MutationsRule versions m (before ++ mutation ∷ []) rest

-- a new holder where as many holders as may be have an accepted message
abbrev pub full_holders : Limits → List LastMessage → Message → Option Refusal
full_holders limits last m = when (is_none (moment_of m.holder last) && nat_le limits.holders (length last)) (refusal.Full Holders) None

-- more current objects of the holder than may be
abbrev pub full_objects : Limits → List Version → Message → Option Refusal
full_objects limits versions m = when (nat_lt limits.objects (count_by (is_object_of m.holder) versions)) (refusal.Full Objects) None

-- the shapes are a sound area and apart from the area of each other holder, or they are refused with what is wrong
abbrev pub BlockRule : List AreaVersion → List ℕ → List (List (List Vertex)) → Rule Refusal
BlockRule areas holder shapes None = KeepsAreas areas holder shapes
BlockRule areas holder shapes (Some r) = (note : AreaNote) × IsAreaNote areas holder shapes note × (r ≡ refusal.Area note)

-- so it is with the area block, where there is one
abbrev pub AreaRule : List AreaVersion → List ℕ → Option (List (List (List Vertex))) → Rule Refusal
AreaRule areas holder None = Is None
AreaRule areas holder (Some shapes) = BlockRule areas holder shapes

-- at this moment an area of the holder may begin: its current one began earlier, and no area of any holder begins later
pub record IsFresh (areas : List AreaVersion) (holder : List ℕ) (moment : ℤ) : Type 0 where
  pub later : IfSome (find (is_area_of holder) areas) (λ a. a.since <ℤ moment)
  pub newest : IfSome (newest_area areas) (λ t. t ≤ℤ moment)

-- every point off the border edges is covered as the area says: in one ground part inside it, in none outside; or it is not so, and
-- the least border edge is named that occurs twice or whose reverse does not occur
abbrev pub TiledRule : HolderParts → Rule Refusal
TiledRule map None = IsTiled map.area (ground_of map.parts)
TiledRule map (Some r) = ¬ IsTiled map.area (ground_of map.parts) × (e : Segment) × IsLeast segment_cmp (IsUncancelled (edges_of map)) e
    × (r ≡ refusal.Tiled e)

-- the rules of a holder's new map: levels, shared vertices, the tiling
abbrev pub MapRules : HolderParts → Rule Refusal
MapRules map = LevelRule refusal.Levels map.parts
    then NodeRule refusal.Node (edges_of map)
    then TiledRule map

-- the refusal by which the register tells what is wrong with a map; lack of memory is none
abbrev pub refusal_by : MapFault → Option Refusal
refusal_by (fault.LevelOverlap first second) = Some (refusal.Levels first second)
refusal_by (fault.Node vertex edge) = Some (refusal.Node vertex edge)
refusal_by (fault.Tiled edge) = Some (refusal.Tiled edge)
refusal_by fault.NoMemory = None
