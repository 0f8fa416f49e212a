-- A message has one decision.
use Rattle.std.proofs.Common.{◌≡◌, ◌++◌, ◌∙◌, ◌+◌, ℕ, List, [], ◌∷◌, length, Option, Some, None, ap, sym, refl}
use Rattle.rd_plane.specs.Plane.{Vertex}
use Rattle.rd_plane.specs.Shapes.{IsSoundShape}
use Rattle.part_shape.specs.declared.fault.ShapeNote.{ShapeNote}
use Rattle.part_shape.specs.Faults.{IsShapeNote}
use Rattle.message_text.specs.declared.limits.Limits.{Limits}
use Rattle.message_text.specs.declared.message.Message.{Message}
use Rattle.message_text.specs.declared.message.Mutation.{Mutation}
use Rattle.message_text.specs.declared.message.Mutation.TheVariants.{Add, Change, End}
use Rattle.area_book.specs.declared.version.AreaVersion.{AreaVersion}
use Rattle.version_history.specs.declared.version.Version.{Version}
use Rattle.map_rules.specs.declared.refusal.AreaNote.{AreaNote}
use Rattle.map_rules.specs.declared.refusal.Refusal.{Refusal}
use Rattle.map_rules.specs.declared.refusal.Refusal.TheVariants as refusal
use Rattle.map_rules.specs.After.{after}
use Rattle.map_rules.specs.Rules.{MutationsRule, SoundRule, ShapeRule, BlockRule, AreaRule}
use Rattle.map_rules.specs.State.{State, edges_of, map_now}
use Rattle.map_rules.specs.Steps.{Decision}
use Rattle.map_rules.proofs.OneArea.{no_area_note, one_area_note}
use Rattle.map_rules.proofs.OneMap.{one_levels, one_node, one_tiled}
use Rattle.map_rules.proofs.OneRule.{HasOne, one_is, one_then}

module _
    (one_note : (rings : List (List Vertex)) (note other : ShapeNote) → IsShapeNote rings note → IsShapeNote rings other → note ≡ other)
    (sound_has_none : (rings : List (List Vertex)) (note : ShapeNote) → IsSoundShape rings → ¬ IsShapeNote rings note) where
  -- a shape is sound, or refused with one note
  one_sound : (at : ℕ) (rings : List (List Vertex)) → HasOne (SoundRule at rings)
  one_sound at rings = record { same = told }
    where
      told : (a b : Option Refusal) → SoundRule at rings a → SoundRule at rings b → a ≡ b
      told None None h k = refl
      told None (Some s) h k = absurd (sound_has_none rings k.0 h k.1)
      told (Some r) None h k = absurd (sound_has_none rings h.0 k h.1)
      told (Some r) (Some s) h k
          = ap Some (h.2 ∙ (ap (λ (note : ShapeNote). refusal.Shape at note) (one_note rings h.0 k.0 h.1 k.1) ∙ sym k.2))

  one_shape : (at : ℕ) (m : Mutation) → HasOne (ShapeRule at m)
  one_shape at (Add ident item) = one_sound at item.rings
  one_shape at (Change ident was item) = one_sound at item.rings
  one_shape at (End ident was day) = one_is None

  -- the shapes of an area block keep the rules, or are refused with one note
  one_block : (areas : List AreaVersion) (holder : List ℕ) (shapes : List (List (List Vertex))) → HasOne (BlockRule areas holder shapes)
  one_block areas holder shapes = record { same = told }
    where
      told : (a b : Option Refusal) → BlockRule areas holder shapes a → BlockRule areas holder shapes b → a ≡ b
      told None None h k = refl
      told None (Some s) h k = absurd (no_area_note one_note sound_has_none areas holder shapes k.0 h k.1)
      told (Some r) None h k = absurd (no_area_note one_note sound_has_none areas holder shapes h.0 k h.1)
      told (Some r) (Some s) h k = ap Some (h.2 ∙ (ap (λ (note : AreaNote). refusal.Area note)
          (one_area_note one_note sound_has_none areas holder shapes h.0 k.0 h.1 k.1) ∙ sym k.2))

  one_area : (areas : List AreaVersion) (holder : List ℕ) (area : Option (List (List (List Vertex)))) → HasOne (AreaRule areas holder area)
  one_area areas holder None = one_is None
  one_area areas holder (Some shapes) = one_block areas holder shapes

  -- the mutations in a row have one first refusal
  pub one_mutations : (versions : List Version) (m : Message) (before rest : List Mutation) → HasOne (MutationsRule versions m before rest)
  unfolding MutationsRule
  one_mutations versions m before [] = one_is None
  one_mutations versions m before (mutation ∷ rest) =
      one_then (one_is _) (one_then (one_is _)
      (one_then (one_shape (length before + 1) mutation) (one_mutations versions m (before ++ mutation ∷ []) rest)))

  -- a message has one decision: one line a rule
  pub one_decision : (limits : Limits) (s : State) (m : Message) (a b : Option Refusal) → Decision limits s m a → Decision limits s m b
      → a ≡ b
  unfolding Decision
  one_decision limits s m = (one_then (one_is _)
      (one_then (one_is _)
      (one_then (one_mutations s.versions m [] m.mutations)
      (one_then (one_is _)
      (one_then (one_is _)
      (one_then (one_area s.areas m.holder m.area)
      (one_then (one_levels refusal.Levels (map_now m.holder (after s m)).parts)
      (one_then (one_node refusal.Node (edges_of (map_now m.holder (after s m))))
      (one_tiled (map_now m.holder (after s m))))))))))).same
