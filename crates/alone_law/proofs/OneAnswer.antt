-- A message has one decision.
use Rattle.std.proofs.Common.{◌≡◌, ℕ, ◌++◌, ◌∙◌, ◌+◌, List, [], ◌∷◌, length, Option, Some, None, ap, sym, refl}
use Rattle.rd_plane.specs.Plane.{Vertex}
use Rattle.rd_plane.specs.Shapes.{IsSoundShape}
use Rattle.part_shape.specs.declared.fault.ShapeNote.{ShapeNote}
use Rattle.part_shape.specs.Faults.{IsShapeNote}
use Rattle.message_text.specs.declared.limits.Limits.{Limits}
use Rattle.message_text.specs.declared.message.Message.{Message}
use Rattle.message_text.specs.declared.message.Mutation.{Mutation}
use Rattle.message_text.specs.declared.message.Mutation.TheVariants.{Add, Change, End}
use Rattle.version_history.specs.declared.version.Version.{Version}
use Rattle.map_rules.specs.declared.refusal.Refusal.{Refusal}
use Rattle.map_rules.specs.declared.refusal.Refusal.TheVariants as refusal
use Rattle.map_rules.specs.Rules.{MutationsRule, SoundRule, ShapeRule}
use Rattle.map_rules.specs.After.{after}
use Rattle.map_rules.specs.State.{State, map_now}
use Rattle.alone_law.specs.Judging.{Cause, AreaRule, Judged}
use Rattle.alone_law.proofs.OneArea.{one_shapes}
use Rattle.alone_law.proofs.OneRule.{one_map, one_through}
use Rattle.map_rules.proofs.OneDecision.{one_mutations}
use Rattle.map_rules.proofs.OneRule.{HasOne, one_is, one_then}
use Rattle.alone_law.specs.Judging.Cause.{by_area, by_map, by_rule}

-- ---- all rules
module _
    (one_note : (rings : List (List Vertex)) (note other : ShapeNote) → IsShapeNote rings note → IsShapeNote rings other → note ≡ other)
    (sound_has_none : (rings : List (List Vertex)) (note : ShapeNote) → IsSoundShape rings → ¬ IsShapeNote rings note) where
  one_block : (s : State) (m : Message) (area : Option (List (List (List Vertex)))) → HasOne (AreaRule s.areas m.holder area)
  one_block s m None = one_is None
  one_block s m (Some shapes) = one_shapes one_note sound_has_none s.areas m.holder shapes

  pub one_answer : (limits : Limits) (s : State) (m : Message) (a b : Option Cause) → Judged limits s m a → Judged limits s m b → a ≡ b
  one_answer limits s m a b h k = (one_then (one_through by_rule
      (one_then (one_is _) (one_then (one_is _) (one_mutations one_note sound_has_none s.versions m [] m.mutations))))
      (one_then (one_is _) (one_then (one_is _) (one_then (one_through by_area (one_block s m m.area))
      (one_through by_map (one_map (map_now m.holder (after s m)))))))).same a b h k
