-- A ring that is a shape by itself.
use Rattle.std.proofs.Common.{◌≡◌, refl, sym, ap, arith, zero, suc, List, [], ◌∷◌, ◌++◌, ◌∙◌, subst}
use Rattle.std.specs.Prelude.{pos, negsuc, ◌↔◌, Bool, true, false}
use Rattle.std.specs.List.{All}
use Rattle.std.proofs.lemmas.Bool.{true≢false}
use Rattle.std.proofs.lemmas.List.{append-nil}
use Rattle.rd_plane.specs.Plane.{Vertex}
use Rattle.rd_plane.specs.Shapes.{HasCorners, MeetsInTurn, IsSoundShape, WindsBy, ring_edges}
use Rattle.rd_plane.specs.declared.turn.Turn.{Turn}
use Rattle.rd_plane.specs.declared.turn.Turn.TheVariants.{Left, Straight, Right}
use Rattle.rd_plane.proofs.Polynomials.{linear}
use Rattle.ring_law.specs.Turns.{TurnsAtLeast, WindsSome}
use Rattle.ring_law.proofs.AtLeast.{never_on, runs_back, runs_so}
use Rattle.slab_wind.specs.Wounds.{IsWoundWrongly}
use Rattle.part_shape.specs.declared.fault.ShapeNote.TheVariants as note
use Rattle.part_shape.specs.Faults.{RingsApart, IsShapeNote, IsSimple}
use Rattle.part_shape.proofs.OneFault.{sound_no_note}
use Rattle.part_shape.proofs.Turns.{one_left_sound}

-- one ring alone
pub one_simple : (ring : List Vertex) → IsSimple ring → All IsSimple (ring ∷ [])
one_simple ring s zero d h = s
one_simple ring s (suc k) d h = absurd (omega (arith, h))

one_apart : (ring : List Vertex) → RingsApart (ring ∷ [])
one_apart ring i j d h k = absurd (omega (arith, h, k))

pub single_sound : (ring : List Vertex) → IsSimple ring → WindsBy (pos 1) (ring_edges ring) → IsSoundShape (ring ∷ [])
single_sound ring s w = one_left_sound (ring ∷ []) ring refl refl (one_simple ring s) w

wound_so : (ring : List Vertex) → IsSimple ring → WindsSome (negsuc 0) (ring_edges ring) → IsShapeNote (ring ∷ []) note.Wound
wound_so ring s w = (
  one_simple ring s,
  one_apart ring,
  (
    w.at,
    subst (λ es. IsWoundWrongly es w.at) (sym (append-nil (ring_edges ring))) (record {
      off_edges = w.off_edges;
      not_zero = λ q. omega (arith, linear, q, w.wound);
      not_one = λ q. omega (arith, linear, q, w.wound);
    }),
  ),
)

pub wound_where_right : (ring : List Vertex) (turn : Turn) → IsSimple ring → TurnsAtLeast ring turn → IsShapeNote (ring ∷ []) note.Wound
    ↔ (turn ≡ Right)
wound_where_right ring Left s t = (
  λ w. absurd
      (sound_no_note (ring ∷ []) note.Wound (single_sound ring s (runs_so ring s.corners s.in_turn t).0) w),
  λ q. absurd (other q),
)
  where
    is_left : Turn → Bool
    is_left Left = true
    is_left Straight = false
    is_left Right = false

    other : Left ≡ Right → ⊥
    other q = true≢false (ap is_left q)
wound_where_right ring Straight s t = never_on ring s.corners s.in_turn t
wound_where_right ring Right s t = (λ _. refl, λ _. wound_so ring s (runs_back ring s.corners s.in_turn t).1)

-- what the code has put into a list
pub single_built : (ring item held seen : List Vertex) (before after : List (List Vertex)) → after ≡ before ++ item ∷ [] → before ≡ []
    → item ≡ ring → held ≡ ring → seen ≡ ring → HasCorners held × MeetsInTurn held → WindsBy (pos 1) (ring_edges seen) → IsSoundShape after
single_built ring item held seen before after q b i h s k w
    = subst IsSoundShape (sym (q ∙ (ap (λ l. l ++ item ∷ []) b ∙ ap (λ r. r ∷ []) i)))
    (single_sound ring (record { corners = (rw h at k).0; in_turn = (rw h at k).1 }) (subst (λ r. WindsBy (pos 1) (ring_edges r)) s w))
