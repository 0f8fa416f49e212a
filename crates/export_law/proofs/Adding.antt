-- Additions that no rule of mutations refuses.
use Rattle.std.proofs.Common.{◌≡◌, ◌≢◌, ◌∙◌, ◌+◌, ℕ, refl, sym, ap, inl, inr, List, [], ◌∷◌, ◌++◌, length, map, reverse}
use Rattle.std.specs.Prelude.{◌≤ℤ◌, int_lt, true, false, Bool, None}
use Rattle.std.specs.List.{AllPairs, Contains, flat_map}
use Rattle.std.specs.Str.{bytes_eq}
use Rattle.std.proofs.lemmas.Bool.{cases_Bool}
use Rattle.std.proofs.lemmas.List.Elements.{All-contains}
use Rattle.std.proofs.lemmas.List.Folds.{list_any-append}
use Rattle.std.proofs.lemmas.List.Sorted.{Contains-permutation, IsPermutation-reverse, IsPermutation-sym}
use Rattle.std.proofs.lemmas.Slice.Eq.{bytes_eq-Decides}
use Rattle.rd_plane.specs.Rule.{when}
use Rattle.rd_plane.specs.Shapes.{IsSoundShape}
use Rattle.rd_plane.proofs.Members.{contains_head, contains_tail}
use Rattle.imgeo_types.specs.declared.item.Item.{Item}
use Rattle.imgeo_types.specs.Fields.{holder_of}
use Rattle.imgeo_types.specs.ItemRule.{item_fault}
use Rattle.message_text.specs.declared.message.Message.{Message}
use Rattle.message_text.specs.declared.message.Mutation.{Mutation}
use Rattle.message_text.specs.declared.message.Mutation.TheVariants.{Add}
use Rattle.version_history.specs.declared.version.Version.{Version}
use Rattle.version_history.specs.Versions.{has_ident, last_of}
use Rattle.level_rules.specs.declared.item.LevelItem.{LevelItem}
use Rattle.map_rules.specs.declared.refusal.Refusal.TheVariants as refusal
use Rattle.map_rules.specs.Changes.{coming_by}
use Rattle.map_rules.specs.Rules.{MutationsRule, day_of, has_twice, header_of, ident_of, mutation_refusal}
use Rattle.map_rules.specs.State.{part_of}
use Rattle.map_rules.proofs.Lists.{pairs_head, pairs_tail}
use Rattle.map_rules.proofs.Moments.{lt_false}
use Rattle.export_law.proofs.Members.{Search, search_of}
use Rattle.export_law.proofs.Members.Search.{hit, missed}
use Rattle.export_law.proofs.Exporting.{addition}

-- what differs is not byte for byte the same
pub apart : (a b : List ℕ) → a ≢ b → bytes_eq a b ≡ false
apart a b d = elim (cases_Bool (bytes_eq a b)) [ inl t ↦ absurd (d ((bytes_eq-Decides a b).0 t)) | inr t ↦ t ]

-- ---- one addition
-- an identification that no version has was never used
pub never_used : (vs : List Version) (ident : List ℕ) → ((v : Version) → Contains vs v → v.ident ≢ ident) → last_of ident vs ≡ None
never_used vs ident free = by (search_of (has_ident ident) (reverse vs))
  where
    by : Search (has_ident ident) (reverse vs) → last_of ident vs ≡ None
    by (missed e n) = e
    by (hit v e c h) =
        let of = Contains-permutation (reverse vs) vs v (IsPermutation-sym vs (reverse vs) (IsPermutation-reverse vs)) c in
        absurd (free v of ((bytes_eq-Decides v.ident ident).0 h))

pub addition_passes : (vs : List Version) (m : Message) (at : ℕ) (ident : List ℕ) (item : Item) → holder_of ident ≡ m.holder
    → last_of ident vs ≡ None
    → item_fault item ≡ None → item.begin ≤ℤ day_of m.moment → mutation_refusal vs (header_of m) at (Add ident item) ≡ None
addition_passes vs m at ident item home new right began =
    let own : bytes_eq (holder_of ident) m.holder ≡ true = (bytes_eq-Decides (holder_of ident) m.holder).1 home in
    let in_time : int_lt (day_of m.moment) item.begin ≡ false = lt_false (day_of m.moment) item.begin began in
    rw (own, new, right, in_time) refl

-- ---- additions in a row
abbrev Differ : Version → Version → Type 0
Differ v w = v.ident ≢ w.ident

-- what is asked of a version, so that it is a right addition
pub record IsRightAddition (vs : List Version) (m : Message) (w : Version) : Type 0 where
  pub passes : (at : ℕ) → mutation_refusal vs (header_of m) at (addition w) ≡ None
  pub sound : IsSoundShape w.item.rings

not_twice : (before : List Mutation) (v w : Version) → has_twice before (addition w) ≡ false → Differ v w
    → has_twice (before ++ addition v ∷ []) (addition w) ≡ false
not_twice before v w e d =
    let other : bytes_eq v.ident w.ident ≡ false = apart v.ident w.ident d in
    list_any-append (λ x. bytes_eq (ident_of x) w.ident) before (addition v ∷ []) ∙ rw (e, other) refl

pub additions_pass : (vs : List Version) (m : Message) (before : List Mutation) (ws : List Version)
    → ((w : Version) → Contains ws w → IsRightAddition vs m w)
    → ((w : Version) → Contains ws w → has_twice before (addition w) ≡ false) → AllPairs Differ ws
    → MutationsRule vs m before (map addition ws) None
unfolding MutationsRule
additions_pass vs m before [] right new differ = refl
additions_pass vs m before (w ∷ ws) right new differ = (
  sym (ap (λ (b : Bool). when b (refusal.Twice (length before + 1)) None) (new w (contains_head w ws))),
  (
    sym ((right w (contains_head w ws)).passes (length before + 1)),
    (
      (right w (contains_head w ws)).sound,
      additions_pass vs m (before ++ addition w ∷ []) ws (λ v c. right v (contains_tail w v ws c))
          (λ v c. not_twice before w v (new v (contains_tail w v ws c)) (All-contains (Differ w) ws v (pairs_head Differ w ws differ) c))
          (pairs_tail Differ w ws differ),
    ),
  ),
)

pub coming_are : (ws : List Version) → flat_map coming_by (map addition ws) ≡ map part_of ws
coming_are [] = refl
coming_are (w ∷ ws) = ap (λ (l : List LevelItem). part_of w ∷ l) (coming_are ws)
