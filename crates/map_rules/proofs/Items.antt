-- Items that are right stay so through a message, those that a message brings are right where it is not refused, and no holder gets
-- more objects than it may.
use Rattle.std.proofs.Common.{◌≡◌, refl, sym, Bool, true, false, List, [], ◌∷◌, ◌++◌, ◌+◌, ◌∙◌, ◌≢◌, length, map, arith, subst, inl, inr}
use Rattle.std.specs.Prelude.{ℕ, ℤ, ◌≤◌, nat_lt, Option, Some, None, cond, count_by, filter, option_map, is_some, not, ◌&&◌, int_le}
use Rattle.std.proofs.lemmas.Bool.{cases_Bool, both_ways, ltb-false}
use Rattle.std.proofs.lemmas.List.{length-map}
use Rattle.std.proofs.lemmas.List.Sums.{length-filter}
use Rattle.std.proofs.lemmas.Slice.Eq.{bytes_eq-Decides}
use Rattle.std.specs.List.{All, flat_map}
use Rattle.std.proofs.lemmas.List.Elements.{All-tail, All-append, All-cons}
use Rattle.std.specs.Str.{bytes_eq}
use Rattle.message_text.specs.declared.limits.Limits.{Limits}
use Rattle.message_text.specs.declared.message.Message.{Message}
use Rattle.message_text.specs.declared.message.Mutation.{Mutation}
use Rattle.message_text.specs.declared.message.Mutation.TheVariants.{Add, Change, End}
use Rattle.rd_plane.specs.Rule.{when}
use Rattle.imgeo_types.specs.declared.item.Item.{Item}
use Rattle.imgeo_types.specs.declared.fault.ItemFault.{ItemFault}
use Rattle.imgeo_types.specs.ItemRule.{item_fault}
use Rattle.imgeo_types.specs.Fields.{holder_of}
use Rattle.imgeo_types.specs.Kinds.{word_of}
use Rattle.std.specs.Option.{option_or}
use Rattle.version_history.specs.declared.version.Version.{Version}
use Rattle.version_history.specs.Versions.{is_current_of, ended, ended_if, new_version, last_of, current_of}
use Rattle.map_rules.specs.After.{touched, touched_by, begun, versions_after, after}
use Rattle.map_rules.specs.SoundVersions.{HasRightItem}
use Rattle.map_rules.specs.Rules.{header_of, MutationsRule, mutation_refusal, change_refusal, kind_refusal, begin_refusal, item_refusal}
use Rattle.map_rules.specs.declared.refusal.Refusal.{Refusal}
use Rattle.map_rules.specs.declared.refusal.Refusal.TheVariants as refusal
use Rattle.map_rules.specs.declared.refusal.FullName.TheVariants.{Objects}
use Rattle.map_rules.specs.Good.{IsSound}
use Rattle.local_check.specs.Maps.{HolderParts}
use Rattle.map_rules.specs.State.{State, is_object_of, opening, part_of, parts_now}
use Rattle.map_rules.specs.Steps.{Decision}
use Rattle.map_rules.proofs.Dating.{All-changed}
use Rattle.map_rules.proofs.Ends.{good_opening}
use Rattle.map_rules.proofs.Stepping.{others_stay, passes, step_good, taken}

-- the item that a mutation brings has Q
abbrev pub Brings : (Item → Type 0) → Mutation → Type 0
Brings Q (Add ident item) = Q item
Brings Q (Change ident was item) = Q item
Brings Q (End ident was day) = Unit {0}

-- it has no fault
abbrev pub BringsRight : Mutation → Type 0
BringsRight = Brings (λ item. item_fault item ≡ None)

-- no fault of an item is told
no_fault : (at : ℕ) (o : Option ItemFault) (next : Option Refusal) → option_or (option_map (refusal.Item at) o) next ≡ None → o ≡ None
no_fault at None next h = refl
no_fault at (Some fault) next h = cc

-- a test that gives no answer leaves the next one
left : (t : Bool) (r : Refusal) (next : Option Refusal) → when t r next ≡ None → next ≡ None
left true r next h = cc
left false r next h = h

change_right : (m : Message) (at : ℕ) (was : ℤ) (item : Item) (last current : Option Version)
    → change_refusal (header_of m) at was (kind_refusal (header_of m) at item) last current ≡ None → item_fault item ≡ None
change_right m at was item last None h = cc
change_right m at was item last (Some v) h =
    no_fault at (item_fault item) (begin_refusal (header_of m) at item)
    (left (not (bytes_eq (word_of item.kind) (word_of v.item.kind))) (refusal.Kind at v.item.kind) (item_refusal (header_of m) at item)
    (left (not (int_le v.since was && int_le was v.since)) (refusal.Was at v.since) (kind_refusal (header_of m) at item v)
    (left (not (bytes_eq v.holder m.holder)) (refusal.Owner at v.holder) _ h)))

brings_right : (vs : List Version) (m : Message) (at : ℕ) (mutation : Mutation) → mutation_refusal vs (header_of m) at mutation ≡ None
    → BringsRight mutation
brings_right vs m at (Add ident item) h =
    no_fault at (item_fault item) (begin_refusal (header_of m) at item)
    (left (is_some (last_of ident vs)) (refusal.Known at) (item_refusal (header_of m) at item)
    (left (not (bytes_eq (holder_of ident) m.holder)) (refusal.Prefix at) _ h))
brings_right vs m at (Change ident was item) h = change_right m at was item (last_of ident vs) (current_of ident vs) h
brings_right vs m at (End ident was day) h = tt

-- mutations that are not refused bring right items
mutations_right : (vs : List Version) (m : Message) (before ms : List Mutation) → MutationsRule vs m before ms None → All BringsRight ms
unfolding MutationsRule
mutations_right vs m before [] h = λ k d within. absurd (omega arith)
mutations_right vs m before (mutation ∷ rest) h =
    All-cons BringsRight mutation rest (brings_right vs m (length before + 1) mutation (sym h.1.0))
    (mutations_right vs m (before ++ mutation ∷ []) rest h.1.1.1)

module _ (Q : Item → Type 0) where
  -- the item of the version has it
  abbrev Has : Version → Type 0
  Has v = Q v.item

  ended_if-has : (ident : List ℕ) (until : ℤ) (day : Option ℤ) (v : Version) → Has v → Has (ended_if ident until day v)
  ended_if-has ident until day v h
      = elim (is_current_of ident v) as (λ (t : Bool). Has (cond t (ended until day v) v)) [ true ↦ h | false ↦ h ]

  touched-has : (moment : ℤ) (m : Mutation) (v : Version) → Has v → Has (touched moment m v)
  touched-has moment (Add ident item) v h = h
  touched-has moment (Change ident was item) v h = ended_if-has ident moment None v h
  touched-has moment (End ident was day) v h = ended_if-has ident moment (Some day) v h

  touched_by-has : (moment : ℤ) (ms : List Mutation) (v : Version) → Has v → Has (touched_by moment ms v)
  touched_by-has moment [] v h = h
  touched_by-has moment (m ∷ ms) v h = touched_by-has moment ms (touched moment m v) (touched-has moment m v h)

  begun-has : (holder : List ℕ) (moment : ℤ) (ms : List Mutation) → All (Brings Q) ms → All Has (flat_map (begun holder moment) ms)
  begun-has holder moment [] all = λ k d within. absurd (omega arith)
  begun-has holder moment (Add ident item ∷ ms) all
      = All-cons Has (new_version holder ident item moment) _ (all 0 (Add ident item) (omega arith))
      (begun-has holder moment ms (All-tail (Brings Q) (Add ident item) ms all))
  begun-has holder moment (Change ident was item ∷ ms) all = All-cons Has (new_version holder ident item moment) _
      (all 0 (Change ident was item) (omega arith)) (begun-has holder moment ms (All-tail (Brings Q) (Change ident was item) ms all))
  begun-has holder moment (End ident was day ∷ ms) all = begun-has holder moment ms (All-tail (Brings Q) (End ident was day) ms all)

  -- the versions that a message leaves have it
  have_after : (holder : List ℕ) (moment : ℤ) (ms : List Mutation) (vs : List Version) → All Has vs → All (Brings Q) ms
      → All Has (versions_after holder moment ms vs)
  have_after holder moment ms vs old new =
      All-append Has (map (touched_by moment ms) vs) (flat_map (begun holder moment) ms)
      (All-changed Has Has (touched_by moment ms) (touched_by-has moment ms) vs old) (begun-has holder moment ms new)

-- the versions that a message leaves have right items
versions_right_after : (holder : List ℕ) (moment : ℤ) (ms : List Mutation) (vs : List Version) → All HasRightItem vs → All BringsRight ms
    → All HasRightItem (versions_after holder moment ms vs)
versions_right_after = have_after (λ item. item_fault item ≡ None)

-- a test that gives no answer failed, so the number is within the limit
pub within : (limit n : ℕ) (r : Refusal) → None ≡ when (nat_lt limit n) r None → n ≤ limit
within limit n r e = elim (cases_Bool (nat_lt limit n)) [
  | inl t ↦ let k : None ≡ when true r None = rw t at e in cc
  | inr t ↦ ltb-false limit n t
]

-- the opening state is sound
pub sound_opening : (limits : Limits) → IsSound limits opening
sound_opening limits = record { good = good_opening; items = λ k d l. absurd (omega (arith, l)); few = λ h. omega arith }

-- the state that a message leaves is sound, where the message is not refused
pub sound_after : (limits : Limits) (s : State) (m : Message) → IsSound limits s → Decision limits s m None → IsSound limits (after s m)
unfolding Decision
sound_after limits s m old d = record {
  good = step_good limits s m old.good d;
  items = versions_right_after m.holder m.moment m.mutations s.versions old.items (mutations_right s.versions m [] m.mutations d.1.1.0);
  few = few;
}
  where
    own : length (parts_now m.holder (after s m).versions) ≤ limits.objects
    own = subst (λ (n : ℕ). n ≤ limits.objects) (sym (length-map (filter (is_object_of m.holder) (after s m).versions)
        part_of ∙ length-filter (is_object_of m.holder) (after s m).versions))
        (within limits.objects (count_by (is_object_of m.holder) (after s m).versions) (refusal.Full Objects) d.1.1.1.1.0)

    others : (h : List ℕ) → h ≢ m.holder → length (parts_now h (after s m).versions) ≤ limits.objects
    others h q = subst (λ (x : HolderParts). length x.parts ≤ limits.objects)
        (sym (others_stay s m old.good (taken s m old.good (passes limits s m old.good d)) h q)) (old.few h)

    few : (h : List ℕ) → length (parts_now h (after s m).versions) ≤ limits.objects
    few h = elim (cases_Bool (bytes_eq h m.holder)) [
      | inl t ↦ subst (λ (x : List ℕ). length (parts_now x (after s m).versions) ≤ limits.objects) (sym ((bytes_eq-Decides h m.holder).0 t))
          own
      | inr t ↦ others h (λ q. both_ways (bytes_eq h m.holder) t ((bytes_eq-Decides h m.holder).1 q))
    ]
