-- What is known of a message that no rule of mutations and of room refuses.
use Rattle.std.proofs.Common.{◌≡◌, ◌∙◌, ◌+◌, ◌≤◌, ℕ, refl, sym, ap, arith, inl, inr, List, [], ◌∷◌, ◌++◌, length, subst}
use Rattle.std.specs.Prelude.{ℤ, ◌≤ℤ◌, int_le, int_lt, nat_le, true, false, Bool, ◌&&◌, Option, Some, None, is_none, is_some, not, option_map}
use Rattle.std.specs.List.{All, Contains}
use Rattle.std.specs.Option.{option_or}
use Rattle.std.specs.Str.{bytes_eq}
use Rattle.std.proofs.lemmas.Bool.{cases_Bool, both_ways, leb-false}
use Rattle.std.proofs.lemmas.Int.{by_lt_z}
use Rattle.std.proofs.lemmas.List.Elements.{All-contains}
use Rattle.std.proofs.lemmas.Slice.Eq.{bytes_eq-Decides}
use Rattle.rd_plane.specs.Rule.{when}
use Rattle.rd_plane.proofs.Members.{contains_cases}
use Rattle.imgeo_types.specs.declared.item.Item.{Item}
use Rattle.imgeo_types.specs.Fields.{holder_of}
use Rattle.imgeo_types.specs.ItemRule.{item_fault}
use Rattle.imgeo_types.specs.Kinds.{word_of}
use Rattle.message_text.specs.declared.limits.Limits.{Limits}
use Rattle.message_text.specs.declared.message.Message.{Message}
use Rattle.message_text.specs.declared.message.Mutation.{Mutation}
use Rattle.message_text.specs.declared.message.Mutation.TheVariants.{Add, Change, End}
use Rattle.version_history.specs.declared.version.Version.{Version}
use Rattle.version_history.specs.Versions.{current_of, last_of}
use Rattle.map_rules.specs.declared.last.LastMessage.{LastMessage}
use Rattle.map_rules.specs.declared.refusal.Refusal.{Refusal}
use Rattle.map_rules.specs.declared.refusal.Refusal.TheVariants as refusal
use Rattle.map_rules.specs.declared.refusal.FullName.TheVariants.{Holders}
use Rattle.map_rules.specs.After.{last_after}
use Rattle.map_rules.specs.Good.{IsFine}
use Rattle.map_rules.specs.Rules.{MutationsRule, begin_refusal, change_refusal, day_of, header_of, item_refusal, kind_refusal, mutation_refusal}
use Rattle.map_rules.specs.State.{moment_of}
use Rattle.map_rules.proofs.Begun.{IsBeginning}
use Rattle.map_rules.proofs.Ruled.{when_none}
use Rattle.export_law.specs.Kept.{IsAtHome}
use Rattle.map_rules.proofs.Moments.{lt_true}

-- ---- one mutation that is not refused
pub none_refused : (vs : List Version) (m : Message) (before ms : List Mutation) → MutationsRule vs m before ms None → (x : Mutation)
    → Contains ms x
    → (at : ℕ) × (mutation_refusal vs (header_of m) at x ≡ None)
unfolding MutationsRule
none_refused vs m before [] h x c = absurd (omega (arith, c.1))
none_refused vs m before (y ∷ ms) h x c = elim (contains_cases y x ms c) [
  | inl q ↦ (length before + 1, subst (λ z. mutation_refusal vs (header_of m) (length before + 1) z ≡ None) q (sym h.1.0))
  | inr d ↦ none_refused vs m (before ++ y ∷ []) ms h.1.1.1 x d
]

or_none : (o q : Option Refusal) → option_or o q ≡ None → q ≡ None
or_none None q h = h
or_none (Some r) q h = cc

not_false : (b : Bool) → not b ≡ false → b ≡ true
not_false true e = refl
not_false false e = cc

not_after : (a b : ℤ) → int_lt a b ≡ false → b ≤ℤ a
not_after a b h = by_lt_z a b (λ l. absurd (both_ways (int_lt a b) h (lt_true a b l))) (λ l. l)

item_begins : (m : Message) (at : ℕ) (item : Item) → item_refusal (header_of m) at item ≡ None → item.begin ≤ℤ day_of m.moment
item_begins m at item h =
    let in_time = or_none (option_map (refusal.Item at) (item_fault item)) (begin_refusal (header_of m) at item) h in
    not_after (day_of m.moment) item.begin (when_none (int_lt (day_of m.moment) item.begin) (refusal.Days at) None in_time).0

changed_item : (m : Message) (at : ℕ) (was : ℤ) (item : Item) (last current : Option Version)
    → change_refusal (header_of m) at was (kind_refusal (header_of m) at item) last current ≡ None
    → item_refusal (header_of m) at item ≡ None
changed_item m at was item last None h = cc
changed_item m at was item last (Some v) h =
    let same_moment = int_le v.since was && int_le was v.since in
    let next = when (not same_moment) (refusal.Was at v.since) (kind_refusal (header_of m) at item v) in
    let owned = when_none (not (bytes_eq v.holder m.holder)) (refusal.Owner at v.holder) next h in
    let named = when_none (not same_moment) (refusal.Was at v.since) (kind_refusal (header_of m) at item v) owned.1 in
    (when_none (not (bytes_eq (word_of item.kind) (word_of v.item.kind))) (refusal.Kind at v.item.kind) (item_refusal (header_of m) at item)
    named.1).1

pub begins_in_time : (vs : List Version) (m : Message) (at : ℕ) (x : Mutation) (ident : List ℕ) (item : Item)
    → mutation_refusal vs (header_of m) at x ≡ None
    → IsBeginning x ident item → item.begin ≤ℤ day_of m.moment
begins_in_time vs m at (Add i own) ident item h b =
    let right = item_refusal (header_of m) at own in
    let home = when_none (not (bytes_eq (holder_of i) m.holder)) (refusal.Prefix at)
    (when (is_some (last_of i vs)) (refusal.Known at) right) h in
    let new = when_none (is_some (last_of i vs)) (refusal.Known at) right home.1 in
    subst (λ (y : Item). y.begin ≤ℤ day_of m.moment) b.1 (item_begins m at own new.1)
begins_in_time vs m at (Change i was own) ident item h b =
    subst (λ (y : Item). y.begin ≤ℤ day_of m.moment) b.1
    (item_begins m at own (changed_item m at was own (last_of i vs) (current_of i vs) h))
begins_in_time vs m at (End i was day) ident item h b = absurd b

pub begins_at_home : (vs : List Version) (m : Message) (at : ℕ) (x : Mutation) (ident : List ℕ) (item : Item) → All IsAtHome vs
    → IsFine vs m.holder x
    → mutation_refusal vs (header_of m) at x ≡ None → IsBeginning x ident item → holder_of ident ≡ m.holder
begins_at_home vs m at (Add i own) ident item home f h b =
    ap holder_of (sym b.0) ∙ (bytes_eq-Decides (holder_of i) m.holder).0 (not_false (bytes_eq (holder_of i) m.holder) (when_none _ _ _ h).0)
begins_at_home vs m at (Change i was own) ident item home f h b =
    ap holder_of (sym b.0 ∙ sym f.0.ident_is) ∙ (All-contains IsAtHome vs f.0.version home f.0.of ∙ f.0.own)
begins_at_home vs m at (End i was day) ident item home f h b = absurd b

-- ---- the holders that have a last moment
pub more_last : (h : List ℕ) (moment : ℤ) (last : List LastMessage) → length (last_after h moment last) ≤ length last + 1
more_last h moment [] = omega arith
more_last h moment (l ∷ last) = elim (cases_Bool (bytes_eq l.holder h)) [
  | inl t ↦ rw t (omega arith)
  | inr t ↦ rw t (let k = more_last h moment last in omega (arith, k))
]

same_last : (h : List ℕ) (moment : ℤ) (last : List LastMessage) → is_none (moment_of h last) ≡ false
    → length (last_after h moment last) ≡ length last
same_last h moment [] e = cc
same_last h moment (l ∷ last) e = elim (cases_Bool (bytes_eq l.holder h)) [
  | inl t ↦ rw t refl
  | inr t ↦ rw t (let k = same_last h moment last (rw t at e) in omega (arith, k))
]

-- no more than may be, where the register has room
pub room_left : (limits : Limits) (m : Message) (last : List LastMessage) → length last ≤ limits.holders
    → None ≡ when (is_none (moment_of m.holder last) && nat_le limits.holders (length last)) (refusal.Full Holders) None
    → length (last_after m.holder m.moment last) ≤ limits.holders
room_left limits m last old e = by (is_none (moment_of m.holder last)) refl
    (when_none (is_none (moment_of m.holder last) && nat_le limits.holders (length last)) (refusal.Full Holders) None (sym e)).0
  where
    by : (b : Bool) → is_none (moment_of m.holder last) ≡ b
        → (is_none (moment_of m.holder last) && nat_le limits.holders (length last)) ≡ false
        → length (last_after m.holder m.moment last) ≤ limits.holders
    by true q h =
        let below = leb-false limits.holders (length last) (sym (ap (λ (t : Bool). t && nat_le limits.holders (length last)) q) ∙ h) in
        let more = more_last m.holder m.moment last in
        omega (arith, below, more)
    by false q h = let same = same_last m.holder m.moment last q in omega (arith, same, old)
