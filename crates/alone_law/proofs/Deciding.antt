-- States that agree on a holder decide alike on its local messages.
use Rattle.std.proofs.Common.{◌≡◌, ℕ, refl, sym, ap, ◌∙◌, ◌+◌, inl, inr, List, [], ◌∷◌, ◌++◌, length, subst}
use Rattle.std.specs.Prelude.{true, false, Bool, ◌&&◌, ◌⊎◌, ◌≢◌, cond, nat_le, nat_lt, not, Option, Some, None, is_none, is_some}
use Rattle.std.specs.List.{All}
use Rattle.std.specs.Str.{bytes_eq}
use Rattle.std.proofs.lemmas.List.Elements.{All-head, All-tail}
use Rattle.rd_plane.specs.Plane.{Vertex}
use Rattle.rd_plane.specs.Rule.{Rule, ◌then◌, Is, when}
use Rattle.imgeo_types.specs.Fields.{holder_of}
use Rattle.message_text.specs.declared.limits.Limits.{Limits}
use Rattle.message_text.specs.declared.message.Message.{Message}
use Rattle.message_text.specs.declared.message.Mutation.{Mutation}
use Rattle.message_text.specs.declared.message.Mutation.TheVariants.{Add, Change, End}
use Rattle.version_history.specs.declared.version.Version.{Version}
use Rattle.version_history.specs.Versions.{current_of, last_of}
use Rattle.map_rules.specs.declared.refusal.Refusal.TheVariants as refusal
use Rattle.map_rules.specs.declared.refusal.FullName.TheVariants.{Objects}
use Rattle.map_rules.specs.Rules.{header_of, MutationsRule, ShapeRule, change_refusal, earlier, end_day_refusal, has_twice, ident_of, item_refusal, kind_refusal, mutation_refusal, not_later}
use Rattle.map_rules.specs.State.{State, moment_of}
use Rattle.area_book.specs.declared.version.AreaVersion.{AreaVersion}
use Rattle.area_book.specs.Areas.{newest_area}
use Rattle.local_check.specs.MapRules.{MapRule}
use Rattle.local_check.specs.Maps.{HolderParts}
use Rattle.map_rules.specs.After.{after}
use Rattle.map_rules.specs.Passing.{AreaPasses, Passes}
use Rattle.alone_law.specs.Agreeing.{AgreeOn, IsLocal}
use Rattle.alone_law.specs.Judging.{Cause, AreaRule, Judged, LaterRule, MessageRule, Through, full_holders, full_objects, no_holder_more, stale_area}
use Rattle.alone_law.specs.Judging.Cause.{by_area, by_map, by_rule}
use Rattle.alone_law.proofs.Agreeing.{agree_after, same_current, same_last, same_now, same_objects}
use Rattle.alone_law.proofs.Away.{own_names}

-- what one rule answers, the other does
abbrev pub Gives : {R : Type 0} → Rule R → Rule R → Type 0
Gives {R} first second = (a : Option R) → first a → second a

pub then_gives : {R : Type 0} {first second other last : Rule R} → Gives first other → Gives second last
    → Gives (first then second) (other then last)
then_gives f g None h = (f None h.0, g None h.1)
then_gives f g (Some r) (inl h) = inl (f (Some r) h)
then_gives f g (Some r) (inr h) = inr (f None h.0, g (Some r) h.1)

pub is_gives : {R : Type 0} (x y : Option R) → x ≡ y → Gives (Is x) (Is y)
is_gives x y e a h = h ∙ e

pub through_gives : {R S : Type 0} (told : R → S) {first second : Rule R} → Gives first second
    → Gives (Through told first) (Through told second)
through_gives told f None h = f None h
through_gives told f (Some cause) h = (h.0, f (Some h.0) h.1, h.2)

itself : {R : Type 0} (rule : Rule R) → Gives rule rule
itself rule a h = h

-- ---- mutations
module _ (m : Message) (xs ys : List Version)
    (current : (ident : List ℕ) → holder_of ident ≡ m.holder → current_of ident xs ≡ current_of ident ys)
    (last : (ident : List ℕ) → holder_of ident ≡ m.holder → last_of ident xs ≡ last_of ident ys) where
  same_fault : (at : ℕ) (x : Mutation) → holder_of (ident_of x) ≡ m.holder
      → mutation_refusal xs (header_of m) at x ≡ mutation_refusal ys (header_of m) at x
  same_fault at (Add i item) q = ap (λ (o : Option Version). when (not (bytes_eq (holder_of i) m.holder)) (refusal.Prefix at)
      (when (is_some o) (refusal.Known at) (item_refusal (header_of m) at item))) (last i q)
  same_fault at (Change i was item) q
      = ap (λ (o : Option Version). change_refusal (header_of m) at was (kind_refusal (header_of m) at item) o
      (current_of i xs)) (last i q) ∙ ap (change_refusal (header_of m) at was (kind_refusal (header_of m) at item) (last_of i ys)) (current
      i q)
  same_fault at (End i was day) q = ap (λ (o : Option Version). change_refusal (header_of m) at was (end_day_refusal (header_of m) at day) o
      (current_of i xs)) (last i q) ∙ ap (change_refusal (header_of m) at was (end_day_refusal (header_of m) at day)
      (last_of i ys)) (current i q)

  pub mutations_give : (before rest : List Mutation) → All (λ x. holder_of (ident_of x) ≡ m.holder) rest
      → Gives (MutationsRule xs m before rest) (MutationsRule ys m before rest)
  unfolding MutationsRule
  mutations_give before [] l = itself (Is None)
  mutations_give before (x ∷ rest) l =
      then_gives (itself (Is (when (has_twice before x) (refusal.Twice (length before + 1)) None)))
      (then_gives (is_gives (mutation_refusal xs (header_of m) (length before + 1) x) (mutation_refusal ys (header_of m) (length before + 1) x)
      (same_fault (length before + 1) x (All-head (λ y. holder_of (ident_of y) ≡ m.holder) x rest l)))
      (then_gives (itself (ShapeRule (length before + 1) x))
      (mutations_give (before ++ x ∷ []) rest (All-tail (λ y. holder_of (ident_of y) ≡ m.holder) x rest l))))

-- ---- all rules
module _ (limits : Limits) (s t : State) (m : Message) (a : AgreeOn m.holder s t) (l : IsLocal m.holder m) where
  pub message_gives : stale_area s.areas m ≡ stale_area t.areas m → Gives (MessageRule s m) (MessageRule t m)
  message_gives e = then_gives (is_gives (not_later m.moment (moment_of m.holder s.last)) (not_later m.moment (moment_of m.holder t.last))
      (ap (not_later m.moment) a.last))
      (then_gives (is_gives (stale_area s.areas m) (stale_area t.areas m) e)
      (mutations_give m s.versions t.versions (same_current m.holder s t a) (same_last m.holder s t a) [] m.mutations
      (own_names m.holder m refl l)))

  pub later_gives : Gives (AreaRule s.areas m.holder m.area) (AreaRule t.areas m.holder m.area)
      → Gives (LaterRule limits s m) (LaterRule limits t m)
  later_gives g = then_gives (is_gives (full_objects limits s m) (full_objects limits t m)
      (ap (λ (n : ℕ). when (nat_lt limits.objects n) (by_rule (refusal.Full Objects)) None)
      (same_objects m.holder (after s m) (after t m) (agree_after m.holder s t m a))))
      (then_gives (through_gives by_area g) (through_gives by_map
      (λ o. subst (λ (h : HolderParts). MapRule h o) (same_now m.holder (after s m) (after t m) (agree_after m.holder s t m a)))))

when_or : {A : Type 0} (b : Bool) (x : A) → (when b x None ≡ Some x) ⊎ (when b x None ≡ None)
when_or true x = inl refl
when_or false x = inr refl

-- with the same room for holders, or where that refuses neither
pub decide_alike : (limits : Limits) (s t : State) (m : Message) (answer : Option Cause) → AgreeOn m.holder s t → IsLocal m.holder m
    → m.area ≡ None
    → answer ≢ Some no_holder_more → (Judged limits t m (Some no_holder_more) → ⊥) → Judged limits s m answer → Judged limits t m answer
decide_alike limits s t m answer a l none other free j = by answer other j
  where
    early : Gives (Through by_rule (MessageRule s m)) (Through by_rule (MessageRule t m))
    early = through_gives by_rule (message_gives limits s t m a l (no_area m.area none s.areas t.areas))
      where
        no_area : (o : Option (List (List (List Vertex)))) → o ≡ None → (xs ys : List AreaVersion)
            → cond (is_some o) (earlier m.moment (newest_area xs)) None ≡ cond (is_some o) (earlier m.moment (newest_area ys)) None
        no_area None e xs ys = refl
        no_area (Some x) e xs ys = cc

    later : Gives (LaterRule limits s m) (LaterRule limits t m)
    later = later_gives limits s t m a l (block m.area none)
      where
        block : (o : Option (List (List (List Vertex)))) → o ≡ None → Gives (AreaRule s.areas m.holder o) (AreaRule t.areas m.holder o)
        block None e = itself (Is None)
        block (Some x) e = cc

    room : Through by_rule (MessageRule t m) None → None ≡ full_holders limits t m
    room e = elim (when_or (is_none (moment_of m.holder t.last) && nat_le limits.holders (length t.last)) no_holder_more) [
      | inl f ↦ absurd (free (inr (e, inl (sym f))))
      | inr f ↦ sym f
    ]

    by : (o : Option Cause) → o ≢ Some no_holder_more → Judged limits s m o → Judged limits t m o
    by None n h = let e = early None h.0 in (e, (room e, later None h.1.1))
    by (Some c) n (inl h) = inl (early (Some c) h)
    by (Some c) n (inr (e, inl f)) = absurd (n (told c (is_none (moment_of m.holder s.last) && nat_le limits.holders (length s.last)) f))
      where
        told : (c : Cause) (b : Bool) → Some c ≡ when b no_holder_more None → Some c ≡ Some no_holder_more
        told c true q = q
        told c false q = cc
    by (Some c) n (inr (e, inr f)) = let k = early None e in inr (k, inr (room k, later (Some c) f.1))

-- ---- what passes
pub judged_passes : (limits : Limits) (s : State) (m : Message) → Judged limits s m None → Passes s m
judged_passes limits s m h = record {
  fresh = sym h.0.0;
  mutations = h.0.1.1;
  area = block m.area (h.0.1.0) h.1.1.1.0;
  map = h.1.1.1.1;
}
  where
    block : (o : Option (List (List (List Vertex)))) → None ≡ cond (is_some o) (earlier m.moment (newest_area s.areas)) None
        → AreaRule s.areas m.holder o None → AreaPasses s.areas m o
    block None e r = tt
    block (Some shapes) e r = (sym e, r)

pub passing_judged : (limits : Limits) (s : State) (m : Message) → Passes s m → full_holders limits s m ≡ None
    → full_objects limits s m ≡ None
    → Judged limits s m None
passing_judged limits s m p h o = ((sym p.fresh, (stale m.area p.area, p.mutations)), (sym h, (sym o, (block m.area p.area, p.map))))
  where
    stale : (area : Option (List (List (List Vertex)))) → AreaPasses s.areas m area
        → None ≡ cond (is_some area) (earlier m.moment (newest_area s.areas)) None
    stale None a = refl
    stale (Some shapes) a = sym a.0

    block : (area : Option (List (List (List Vertex)))) → AreaPasses s.areas m area → AreaRule s.areas m.holder area None
    block None a = refl
    block (Some shapes) a = a.1
