-- A holder's own messages, taken again without the others.
use Rattle.std.proofs.Common.{◌≡◌, ℕ, refl, sym, ap, ◌∙◌, arith, ◌<◌, ◌≤◌, ◌+◌, inl, inr, suc, List, [], ◌∷◌, length, map, subst}
use Rattle.std.specs.Prelude.{ℤ, ◌≤ℤ◌, int_lt, nat_le, nat_lt, true, false, Bool, ◌&&◌, ◌≢◌, cond, filter, find, fold, Option, Some, None, IfSome, is_none, is_some, option_map, unwrap_or, Ok}
use Rattle.std.specs.List.{All, position_from}
use Rattle.std.specs.Str.{bytes_eq}
use Rattle.std.proofs.lemmas.Bool.{cases_Bool, both_ways, leb-false, lt-leb}
use Rattle.std.proofs.lemmas.Int.{by_lt_z, clamps}
use Rattle.std.proofs.lemmas.List.Elements.{All-append, All-contains, All-cons, All-head, All-nil, All-tail}
use Rattle.std.proofs.lemmas.Slice.Eq.{bytes_eq-Decides}
use Rattle.rd_plane.proofs.Polynomials.{linear}
use Rattle.rd_plane.specs.Covering.{AreApart}
use Rattle.rd_plane.specs.Plane.{Vertex}
use Rattle.message_text.specs.declared.limits.Limits.{Limits}
use Rattle.message_text.specs.declared.message.Message.{Message}
use Rattle.rd_plane.specs.Rule.{when}
use Rattle.map_rules.specs.declared.last.LastMessage.{LastMessage}
use Rattle.map_rules.specs.declared.refusal.Refusal.TheVariants as refusal
use Rattle.map_rules.specs.declared.refusal.FullName.TheVariants.{Objects}
use Rattle.map_rules.specs.After.{after, areas_after, last_after}
use Rattle.map_rules.specs.Rules.{earlier, not_later}
use Rattle.map_rules.specs.State.{State, moment_of, opening}
use Rattle.area_book.specs.declared.version.AreaVersion.{AreaVersion}
use Rattle.area_book.specs.Areas.{area_ended, is_area_of, later_of, new_area, newest_area}
use Rattle.area_book.proofs.Holders.{apart_from_none}
use Rattle.local_check.specs.MapRules.{MapRule}
use Rattle.local_check.specs.Maps.{HolderParts}
use Rattle.map_rules.specs.Good.{Good}
use Rattle.map_rules.proofs.Lists.{all_mapped}
use Rattle.map_rules.proofs.Stepping.{passed_good}
use Rattle.map_rules.proofs.Moments.{lt_false, lt_true}
use Rattle.alone_law.specs.Agreeing.{AgreeOn, AreAtHome, IsAtHome, IsLocal, is_area_version, is_foreign}
use Rattle.alone_law.specs.Folding.{Replays}
use Rattle.alone_law.specs.Judging.{Cause, AreaRule, Judged, no_holder_more}
use Rattle.alone_law.specs.Judging.Cause.{by_rule}
use Rattle.alone_law.specs.Replaying.{IsHolderAlone, IsReplay, LookAlike, Opens, Takes, own_messages, replayed}
use Rattle.alone_law.specs.Running.{is_message_of}
use Rattle.alone_law.proofs.Agreeing.{agree_after, agree_back, agree_itself, agree_then, ended-version, look_alike, same_current, same_last, same_now, same_objects}
use Rattle.alone_law.proofs.Away.{differs, home_after, others_left, own_names}
use Rattle.alone_law.proofs.Deciding.{judged_passes, mutations_give}
use Rattle.alone_law.proofs.Folding.{KeepsBeside, alone as taken_along}
use Rattle.alone_law.proofs.Isolated.{not_own}

abbrev Shapes : Type 0
Shapes = List (List (List Vertex))

-- ---- the greatest moment of fewer versions is no later
abbrev UpTo : ℤ → Option ℤ → Type 0
UpTo m o = IfSome o (λ t. t ≤ℤ m)

abbrev later : Option ℤ → AreaVersion → Option ℤ
later latest a = later_of latest a.since

both_up : (m : ℤ) (o : Option ℤ) (t : ℤ) → UpTo m (later_of o t) → UpTo m o × (t ≤ℤ m)
both_up m None t h = (tt, h)
both_up m (Some u) t h = least u t m h
  where
    least : (u t m : ℤ) → cond (int_lt u t) t u ≤ℤ m → (u ≤ℤ m) × (t ≤ℤ m)
    least u t m h = (omega (arith, linear, clamps, h), omega (arith, linear, clamps, h))

up_both : (m : ℤ) (o : Option ℤ) (t : ℤ) → UpTo m o → t ≤ℤ m → UpTo m (later_of o t)
up_both m None t h l = l
up_both m (Some u) t h l = most u t m h l
  where
    most : (u t m : ℤ) → u ≤ℤ m → t ≤ℤ m → cond (int_lt u t) t u ≤ℤ m
    most u t m h l = omega (arith, linear, clamps, h, l)

fewer_up : (m : ℤ) (p : AreaVersion → Bool) (xs : List AreaVersion) (o q : Option ℤ) → (UpTo m o → UpTo m q) → UpTo m (fold later o xs)
    → UpTo m (fold later q (filter p xs))
fewer_up m p [] o q f h = f h
fewer_up m p (x ∷ xs) o q f h = elim (cases_Bool (p x)) [
  | inl t ↦ subst (λ (b : Bool). UpTo m (fold later q (cond b (x ∷ filter p xs) (filter p xs)))) (sym t)
      (fewer_up m p xs (later o x) (later q x) (λ k. let both = both_up m o x.since k in up_both m q x.since (f both.0) both.1) h)
  | inr t ↦ subst (λ (b : Bool). UpTo m (fold later q (cond b (x ∷ filter p xs) (filter p xs)))) (sym t)
      (fewer_up m p xs (later o x) q (λ k. f (both_up m o x.since k).0) h)
]

not_early : (m : ℤ) (o : Option ℤ) → None ≡ earlier m o → UpTo m o
not_early m None e = tt
not_early m (Some k) e = by_lt_z m k (λ l. absurd (both_ways (int_lt m k) (fails (int_lt m k) e) (lt_true m k l))) (λ l. l)
  where
    fails : (b : Bool) → None ≡ when b (refusal.Stale k) None → b ≡ false
    fails true e = cc
    fails false e = refl

early_not : (m : ℤ) (o : Option ℤ) → UpTo m o → None ≡ earlier m o
early_not m None l = refl
early_not m (Some k) l = rw (lt_false m k l) refl

-- ---- fewer holders
room_less : (b : Bool) (n k l : ℕ) (c : Cause) → l ≤ k → None ≡ when (b && nat_le n k) c None → None ≡ when (b && nat_le n l) c None
room_less false n k l c h e = refl
room_less true n k l c h e = let lt : k < n = leb-false n k (fails (nat_le n k) e) in rw (lt-leb n l (omega (arith, h, lt))) refl
  where
    fails : (b : Bool) → None ≡ when b c None → b ≡ false
    fails true e = cc
    fails false e = refl

last_length : (h : List ℕ) (moment : ℤ) (last : List LastMessage)
    → length (last_after h moment last) ≡ cond (is_none (moment_of h last)) (length last + 1) (length last)
last_length h moment [] = refl
last_length h moment (l ∷ last) = elim (cases_Bool (bytes_eq l.holder h)) [
  | inl t ↦ rw t refl
  | inr t ↦ rw t (step (is_none (moment_of h last)) (length (last_after h moment last)) (length last) (last_length h moment last))
]
  where
    step : (b : Bool) (n k : ℕ) → n ≡ cond b (k + 1) k → suc n ≡ cond b (suc k + 1) (suc k)
    step true n k e = omega (arith, e)
    step false n k e = omega (arith, e)

grows : (b : Bool) (n k : ℕ) → n ≡ cond b (k + 1) k → k ≤ n
grows true n k e = omega (arith, e)
grows false n k e = omega (arith, e)

grow_alike : (b : Bool) (n k i j : ℕ) → n ≡ cond b (k + 1) k → i ≡ cond b (j + 1) j → j ≤ k → i ≤ n
grow_alike true n k i j e f l = omega (arith, e, f, l)
grow_alike false n k i j e f l = omega (arith, e, f, l)

-- ---- the state that has the holder alone
pub record IsAlone (h : List ℕ) (s t : State) : Type 0 where
  pub areas : All (λ (a : AreaVersion). is_area_version h a ≡ true) t.areas
  pub few : length t.last ≤ length s.last

kept_all : {X : Type 0} (p : X → Bool) (xs : List X) → All (λ x. p x ≡ true) xs → filter p xs ≡ xs
kept_all p [] a = refl
kept_all {X} p (x ∷ xs) a = ap (λ (b : Bool). cond b (x ∷ filter p xs) (filter p xs))
    (All-head (λ y. p y ≡ true) x xs a) ∙ ap (λ (l : List X). x ∷ l) (kept_all p xs (All-tail (λ y. p y ≡ true) x xs a))

no_other : (h k : List ℕ) (areas : List AreaVersion) → k ≢ h → All (λ (a : AreaVersion). is_area_version h a ≡ true) areas
    → find (is_area_of k) areas ≡ None
no_other h k [] d a = refl
no_other h k (x ∷ areas) d a =
    let n : bytes_eq x.holder k ≡ false = differs x.holder k
    (λ q. d (sym q ∙ (bytes_eq-Decides x.holder h).0 (All-head (λ (y : AreaVersion). is_area_version h y ≡ true) x areas a))) in
    ap (λ (b : Bool). cond (b && is_none x.until) (Some x) (find (is_area_of k) areas)) n ∙ no_other h k areas d
    (All-tail (λ (y : AreaVersion). is_area_version h y ≡ true) x areas a)

module _ (limits : Limits) (s t : State) (m : Message) (a : AgreeOn m.holder s t) (alone : IsAlone m.holder s t) (l : IsLocal m.holder m)
  where
    areas_are : filter (is_area_version m.holder) s.areas ≡ t.areas
    areas_are = a.areas ∙ kept_all (is_area_version m.holder) t.areas alone.areas

    not_stale : (area : Option Shapes) → None ≡ cond (is_some area) (earlier m.moment (newest_area s.areas)) None
        → None ≡ cond (is_some area) (earlier m.moment (newest_area t.areas)) None
    not_stale None e = refl
    not_stale (Some shapes) e = early_not m.moment (newest_area t.areas) (subst (λ (xs : List AreaVersion). UpTo m.moment (newest_area xs))
        areas_are (fewer_up m.moment (is_area_version m.holder) s.areas None None (λ u. u) (not_early m.moment (newest_area s.areas) e)))

    keeps_areas : (area : Option Shapes) → AreaRule s.areas m.holder area None → AreaRule t.areas m.holder area None
    keeps_areas None e = e
    keeps_areas (Some shapes) e = record {
      sound = e.sound;
      apart = λ k d. subst (λ (o : Option AreaVersion). AreApart shapes (unwrap_or (option_map (λ (x : AreaVersion). x.shapes) o) []))
          (sym (no_other m.holder k t.areas d alone.areas)) (apart_from_none shapes);
    }

    agree_then_after : AgreeOn m.holder (after s m) (after t m)
    agree_then_after = agree_after m.holder s t m a

    pub taken_alone : Judged limits s m None → Judged limits t m None
    taken_alone h = (
      (
        h.0.0 ∙ ap (not_later m.moment) a.last,
        (
          not_stale m.area h.0.1.0,
          mutations_give m s.versions t.versions (same_current m.holder s t a) (same_last m.holder s t a) [] m.mutations
              (own_names m.holder m refl l) None h.0.1.1,
        ),
      ),
      (
        room_less (is_none (moment_of m.holder t.last)) limits.holders (length s.last) (length t.last) no_holder_more alone.few
            (h.1.0 ∙ ap (λ (o : Option ℤ). when (is_none o && nat_le limits.holders (length s.last)) no_holder_more None) a.last),
        (
          h.1.1.0 ∙ ap (λ (n : ℕ). when (nat_lt limits.objects n) (by_rule (refusal.Full Objects)) None)
              (same_objects m.holder (after s m) (after t m) agree_then_after),
          (
            keeps_areas m.area h.1.1.1.0,
            subst (λ (parts : HolderParts). MapRule parts None) (same_now m.holder (after s m) (after t m) agree_then_after) h.1.1.1.1,
          ),
        ),
      ),
    )

    areas_alone : (area : Option Shapes)
        → All (λ (x : AreaVersion). is_area_version m.holder x ≡ true) (areas_after m.holder m.moment area t.areas)
    areas_alone None = alone.areas
    areas_alone (Some shapes) = All-append (λ (x : AreaVersion). is_area_version m.holder x ≡ true)
        (map (area_ended m.holder m.moment) t.areas) (new_area m.holder m.moment shapes ∷ [])
        (all_mapped (λ (x : AreaVersion). is_area_version m.holder x ≡ true) (area_ended m.holder m.moment) t.areas
        (λ x c. ended-version m.holder m.holder m.moment x ∙ All-contains (λ (y : AreaVersion). is_area_version m.holder y ≡ true) t.areas
        x alone.areas c))
        (All-cons (λ (x : AreaVersion). is_area_version m.holder x ≡ true) (new_area m.holder m.moment shapes) []
        ((bytes_eq-Decides m.holder m.holder).1 refl) (All-nil (λ (x : AreaVersion). is_area_version m.holder x ≡ true)))

    pub alone_after : IsAlone m.holder (after s m) (after t m)
    alone_after = record {
      areas = areas_alone m.area;
      few = grow_alike (is_none (moment_of m.holder t.last)) (length (last_after m.holder m.moment s.last)) (length s.last)
          (length (last_after m.holder m.moment t.last)) (length t.last)
          (last_length m.holder m.moment s.last ∙ ap (λ (o : Option ℤ). cond (is_none o) (length s.last + 1) (length s.last)) a.last)
          (last_length m.holder m.moment t.last) alone.few;
    }

alone_still : (h : List ℕ) (s t : State) (m : Message) → IsAlone h s t → IsAlone h (after s m) t
alone_still h s t m k = record {
  areas = k.areas;
  few = more (length t.last) (length s.last) (length (last_after m.holder m.moment s.last)) k.few (grows
      (is_none (moment_of m.holder s.last)) (length (last_after m.holder m.moment s.last)) (length s.last)
      (last_length m.holder m.moment s.last));
}
  where
    more : (i j k : ℕ) → i ≤ j → j ≤ k → i ≤ k
    more i j k l m = omega (arith, l, m)

-- ---- all messages
-- t stands beside s, with h alone
pub record IsBeside (h : List ℕ) (s t : State) : Type 0 where
  pub agree : AgreeOn h s t
  pub alone : IsAlone h s t

module _ (limits : Limits) (h : List ℕ) where
  own_step : (s t : State) (m : Message) → AreAtHome h s → IsBeside h s t → IsLocal h m → is_message_of h m ≡ true → Takes limits s m
      → Takes limits t m × IsBeside h (after s m) (after t m)
  own_step s t m home b l o j =
      let q : m.holder ≡ h = (bytes_eq-Decides m.holder h).0 o in
      let agree : AgreeOn m.holder s t = subst (λ (i : List ℕ). AgreeOn i s t) (sym q) b.agree in
      let alone : IsAlone m.holder s t = subst (λ (i : List ℕ). IsAlone i s t) (sym q) b.alone in
      let local : IsLocal m.holder m = subst (λ (i : List ℕ). IsLocal i m) (sym q) l in (
        taken_alone limits s t m agree alone local j,
        record {
          agree = agree_after h s t m b.agree;
          alone = subst (λ (i : List ℕ). IsAlone i (after s m) (after t m)) q (alone_after limits s t m agree alone local);
        },
      )

  keeps : KeepsBeside (Takes limits) after (IsBeside h) (AreAtHome h) (IsLocal h) (is_message_of h)
  keeps = record {
    home = λ s m home l j. home_after h s m home l j.0.1.1;
    others = λ s t m home b l n j. record {
      agree = agree_then h (after s m) s t (agree_back h s (after s m) (others_left h s m home (not_own h m n) l j.0.1.1)) b.agree;
      alone = alone_still h s t m b.alone;
    };
    own = own_step;
  }

  pub alone_replayed : (ms : List Message) (s t : State) → AreAtHome h s → IsBeside h s t → IsReplay limits s ms → All (IsLocal h) ms
      → IsReplay limits t (own_messages h ms) × IsBeside h (replayed s ms) (replayed t (own_messages h ms))
  alone_replayed ms s t home b r l
      = taken_along (Takes limits) after (IsBeside h) (AreAtHome h) (IsLocal h) (is_message_of h) keeps ms s t home b r l

-- ---- opened
pub own_enough : (limits : Limits) (h : List ℕ) (ms : List Message) → IsReplay limits opening ms → All (IsLocal h) ms
    → IsReplay limits opening (own_messages h ms) × AgreeOn h (replayed opening ms) (replayed opening (own_messages h ms))
own_enough limits h ms r l =
    let k = alone_replayed limits h ms opening opening (All-nil (IsAtHome h)) (record {
      agree = agree_itself h opening;
      alone = record { areas = All-nil (λ (a : AreaVersion). is_area_version h a ≡ true); few = omega arith };
    }) r l in
    (k.0, k.1.agree)

all_local : (h : List ℕ) (from : ℕ) (ms : List Message) → position_from (is_foreign h) from ms ≡ None → All (IsLocal h) ms
all_local h from [] e = All-nil (IsLocal h)
all_local h from (m ∷ ms) e = elim (cases_Bool (is_foreign h m)) [
  | inl t ↦ let k : Some from ≡ None = sym (ap (λ (b : Bool). cond b (Some from) (position_from (is_foreign h) (from + 1) ms)) t) ∙ e in cc
  | inr t ↦ All-cons (IsLocal h) m ms t
      (all_local h (from + 1) ms (sym (ap (λ (b : Bool). cond b (Some from) (position_from (is_foreign h) (from + 1) ms)) t) ∙ e))
]

pub opened : (limits : Limits) (h : List ℕ) (ms : List Message) (s : State) → IsReplay limits opening ms → Opens ms h (Ok s)
    → IsHolderAlone limits ms h s
opened limits h ms s r o = let k = own_enough limits h ms r (all_local h 1 ms o.0) in record {
  replay = k.0;
  is = o.1;
  same = subst (λ (x : State). LookAlike h (replayed opening ms) x) (sym o.1)
      (look_alike h (replayed opening ms) (replayed opening (own_messages h ms)) k.1);
}

pub good_replayed : (limits : Limits) (ms : List Message) (s : State) → Good s → IsReplay limits s ms → Good (replayed s ms)
unfolding Replays
good_replayed limits [] s g r = g
good_replayed limits (m ∷ ms) s g r = good_replayed limits ms (after s m) (passed_good s m g (judged_passes limits s m r.0)) r.1
