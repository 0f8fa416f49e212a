-- The moment of each holder's last message, and that no area begins or ends later than its holder's.
use Rattle.std.proofs.Common.{◌≡◌, ◌≢◌, ◌∙◌, ℕ, Bool, true, false, refl, sym, ap, arith, inl, inr, List, [], ◌∷◌, map, get_or, subst}
use Rattle.std.specs.Prelude.{ℤ, ◌<ℤ◌, ◌≤ℤ◌, int_le, int_lt, find, Option, Some, None, IfSome, MatchOption}
use Rattle.std.specs.List.{All}
use Rattle.std.specs.Str.{bytes_eq}
use Rattle.std.specs.Int.Signed.{≤ℤ_refl}
use Rattle.std.proofs.lemmas.Bool.{cases_Bool, both_ways}
use Rattle.std.proofs.lemmas.Int.{by_lt_z}
use Rattle.std.proofs.lemmas.List.Elements.{All-append, All-cons, All-contains, All-tail}
use Rattle.std.proofs.lemmas.Slice.Eq.{bytes_eq-Decides}
use Rattle.rd_plane.specs.Plane.{Vertex}
use Rattle.rd_plane.specs.Rule.{when}
use Rattle.rd_plane.proofs.Polynomials.{linear}
use Rattle.area_book.specs.declared.version.AreaVersion.{AreaVersion}
use Rattle.area_book.specs.Areas.{area_ended, is_area_of, new_area, newest_area}
use Rattle.area_book.specs.Throughout.{IsSoundBook}
use Rattle.area_book.proofs.Holders.{HasNone, IsFound, found, is_current}
use Rattle.area_book.proofs.Setting.{same_holder, same_since, sound_after, until_of, up_to}
use Rattle.message_text.specs.declared.message.Message.{Message}
use Rattle.map_rules.specs.declared.last.LastMessage.{LastMessage}
use Rattle.map_rules.specs.declared.refusal.Refusal.{Refusal}
use Rattle.map_rules.specs.declared.refusal.Refusal.TheVariants as refusal
use Rattle.map_rules.specs.After.{areas_after, last_after}
use Rattle.map_rules.specs.Dated.{IsDated, IsDatedArea}
use Rattle.map_rules.specs.Rules.{AreaRule, IsFresh, earlier, not_later, stale_area, stale_message}
use Rattle.map_rules.specs.State.{moment_of}

-- what a change makes of a fact, it makes of it throughout
pub All-changed : {A : Type 0} (P Q : A → Type 0) (f : A → A) → ((a : A) → P a → Q (f a)) → (xs : List A) → All P xs → All Q (map f xs)
All-changed P Q f makes [] all = λ k d within. absurd (omega arith)
All-changed P Q f makes (x ∷ xs) all
    = All-cons Q (f x) (map f xs) (makes x (all 0 x (omega arith))) (All-changed P Q f makes xs (All-tail P x xs all))

same_bytes : (bytes : List ℕ) → bytes_eq bytes bytes ≡ true
same_bytes bytes = (bytes_eq-Decides bytes bytes).1 refl

-- the message's moment is its holder's last then
pub moment_after : (h : List ℕ) (moment : ℤ) (last : List LastMessage) → moment_of h (last_after h moment last) ≡ Some moment
moment_after h moment [] = rw (same_bytes h) refl
moment_after h moment (l ∷ last) = elim (cases_Bool (bytes_eq l.holder h)) [
  | inl t ↦ rw t (rw t refl)
  | inr t ↦ rw t (rw t (moment_after h moment last))
]

-- that of another holder stays
pub moment_of_others : (h g : List ℕ) (moment : ℤ) (last : List LastMessage) → g ≢ h
    → moment_of g (last_after h moment last) ≡ moment_of g last
moment_of_others h g moment [] d = elim (cases_Bool (bytes_eq h g)) [
  | inl t ↦ absurd (d (sym ((bytes_eq-Decides h g).0 t)))
  | inr t ↦ rw t refl
]
moment_of_others h g moment (l ∷ last) d = elim (cases_Bool (bytes_eq l.holder h)) [
  | inl t ↦ elim (cases_Bool (bytes_eq l.holder g)) [
    | inl u ↦ absurd (d (sym ((bytes_eq-Decides l.holder g).0 u) ∙ (bytes_eq-Decides l.holder h).0 t))
    | inr u ↦ rw (t, u) refl
  ]
  | inr t ↦ elim (cases_Bool (bytes_eq l.holder g)) [
    | inl u ↦ rw (t, u) refl
    | inr u ↦ rw (t, u) (moment_of_others h g moment last d)
  ]
]

-- ---- moments that no rule refuses
-- a test that gives no answer failed
failed : (t : Bool) (r : Refusal) → when t r None ≡ None → t ≡ false
failed true r e = cc
failed false r e = refl

le_true : (s t : ℤ) → s ≤ℤ t → int_le s t ≡ true
le_true s t h = grind (arith, linear)

lt_true : (t u : ℤ) → t <ℤ u → int_lt t u ≡ true
lt_true t u h = grind (arith, linear)

pub later_than : (m : ℤ) (o : Option ℤ) → not_later m o ≡ None → IfSome o (λ t. t <ℤ m)
later_than m None e = tt
later_than m (Some k) e
    = by_lt_z k m (λ l. l) (λ l. absurd (both_ways (int_le m k) (failed (int_le m k) (refusal.Stale k) e) (le_true m k l)))

pub not_before : (m : ℤ) (o : Option ℤ) → earlier m o ≡ None → IfSome o (λ t. t ≤ℤ m)
not_before m None e = tt
not_before m (Some k) e
    = by_lt_z m k (λ l. absurd (both_ways (int_lt m k) (failed (int_lt m k) (refusal.Stale k) e) (lt_true m k l))) (λ l. l)

module _ (last : List LastMessage) (h : List ℕ) (moment : ℤ) (later : IfSome (moment_of h last) (λ t. t <ℤ moment)) where
  abbrev then : List LastMessage
  then = last_after h moment last

  -- what is the holder's own began before
  pub own_earlier : (holder : List ℕ) (since : ℤ) (until : Option ℤ) → IsDated last holder since until → holder ≡ h → since <ℤ moment
  own_earlier holder since until d q =
      let l : d.moment <ℤ moment
      = subst (λ (o : Option ℤ). IfSome o (λ t. t <ℤ moment)) (sym (ap (λ (x : List ℕ). moment_of x last) q) ∙ d.is) later in
      omega (arith, linear, l, d.begun)

  -- what was dated stays so
  pub dated_still : (holder : List ℕ) (since : ℤ) (until : Option ℤ) → IsDated last holder since until → IsDated then holder since until
  dated_still holder since until d = elim (cases_Bool (bytes_eq holder h)) [
    | inl t ↦
        let q : holder ≡ h = (bytes_eq-Decides holder h).0 t in
        let l : d.moment <ℤ moment = subst (λ (o : Option ℤ). IfSome o (λ u. u <ℤ moment))
        (sym (ap (λ (x : List ℕ). moment_of x last) q) ∙ d.is) later in record {
          moment = moment;
          is = ap (λ (x : List ℕ). moment_of x then) q ∙ moment_after h moment last;
          begun = omega (arith, linear, l, d.begun);
          ended = up_to until d.moment moment (omega (arith, linear, l)) d.ended;
        }
    | inr t ↦ record {
      moment = d.moment;
      is = moment_of_others h holder moment last (λ q. both_ways (bytes_eq holder h) t ((bytes_eq-Decides holder h).1 q)) ∙ d.is;
      begun = d.begun;
      ended = d.ended;
    }
  ]

  -- so is what the holder gets then
  pub dated_own : (holder : List ℕ) (since : ℤ) (until : Option ℤ) → holder ≡ h → since ≤ℤ moment → IfSome until (λ u. u ≤ℤ moment)
      → IsDated then holder since until
  dated_own holder since until q l n
      = record { moment = moment; is = ap (λ (x : List ℕ). moment_of x then) q ∙ moment_after h moment last; begun = l; ended = n }

  module _ (areas : List AreaVersion) (dated : All (IsDatedArea last) areas) where
    ended_dated : (a : AreaVersion) → IsDatedArea last a → IsDatedArea then (area_ended h moment a)
    ended_dated a c = elim (until_of h moment a) [
      | inl q ↦ subst (λ (o : List ℕ). IsDated then o (area_ended h moment a).since (area_ended h moment a).until)
          (sym (same_holder h moment a))
          (subst (λ (t : ℤ). IsDated then a.holder t (area_ended h moment a).until) (sym (same_since h moment a))
          (subst (IsDated then a.holder a.since) (sym q) (dated_still a.holder a.since a.until c)))
      | inr r ↦
          let o = (is_current h a r.0).0 in
          let l : a.since <ℤ moment = own_earlier a.holder a.since a.until c o in
          dated_own (area_ended h moment a).holder (area_ended h moment a).since (area_ended h moment a).until (same_holder h moment a ∙ o)
          (subst (λ t. t ≤ℤ moment) (sym (same_since h moment a)) (omega (arith, linear, l)))
          (subst (λ (u : Option ℤ). IfSome u (λ t. t ≤ℤ moment)) (sym r.1) (≤ℤ_refl moment))
    ]

    -- areas stay dated
    pub areas_dated_after : (area : Option (List (List (List Vertex)))) → All (IsDatedArea then) (areas_after h moment area areas)
    areas_dated_after None = λ k a within. let x = get_or areas k a in dated_still x.holder x.since x.until (dated k a within)
    areas_dated_after (Some shapes) = All-append (IsDatedArea then) (map (area_ended h moment) areas) (new_area h moment shapes ∷ [])
        (All-changed (IsDatedArea last) (IsDatedArea then) (area_ended h moment) ended_dated areas dated)
        (All-cons (IsDatedArea then) (new_area h moment shapes) [] (dated_own h moment None refl (≤ℤ_refl moment) tt)
        (λ k a within. absurd (omega arith)))

    -- the holder's current area began before
    area_later : IfSome (find (is_area_of h) areas) (λ a. a.since <ℤ moment)
    area_later = by (find (is_area_of h) areas) (found areas h)
      where
        by : (r : Option AreaVersion) → MatchOption r (HasNone areas h) (IsFound areas h) → IfSome r (λ a. a.since <ℤ moment)
        by None n = tt
        by (Some a) n = own_earlier a.holder a.since a.until (All-contains (IsDatedArea last) areas a dated n.of) n.own

    pub fresh : IfSome (newest_area areas) (λ t. t ≤ℤ moment) → IsFresh areas h moment
    fresh n = record { later = area_later; newest = n }

    -- a sound book stays so where the rules of areas refuse nothing
    pub book_after : (area : Option (List (List (List Vertex)))) → IsSoundBook areas → IfSome area (λ shapes. IsFresh areas h moment)
        → AreaRule areas h area None → IsSoundBook (areas_after h moment area areas)
    book_after None b f k = b
    book_after (Some shapes) b f k = sound_after areas h moment shapes b k f.later f.newest

-- where neither rule of moments refuses a message, its area block may begin
pub is_fresh : (last : List LastMessage) (areas : List AreaVersion) (m : Message) → All (IsDatedArea last) areas
    → stale_message last m ≡ None → stale_area areas m ≡ None
    → IfSome m.area (λ shapes. IsFresh areas m.holder m.moment)
is_fresh last areas m dated e f = by m.area f
  where
    by : (area : Option (List (List (List Vertex)))) → stale_area areas (record m { area = area }) ≡ None
        → IfSome area (λ shapes. IsFresh areas m.holder m.moment)
    by None k = tt
    by (Some shapes) k = fresh last m.holder m.moment (later_than m.moment (moment_of m.holder last) e) areas dated
        (not_before m.moment (newest_area areas) k)
