-- The objects of a holder at a moment, before and after a message.
use Rattle.std.proofs.Common.{◌≡◌, ℕ, sym, ap, ◌∙◌, arith, inl, inr, List, ◌++◌, map, subst}
use Rattle.std.specs.Prelude.{ℤ, ◌<ℤ◌, ◌≤ℤ◌, false, Bool, ◌&&◌, ◌≢◌, filter, Option, None, IfSome, is_none}
use Rattle.std.specs.List.{All, AllPairs, Contains, flat_map}
use Rattle.std.specs.Str.{bytes_eq}
use Rattle.std.proofs.Math.Bool.{and-false}
use Rattle.std.proofs.lemmas.Bool.{cases_Bool}
use Rattle.std.proofs.lemmas.List.{append-nil}
use Rattle.std.proofs.lemmas.List.Elements.{All-contains, All-map}
use Rattle.std.proofs.lemmas.Slice.Eq.{bytes_eq-Decides}
use Rattle.rd_plane.specs.Shapes.{IsSoundShape}
use Rattle.rd_plane.proofs.Polynomials.{linear}
use Rattle.message_text.specs.declared.message.Mutation.{Mutation}
use Rattle.message_text.specs.declared.message.Mutation.TheVariants.{Add, Change, End}
use Rattle.version_history.specs.declared.version.Version.{Version}
use Rattle.map_rules.specs.declared.last.LastMessage.{LastMessage}
use Rattle.map_rules.specs.After.{begun, touched_by, versions_after}
use Rattle.map_rules.specs.State.{holds_at, is_object_at, is_object_of, moment_of, part_of, parts_at, parts_now}
use Rattle.area_book.specs.Throughout.{HasEndedBy}
use Rattle.area_book.proofs.Setting.{up_to}
use Rattle.level_rules.specs.declared.item.LevelItem.{LevelItem}
use Rattle.local_check.specs.Maps.{ground_of, is_ground}
use Rattle.map_rules.specs.Dated.{IsDated}
use Rattle.map_rules.specs.Good.{Follows, IsFine}
use Rattle.map_rules.proofs.Begun.{begun_is}
use Rattle.map_rules.proofs.Lists.{all_kept, in_order, kept-append, kept-mapped, kept-none, kept-same}
use Rattle.map_rules.proofs.Moments.{holds_before, holds_now, le_false}
use Rattle.map_rules.proofs.Touching.{IsEnded, IsEnding, touch_cases, touched-holder, touched-part}

abbrev news : List ℕ → ℤ → List Mutation → List Version
news holder moment ms = flat_map (begun holder moment) ms

differs : (a b : List ℕ) → a ≢ b → bytes_eq a b ≡ false
differs a b d = elim (cases_Bool (bytes_eq a b)) [ inl t ↦ absurd (d ((bytes_eq-Decides a b).0 t)) | inr t ↦ t ]

-- ---- what ends is the holder's
never : (t : ℤ) (u : Option ℤ) → u ≡ None → HasEndedBy t u → ⊥
never t u q e = subst (HasEndedBy t) q e

-- of one identification one version is current at most
pub one_current : (vs : List Version) (v c : Version) → AllPairs Follows vs → Contains vs v → Contains vs c → v.ident ≡ c.ident
    → v.until ≡ None → c.until ≡ None → v ≡ c
one_current vs v c p cv cc i uv uc = elim (in_order Follows vs v c p cv cc) [
  | inl q ↦ q
  | inr k ↦ elim k [ inl f ↦ absurd (never c.since v.until uv (f i)) | inr f ↦ absurd (never v.since c.until uc (f (sym i))) ]
]

own_of : (vs : List Version) (h : List ℕ) (x : Mutation) (v : Version) → AllPairs Follows vs → Contains vs v → v.until ≡ None
    → IsFine vs h x → IsEnding x v.ident → v.holder ≡ h
own_of vs h (Add i item) v p c u f e = absurd e
own_of vs h (Change i was item) v p c u f e
    = ap (λ (w : Version). w.holder) (one_current vs v f.0.version p c f.0.of (sym e ∙ sym f.0.ident_is) u f.0.current) ∙ f.0.own
own_of vs h (End i was day) v p c u f e
    = ap (λ (w : Version). w.holder) (one_current vs v f.version p c f.of (sym e ∙ sym f.ident_is) u f.current) ∙ f.own

module _ (vs : List Version) (h : List ℕ) (moment : ℤ) (ms : List Mutation) (turns : AllPairs Follows vs) (fine : All (IsFine vs h) ms)
  where
    pub ended_own : (v : Version) → Contains vs v → IsEnded moment ms v (touched_by moment ms v) → v.holder ≡ h
    ended_own v c e = own_of vs h e.by v turns c e.was (All-contains (IsFine vs h) ms e.by fine e.of) e.ends

    -- ---- before the message, and of other holders, objects are as they were
    holds_still : (t : ℤ) (v : Version) → t <ℤ moment
        → holds_at t (touched_by moment ms v).since (touched_by moment ms v).until ≡ holds_at t v.since v.until
    holds_still t v l = elim (touch_cases moment ms v) [
      | inl q ↦ ap (λ (w : Version). holds_at t w.since w.until) q
      | inr e ↦ ap (λ (s : ℤ). holds_at t s (touched_by moment ms v).until) e.since ∙ ap (holds_at t v.since) e.now ∙ holds_before t v.since
          moment l ∙ sym (ap (holds_at t v.since) e.was)
    ]

    before_one : (t : ℤ) (g : List ℕ) (v : Version) → t <ℤ moment → is_object_at t g (touched_by moment ms v) ≡ is_object_at t g v
    before_one t g v l = ap (λ (o : List ℕ). bytes_eq o g && holds_at t (touched_by moment ms v).since (touched_by moment ms v).until)
        (touched-holder moment ms v) ∙ ap (λ (b : Bool). bytes_eq v.holder g && b) (holds_still t v l)

    others_one : (t : ℤ) (g : List ℕ) (v : Version) → g ≢ h → Contains vs v → is_object_at t g (touched_by moment ms v) ≡ is_object_at t g v
    others_one t g v d c = elim (touch_cases moment ms v) [
      | inl q ↦ ap (is_object_at t g) q
      | inr e ↦ let n : bytes_eq v.holder g ≡ false = differs v.holder g (λ q. d (sym q ∙ ended_own v c e)) in
          ap (λ (o : List ℕ). bytes_eq o g && holds_at t (touched_by moment ms v).since (touched_by moment ms v).until) e.holder
          ∙ ap (λ (b : Bool). b && holds_at t (touched_by moment ms v).since (touched_by moment ms v).until)
          n ∙ sym (ap (λ (b : Bool). b && holds_at t v.since v.until) n)
    ]

    before_new : (t : ℤ) (g : List ℕ) (v : Version) → t <ℤ moment → Contains (news h moment ms) v → is_object_at t g v ≡ false
    before_new t g v l c = let b = begun_is h moment ms v c in
        ap (λ (s : ℤ). bytes_eq v.holder g && holds_at t s v.until)
        b.since_is ∙ ap (λ (u : Option ℤ). bytes_eq v.holder g && holds_at t moment u)
        b.current ∙ ap (λ (x : Bool). bytes_eq v.holder g && x) (le_false moment t l) ∙ and-false (bytes_eq v.holder g)

    others_new : (t : ℤ) (g : List ℕ) (v : Version) → g ≢ h → Contains (news h moment ms) v → is_object_at t g v ≡ false
    others_new t g v d c = let b = begun_is h moment ms v c in ap (λ (x : Bool). x && holds_at t v.since v.until)
        (differs v.holder g (λ q. d (sym q ∙ b.holder_is)))

    unchanged : (t : ℤ) (g : List ℕ) → ((v : Version) → Contains vs v → is_object_at t g (touched_by moment ms v) ≡ is_object_at t g v)
        → ((v : Version) → Contains (news h moment ms) v → is_object_at t g v ≡ false)
        → parts_at t g (versions_after h moment ms vs) ≡ parts_at t g vs
    unchanged t g old new = kept-append part_of (is_object_at t g) (map (touched_by moment ms) vs) (news h moment ms)
        ∙ ap (λ (l : List LevelItem). l ++ map part_of (filter (is_object_at t g) (news h moment ms)))
        (kept-mapped part_of (is_object_at t g) (touched_by moment ms) vs old (λ v c. touched-part moment ms v))
        ∙ ap (λ (l : List Version). parts_at t g vs ++ map part_of l) (kept-none (is_object_at t g) (news h moment ms) new)
        ∙ append-nil (parts_at t g vs)

    pub parts_before : (t : ℤ) (g : List ℕ) → t <ℤ moment → parts_at t g (versions_after h moment ms vs) ≡ parts_at t g vs
    parts_before t g l = unchanged t g (λ v c. before_one t g v l) (λ v c. before_new t g v l c)

    pub parts_of_others : (t : ℤ) (g : List ℕ) → g ≢ h → parts_at t g (versions_after h moment ms vs) ≡ parts_at t g vs
    parts_of_others t g d = unchanged t g (λ v c. others_one t g v d c) (λ v c. others_new t g v d c)

-- ---- from the holder's last moment on, the objects are the current ones
module _ (last : List LastMessage) (h : List ℕ) (t : ℤ) (late : IfSome (moment_of h last) (λ k. k ≤ℤ t)) where
  pub not_later : (holder : List ℕ) (since : ℤ) (until : Option ℤ) → IsDated last holder since until → holder ≡ h
      → (since ≤ℤ t) × IfSome until (λ u. u ≤ℤ t)
  not_later holder since until d q =
      let l : d.moment ≤ℤ t
      = subst (λ (o : Option ℤ). IfSome o (λ k. k ≤ℤ t)) (sym (ap (λ (x : List ℕ). moment_of x last) q) ∙ d.is) late in
      (omega (arith, linear, l, d.begun), up_to until d.moment t l d.ended)

  pub same_now : (holder : List ℕ) (since : ℤ) (until : Option ℤ) → IsDated last holder since until
      → (bytes_eq holder h && holds_at t since until) ≡ (bytes_eq holder h && is_none until)
  same_now holder since until d = elim (cases_Bool (bytes_eq holder h)) [
    | inl k ↦ let n = not_later holder since until d ((bytes_eq-Decides holder h).0 k) in ap (λ (b : Bool). bytes_eq holder h && b)
        (holds_now t since until n.0 n.1)
    | inr k ↦ ap (λ (b : Bool). b && holds_at t since until) k ∙ sym (ap (λ (b : Bool). b && is_none until) k)
  ]

  pub parts_are_now : (vs : List Version) → All (λ (v : Version). IsDated last v.holder v.since v.until) vs
      → parts_at t h vs ≡ parts_now h vs
  parts_are_now vs a = ap (λ (l : List Version). map part_of l) (kept-same (is_object_at t h) (is_object_of h) vs
      (λ v c. same_now v.holder v.since v.until (All-contains (λ (x : Version). IsDated last x.holder x.since x.until) vs v a c)))

-- ---- the shapes of the ground parts are sound
pub ground_sound : (p : Version → Bool) (vs : List Version) → All (λ (v : Version). IsSoundShape v.item.rings) vs
    → All IsSoundShape (ground_of (map part_of (filter p vs)))
ground_sound p vs a = All-map IsSoundShape (λ (x : LevelItem). x.shape) (filter is_ground (map part_of (filter p vs)))
    (all_kept (λ (x : LevelItem). IsSoundShape x.shape) is_ground (map part_of (filter p vs)) (All-map
    (λ (x : LevelItem). IsSoundShape x.shape) part_of (filter p vs) (all_kept (λ (v : Version). IsSoundShape v.item.rings) p vs a)))
