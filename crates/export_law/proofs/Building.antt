-- One exported message after another: after each, the register has just what those holders had at the moment.
use Rattle.std.proofs.Common.{◌≡◌, ◌≢◌, ◌∙◌, ◌+◌, ◌≤◌, ℕ, refl, sym, ap, arith, inl, inr, List, [], ◌∷◌, ◌++◌, length, map, subst}
use Rattle.std.specs.Prelude.{ℤ, ◌≤ℤ◌, ◌⊎◌, Option, Some, None, IfSome}
use Rattle.std.specs.List.{All, AllPairs, Contains, flat_map}
use Rattle.std.specs.Int.Signed.{≤ℤ_refl}
use Rattle.std.specs.Str.{bytes_eq}
use Rattle.std.proofs.lemmas.Bool.{cases_Bool, both_ways}
use Rattle.std.proofs.lemmas.List.Elements.{All-contains, All-head, All-tail, Contains-append_cases, Contains-append_left, Contains-append_right}
use Rattle.std.proofs.lemmas.Slice.Eq.{bytes_eq-Decides}
use Rattle.rd_plane.specs.Covering.{AreApart}
use Rattle.rd_plane.proofs.Members.{contains_cases}
use Rattle.message_text.specs.declared.limits.Limits.{Limits}
use Rattle.message_text.specs.declared.message.Message.{Message}
use Rattle.message_text.specs.declared.message.Mutation.{Mutation}
use Rattle.version_history.specs.declared.version.Version.{Version}
use Rattle.version_history.specs.Moments.{versions_at}
use Rattle.version_history.specs.Versions.{new_version}
use Rattle.area_book.specs.Areas.{area_of, newest_area}
use Rattle.area_book.proofs.Holders.{apart_from_none}
use Rattle.area_book.proofs.Setting.{newest_after}
use Rattle.local_check.specs.Maps.{HolderParts}
use Rattle.map_rules.specs.After.{after, begun, touched_by}
use Rattle.map_rules.specs.State.{State, area_at, moment_of, opening}
use Rattle.map_rules.specs.Steps.{Decision}
use Rattle.map_rules.proofs.Changing.{area_then}
use Rattle.map_rules.proofs.Dating.{moment_after, moment_of_others}
use Rattle.map_rules.proofs.Lists.{all_from, pairs_head}
use Rattle.map_rules.proofs.Stepping.{others_stay, passes, taken}
use Rattle.map_rules.proofs.Touching.{IsEnding, touch_cases}
use Rattle.moment_query.specs.Exports.{export_of, holders_at, named, own_shapes}
use Rattle.moment_query.specs.Queries.{areas_at}
use Rattle.export_law.specs.Kept.{IsKept}
use Rattle.export_law.proofs.Deciding.{IsReady, is_taken}
use Rattle.export_law.proofs.Holders.{few_holders, has_area, has_object}
use Rattle.export_law.proofs.Members.{in_filter, in_map, out_filter, out_map}
use Rattle.export_law.proofs.AtMoment.{area_is}
use Rattle.export_law.proofs.Exporting.{addition, additions_are, is_own, own}
use Rattle.export_law.proofs.Keeping.{kept_after, kept_opening}
use Rattle.export_law.proofs.Passing.{more_last}

-- What the register has while the messages of `rest` are still to come: no message of those holders was taken, and there is room for them;
-- no message was later, and no area began later; all versions are current and are objects of the moment, and all objects of the moment but theirs are there;
-- each area is that of the moment, or there is none yet.
pub record IsBuilt (limits : Limits) (s : State) (t : ℤ) (rest : List (List ℕ)) (new : State) : Type 0 where
  pub kept : IsKept limits new
  pub unmet : All (λ (h : List ℕ). moment_of h new.last ≡ None) rest
  pub room : length new.last + length rest ≤ limits.holders
  pub late : (h : List ℕ) → IfSome (moment_of h new.last) (λ u. u ≤ℤ t)
  pub newest : IfSome (newest_area new.areas) (λ u. u ≤ℤ t)
  pub current : All (λ (v : Version). v.until ≡ None) new.versions
  pub from : (v : Version) → Contains new.versions v → (w : Version) × Contains (versions_at t s.versions) w × (named w ≡ named v)
  pub whole : (w : Version) → Contains (versions_at t s.versions) w
      → Contains rest w.holder ⊎ ((v : Version) × Contains new.versions v × (named v ≡ named w))
  pub areas : (g : List ℕ) → (Contains rest g × (area_of g new.areas ≡ [])) ⊎ (area_of g new.areas ≡ area_at t g s.areas)

-- nothing was taken yet
pub built_opening : (limits : Limits) (s : State) (t : ℤ) → IsKept limits s → IsBuilt limits s t (holders_at s t) opening
built_opening limits s t k = record {
  kept = kept_opening limits;
  unmet = λ i d l. refl;
  room = let few = few_holders s t k.sound.good limits k in omega (arith, few);
  late = λ h. tt;
  newest = tt;
  current = λ i d l. absurd (omega (arith, l));
  from = λ v c. absurd (omega (arith, c.1));
  whole = λ w c. inl (has_object s t k.sound.good w c);
  areas = λ g. elim (has_area s t k.sound.good g) [ inl c ↦ inl (c, refl) | inr e ↦ inr (sym e) ];
}

map_same : {X : Type 0} (f : X → X) (xs : List X) → ((x : X) → f x ≡ x) → map f xs ≡ xs
map_same f [] h = refl
map_same {X} f (x ∷ xs) h = ap (λ (y : X). y ∷ map f xs) (h x) ∙ ap (λ (l : List X). x ∷ l) (map_same f xs h)

-- ---- the message of the next holder
module _ (limits : Limits) (s : State) (t : ℤ) (h : List ℕ) (rest : List (List ℕ)) (new : State) (k : IsKept limits s)
    (b : IsBuilt limits s t (h ∷ rest) new) (differ : AllPairs (λ x y. x ≢ y) (h ∷ rest)) where
  abbrev pub m : Message
  m = export_of s t h

  abbrev then : State
  then = after new m

  abbrev news : List Version
  news = own h t s

  abbrev fresh : Version → Version
  fresh w = new_version h w.ident w.item t

  ready : IsReady limits s t h new
  ready = record {
    unmet = All-head (λ (g : List ℕ). moment_of g new.last ≡ None) h rest b.unmet;
    room = let r = b.room in omega (arith, r);
    newest = b.newest;
    apart = λ g d. elim (b.areas g) [
      | inl c ↦ subst (AreApart (area_at t h s.areas)) (sym c.1) (apart_from_none (area_at t h s.areas))
      | inr e ↦ subst (AreApart (area_at t h s.areas)) (sym e) (k.sound.good.apart t h g (λ q. d (sym q)))
    ];
  }

  pub decided : Decision limits new m None
  decided = is_taken limits s t h new k b.kept ready

  -- ---- the versions
  mutations_are : m.mutations ≡ map addition news
  mutations_are = additions_are h (versions_at t s.versions)

  -- additions end nothing
  ends_none : (x : Mutation) (ident : List ℕ) → Contains m.mutations x → IsEnding x ident → ⊥
  ends_none x ident c e = let w = out_map addition news x (subst (λ ms. Contains ms x) mutations_are c) in subst (λ y. IsEnding y ident)
      (sym w.2) e

  still : (v : Version) → touched_by t m.mutations v ≡ v
  still v = elim (touch_cases t m.mutations v) [ inl q ↦ q | inr e ↦ absurd (ends_none e.by v.ident e.of e.ends) ]

  begun_are : (ws : List Version) → flat_map (begun h t) (map addition ws) ≡ map fresh ws
  begun_are [] = refl
  begun_are (w ∷ ws) = ap (λ (l : List Version). fresh w ∷ l) (begun_are ws)

  versions_are : then.versions ≡ new.versions ++ map fresh news
  versions_are = ap (λ (l : List Version). l ++ flat_map (begun h t) m.mutations) (map_same (touched_by t m.mutations) new.versions still)
      ∙ ap (λ (l : List Version). new.versions ++ l) (ap (flat_map (begun h t)) mutations_are ∙ begun_are news)

  version_cases : (v : Version) → Contains then.versions v → Contains new.versions v ⊎ ((w : Version) × Contains news w × (fresh w ≡ v))
  version_cases v c = elim (Contains-append_cases new.versions (map fresh news) v (subst (λ l. Contains l v) versions_are c)) [
    | inl o ↦ inl o
    | inr f ↦ inr (out_map fresh news v f)
  ]

  -- what is exported of the holder is an object of the moment, and named as what begins
  news_are : (w : Version) → Contains news w → Contains (versions_at t s.versions) w × (named w ≡ named (fresh w))
  news_are w c = let o = out_filter (is_own h) (versions_at t s.versions) w c in
      (o.0, ap (λ (g : List ℕ). record { holder = g; ident = w.ident; item = w.item }) ((bytes_eq-Decides w.holder h).0 o.1))

  current_then : All (λ (v : Version). v.until ≡ None) then.versions
  current_then = all_from (λ (v : Version). v.until ≡ None) then.versions (λ v c. elim (version_cases v c) [
    | inl o ↦ All-contains (λ (w : Version). w.until ≡ None) new.versions v b.current o
    | inr f ↦ ap (λ (w : Version). w.until) (sym f.2)
  ])

  from_then : (v : Version) → Contains then.versions v → (w : Version) × Contains (versions_at t s.versions) w × (named w ≡ named v)
  from_then v c = elim (version_cases v c) [
    | inl o ↦ b.from v o
    | inr f ↦ let n = news_are f.0 f.1 in (f.0, n.0, n.1 ∙ ap named f.2)
  ]

  old_still : (v : Version) → Contains new.versions v → Contains then.versions v
  old_still v c = subst (λ l. Contains l v) (sym versions_are) (Contains-append_left new.versions (map fresh news) v c)

  new_there : (w : Version) → Contains news w → Contains then.versions (fresh w)
  new_there w c = subst (λ l. Contains l (fresh w)) (sym versions_are)
      (Contains-append_right new.versions (map fresh news) (fresh w) (in_map fresh news w c))

  whole_then : (w : Version) → Contains (versions_at t s.versions) w
      → Contains rest w.holder ⊎ ((v : Version) × Contains then.versions v × (named v ≡ named w))
  whole_then w c = elim (b.whole w c) [
    | inr o ↦ inr (o.0, old_still o.0 o.1, o.2)
    | inl r ↦ elim (contains_cases h w.holder rest r) [
      | inr d ↦ inl d
      | inl q ↦
          let own = in_filter (is_own h) (versions_at t s.versions) w c ((bytes_eq-Decides w.holder h).1 (sym q)) in
          inr (fresh w, new_there w own, sym (news_are w own).1)
    ]
  ]

  -- ---- the areas
  area_of_others : (g : List ℕ) → g ≢ h → area_of g then.areas ≡ area_of g new.areas
  area_of_others g d =
      let good = b.kept.sound.good in
      ap (λ (x : HolderParts). x.area) (others_stay new m good (taken new m good (passes limits new m good decided)) g d)

  areas_then : (g : List ℕ) → (Contains rest g × (area_of g then.areas ≡ [])) ⊎ (area_of g then.areas ≡ area_at t g s.areas)
  areas_then g = elim (cases_Bool (bytes_eq g h)) [
    | inl e ↦ inr (subst (λ (x : List ℕ). area_of x then.areas ≡ area_at t x s.areas) (sym ((bytes_eq-Decides g h).0 e))
        (area_then h t (Some (own_shapes h (areas_at t s.areas))) new.areas ∙ area_is t h s.areas k.sound.good.book.in_turn))
    | inr e ↦
        let d : g ≢ h = λ q. both_ways (bytes_eq g h) e ((bytes_eq-Decides g h).1 q) in
        elim (b.areas g) [
          | inr q ↦ inr (area_of_others g d ∙ q)
          | inl c ↦ elim (contains_cases h g rest c.0) [ inl q ↦ absurd (d (sym q)) | inr r ↦ inl (r, area_of_others g d ∙ c.1) ]
        ]
  ]

  -- ---- the moments
  unmet_then : All (λ (g : List ℕ). moment_of g then.last ≡ None) rest
  unmet_then = all_from (λ (g : List ℕ). moment_of g then.last ≡ None) rest (λ g c.
      moment_of_others h g t new.last (λ q. All-contains (λ y. h ≢ y) rest g (pairs_head (λ x y. x ≢ y) h rest differ) c (sym q))
      ∙ All-contains (λ (x : List ℕ). moment_of x new.last ≡ None) rest g
      (All-tail (λ (x : List ℕ). moment_of x new.last ≡ None) h rest b.unmet) c)

  late_then : (g : List ℕ) → IfSome (moment_of g then.last) (λ u. u ≤ℤ t)
  late_then g = elim (cases_Bool (bytes_eq g h)) [
    | inl e ↦
        let is : moment_of g then.last ≡ Some t
        = ap (λ (x : List ℕ). moment_of x then.last) ((bytes_eq-Decides g h).0 e) ∙ moment_after h t new.last in
        subst (λ (o : Option ℤ). IfSome o (λ u. u ≤ℤ t)) (sym is) (≤ℤ_refl t)
    | inr e ↦
        let d : g ≢ h = λ q. both_ways (bytes_eq g h) e ((bytes_eq-Decides g h).1 q) in
        subst (λ (o : Option ℤ). IfSome o (λ u. u ≤ℤ t)) (sym (moment_of_others h g t new.last d)) (b.late g)
  ]

  pub built_then : IsBuilt limits s t rest then
  built_then = record {
    kept = kept_after limits new m b.kept decided;
    unmet = unmet_then;
    room = let r = b.room in let more = more_last h t new.last in omega (arith, r, more);
    late = late_then;
    newest = subst (λ (o : Option ℤ). IfSome o (λ u. u ≤ℤ t))
        (sym (newest_after h t (own_shapes h (areas_at t s.areas)) new.areas b.newest)) (≤ℤ_refl t);
    current = current_then;
    from = from_then;
    whole = whole_then;
    areas = areas_then;
  }
