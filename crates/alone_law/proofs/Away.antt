-- Messages that are local to a holder: where identifications are, and what a message of another holder leaves.
use Rattle.std.proofs.Common.{◌≡◌, ℕ, refl, sym, ap, ◌∙◌, inl, inr, List, [], ◌∷◌, ◌++◌, map, arith}
use Rattle.std.specs.Prelude.{ℤ, true, false, Bool, ◌&&◌, ◌||◌, ◌≢◌, cond, filter, Option, Some, None, is_none}
use Rattle.std.specs.List.{All, Contains, flat_map, list_any}
use Rattle.std.specs.Str.{bytes_eq}
use Rattle.std.proofs.lemmas.Bool.{cases_Bool, both_ways, not-false, or_cases}
use Rattle.std.proofs.lemmas.List.{append-nil}
use Rattle.std.proofs.lemmas.List.Elements.{All-append, All-contains, filter-append}
use Rattle.std.proofs.lemmas.Slice.Eq.{bytes_eq-Decides}
use Rattle.rd_plane.specs.Plane.{Vertex}
use Rattle.rd_plane.proofs.Members.{contains_head, contains_tail, contains_cases}
use Rattle.imgeo_types.specs.Fields.{holder_of}
use Rattle.message_text.specs.declared.message.Message.{Message}
use Rattle.message_text.specs.declared.message.Mutation.{Mutation}
use Rattle.message_text.specs.declared.message.Mutation.TheVariants.{Add, Change, End}
use Rattle.version_history.specs.declared.version.Version.{Version}
use Rattle.map_rules.specs.After.{after, areas_after, begun, touched_by, versions_after}
use Rattle.map_rules.specs.Rules.{MutationsRule, ident_of}
use Rattle.map_rules.proofs.Finding.{neither}
use Rattle.map_rules.proofs.Untouched.{names, touched_by-other}
use Rattle.area_book.specs.declared.version.AreaVersion.{AreaVersion}
use Rattle.area_book.specs.Areas.{area_ended, new_area}
use Rattle.map_rules.specs.Good.{IsFine, IsOwn}
use Rattle.map_rules.specs.State.{State}
use Rattle.map_rules.proofs.Begun.{begun_is, named_by}
use Rattle.map_rules.proofs.Lists.{all_from, all_mapped, kept-none}
use Rattle.map_rules.proofs.Ruled.{all_fine}
use Rattle.map_rules.proofs.Dating.{moment_of_others}
use Rattle.map_rules.proofs.Touching.{touched-holder, touched-ident}
use Rattle.alone_law.specs.Agreeing.{AgreeOn, AreAtHome, IsAtHome, IsLocal, begins_one, concerns, is_area_version, names_other}
use Rattle.alone_law.proofs.Agreeing.{ended-version, touched-concerns}
use Rattle.alone_law.proofs.Filters.{filter-changed}

abbrev Shapes : Type 0
Shapes = List (List (List Vertex))

none_passes : {A : Type 0} (p : A → Bool) (xs : List A) (x : A) → list_any p xs ≡ false → Contains xs x → p x ≡ false
none_passes p [] x h c = absurd (omega (arith, c.1))
none_passes p (y ∷ xs) x h c = let k = neither (p y) (list_any p xs) h in elim (contains_cases y x xs c) [
  | inl q ↦ ap p (sym q) ∙ k.0
  | inr d ↦ none_passes p xs x k.1 d
]

pub none_any : {A : Type 0} (p : A → Bool) (xs : List A) → ((x : A) → Contains xs x → p x ≡ false) → list_any p xs ≡ false
none_any p [] h = refl
none_any p (x ∷ xs) h
    = ap (λ (b : Bool). b || list_any p xs) (h x (contains_head x xs)) ∙ none_any p xs (λ y c. h y (contains_tail x y xs c))

pub differs : (a b : List ℕ) → a ≢ b → bytes_eq a b ≡ false
differs a b d = elim (cases_Bool (bytes_eq a b)) [ inl t ↦ absurd (d ((bytes_eq-Decides a b).0 t)) | inr t ↦ t ]

-- the mutation names an identification with h's code exactly where it is one of h's message
abbrev pub IsCoded : List ℕ → List ℕ → Mutation → Type 0
IsCoded h holder x = bytes_eq (holder_of (ident_of x)) h ≡ bytes_eq holder h

-- ---- what a local message names
module _ (h : List ℕ) (vs : List Version) (home : All (IsAtHome h) vs) where
  pub own_code : (holder ident : List ℕ) → IsOwn vs holder ident → bytes_eq (holder_of ident) h ≡ bytes_eq holder h
  own_code holder ident o = ap (λ (i : List ℕ). bytes_eq (holder_of i) h) (sym o.ident_is) ∙ All-contains (IsAtHome h) vs o.version home
      o.of ∙ ap (λ (i : List ℕ). bytes_eq i h) o.own

  coded_other : (holder : List ℕ) (x : Mutation) → bytes_eq holder h ≡ false → begins_one h x ≡ false → IsFine vs holder x
      → IsCoded h holder x
  coded_other holder (Add i item) e b f = b ∙ sym e
  coded_other holder (Change i was item) e b f = own_code holder i f.0
  coded_other holder (End i was day) e b f = own_code holder i f

  pub coded : (m : Message) → IsLocal h m → MutationsRule vs m [] m.mutations None → All (IsCoded h m.holder) m.mutations
  coded m l r = elim (cases_Bool (bytes_eq m.holder h)) [
    | inl k ↦ let n : list_any (names_other h) m.mutations ≡ false
        = sym (ap (λ (b : Bool). cond b (list_any (names_other h) m.mutations) (list_any (begins_one h) m.mutations)) k) ∙ l in
        all_from (IsCoded h m.holder) m.mutations
        (λ x c. not-false (bytes_eq (holder_of (ident_of x)) h) (none_passes (names_other h) m.mutations x n c) ∙ sym k)
    | inr k ↦ let n : list_any (begins_one h) m.mutations ≡ false
        = sym (ap (λ (b : Bool). cond b (list_any (names_other h) m.mutations) (list_any (begins_one h) m.mutations)) k) ∙ l in
        all_from (IsCoded h m.holder) m.mutations (λ x c. coded_other m.holder x k (none_passes (begins_one h) m.mutations x n c)
        (All-contains (IsFine vs m.holder) m.mutations x (all_fine vs m [] m.mutations r) c))
  ]

-- what h's local message names
pub own_names : (h : List ℕ) (m : Message) → m.holder ≡ h → IsLocal h m → All (λ x. holder_of (ident_of x) ≡ h) m.mutations
own_names h m q l =
    let k : bytes_eq m.holder h ≡ true = (bytes_eq-Decides m.holder h).1 q in
    let n : list_any (names_other h) m.mutations ≡ false
    = sym (ap (λ (b : Bool). cond b (list_any (names_other h) m.mutations) (list_any (begins_one h) m.mutations)) k) ∙ l in
    all_from (λ x. holder_of (ident_of x) ≡ h) m.mutations (λ x c. (bytes_eq-Decides (holder_of (ident_of x)) h).0
    (not-false (bytes_eq (holder_of (ident_of x)) h) (none_passes (names_other h) m.mutations x n c)))

-- ---- behind the message
module _ (h holder : List ℕ) (moment : ℤ) (ms : List Mutation) (vs : List Version) (home : All (IsAtHome h) vs)
    (codes : All (IsCoded h holder) ms) where
  begun_code : (v : Version) → Contains (flat_map (begun holder moment) ms) v → bytes_eq (holder_of v.ident) h ≡ bytes_eq holder h
  begun_code v c = let b = begun_is holder moment ms v c in ap (λ (i : List ℕ). bytes_eq (holder_of i) h)
      (sym (named_by b.by v.ident v.item b.begins)) ∙ All-contains (IsCoded h holder) ms b.by codes b.of

  begun_holder : (v : Version) → Contains (flat_map (begun holder moment) ms) v → bytes_eq v.holder h ≡ bytes_eq holder h
  begun_holder v c = ap (λ (i : List ℕ). bytes_eq i h) (begun_is holder moment ms v c).holder_is

  home_touched : (v : Version) → IsAtHome h v → IsAtHome h (touched_by moment ms v)
  home_touched v k = ap (λ (i : List ℕ). bytes_eq (holder_of i) h)
      (touched-ident moment ms v) ∙ k ∙ sym (ap (λ (i : List ℕ). bytes_eq i h) (touched-holder moment ms v))

  pub home_then : All (IsAtHome h) (versions_after holder moment ms vs)
  home_then = All-append (IsAtHome h) (map (touched_by moment ms) vs) (flat_map (begun holder moment) ms)
      (all_mapped (IsAtHome h) (touched_by moment ms) vs (λ v c. home_touched v (All-contains (IsAtHome h) vs v home c)))
      (all_from (IsAtHome h) (flat_map (begun holder moment) ms) (λ v c. begun_code v c ∙ sym (begun_holder v c)))

  module _ (other : bytes_eq holder h ≡ false) where
    has_code : (v : Version) → IsAtHome h v → concerns h v ≡ true → bytes_eq (holder_of v.ident) h ≡ true
    has_code v k e = elim (or_cases (bytes_eq (holder_of v.ident) h) (bytes_eq v.holder h) e) [ inl l ↦ l | inr r ↦ k ∙ r ]

    not_named : (v : Version) → bytes_eq (holder_of v.ident) h ≡ true → (x : Mutation) → Contains ms x → names v.ident x ≡ false
    not_named v e x c = differs (ident_of x) v.ident (λ q. both_ways (bytes_eq (holder_of v.ident) h)
        (ap (λ (i : List ℕ). bytes_eq (holder_of i) h) (sym q) ∙ All-contains (IsCoded h holder) ms x codes c ∙ other) e)

    untouched : (v : Version) → Contains vs v → concerns h v ≡ true → touched_by moment ms v ≡ v
    untouched v c e
        = touched_by-other moment ms v (none_any (names v.ident) ms (not_named v (has_code v (All-contains (IsAtHome h) vs v home c) e)))

    not_begun : (v : Version) → Contains (flat_map (begun holder moment) ms) v → concerns h v ≡ false
    not_begun v c = ap (λ (b : Bool). b || bytes_eq v.holder h) (begun_code v c ∙ other) ∙ begun_holder v c ∙ other

    pub versions_left : filter (concerns h) (versions_after holder moment ms vs) ≡ filter (concerns h) vs
    versions_left = filter-append (concerns h) (map (touched_by moment ms) vs) (flat_map (begun holder moment) ms)
        ∙ ap (λ (l : List Version). l ++ filter (concerns h) (flat_map (begun holder moment) ms))
        (filter-changed (concerns h) (touched_by moment ms) vs (λ v c. touched-concerns h moment ms v) untouched)
        ∙ ap (λ (l : List Version). filter (concerns h) vs ++ l) (kept-none (concerns h) (flat_map (begun holder moment) ms) not_begun)
        ∙ append-nil (filter (concerns h) vs)

module _ (h holder : List ℕ) (moment : ℤ) (other : h ≢ holder) where
  ended_not : (a : AreaVersion) → is_area_version h a ≡ true → area_ended holder moment a ≡ a
  ended_not a e = ap (λ (b : Bool). cond (b && is_none a.until) (record a { until = Some moment }) a)
      (differs a.holder holder (λ q. other (sym ((bytes_eq-Decides a.holder h).0 e) ∙ q)))

  pub areas_left : (area : Option Shapes) (areas : List AreaVersion)
      → filter (is_area_version h) (areas_after holder moment area areas) ≡ filter (is_area_version h) areas
  areas_left None areas = refl
  areas_left (Some shapes) areas
      = filter-append (is_area_version h) (map (area_ended holder moment) areas) (new_area holder moment shapes ∷ [])
      ∙ ap (λ (l : List AreaVersion). l ++ filter (is_area_version h) (new_area holder moment shapes ∷ [])) (filter-changed
      (is_area_version h) (area_ended holder moment) areas (λ a c. ended-version h holder moment a) (λ a c e. ended_not a e))
      ∙ ap (λ (b : Bool). filter (is_area_version h) areas ++ cond b (new_area holder moment shapes ∷ []) [])
      (differs holder h (λ q. other (sym q)))
      ∙ append-nil (filter (is_area_version h) areas)

pub home_after : (h : List ℕ) (s : State) (m : Message) → AreAtHome h s → IsLocal h m → MutationsRule s.versions m [] m.mutations None
    → AreAtHome h (after s m)
home_after h s m home l r = home_then h m.holder m.moment m.mutations s.versions home (coded h s.versions home m l r)

pub others_left : (h : List ℕ) (s : State) (m : Message) → AreAtHome h s → m.holder ≢ h → IsLocal h m
    → MutationsRule s.versions m [] m.mutations None → AgreeOn h s (after s m)
others_left h s m home d l r = record {
  versions = sym (versions_left h m.holder m.moment m.mutations s.versions home (coded h s.versions home m l r) (differs m.holder h d));
  areas = sym (areas_left h m.holder m.moment (λ q. d (sym q)) m.area s.areas);
  last = sym (moment_of_others m.holder h m.moment s.last (λ q. d (sym q)));
}
