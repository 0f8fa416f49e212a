-- A message of two holders leaves what a state has of a third.
use Rattle.std.proofs.Common.{◌≡◌, ℕ, sym, ap, ◌∙◌, inl, inr, List, [], ◌∷◌, ◌++◌, get_or, map, subst, arith}
use Rattle.std.specs.Prelude.{ℤ, true, false, Bool, ◌||◌, ◌⊎◌, ◌≢◌, cond, filter, find, Option, Some, option_map, unwrap_or}
use Rattle.std.specs.List.{All, Contains, flat_map}
use Rattle.std.specs.Str.{bytes_eq}
use Rattle.std.proofs.lemmas.Bool.{cases_Bool, and_parts, both_ways, or_cases}
use Rattle.std.proofs.lemmas.List.{append-nil}
use Rattle.std.proofs.lemmas.List.Elements.{All-append, All-contains, All-head, All-map, All-tail, filter-append}
use Rattle.std.proofs.lemmas.Slice.Eq.{bytes_eq-Decides}
use Rattle.rd_plane.proofs.Members.{contains_head, contains_tail, contains_cases}
use Rattle.imgeo_types.specs.Fields.{holder_of}
use Rattle.message_text.specs.declared.message.Mutation.{Mutation}
use Rattle.message_text.specs.declared.message.Mutation.TheVariants.{Add, Change, End}
use Rattle.version_history.specs.declared.version.Version.{Version}
use Rattle.version_history.specs.Versions.{has_ident, is_current, is_current_of, new_version}
use Rattle.map_rules.specs.After.{areas_after, last_after, touched_by}
use Rattle.map_rules.specs.Rules.{ident_of}
use Rattle.map_rules.proofs.Untouched.{names, touched_by-other}
use Rattle.map_rules.specs.State.{State}
use Rattle.map_rules.proofs.Lists.{all_from, all_mapped, kept-none}
use Rattle.map_rules.proofs.Dating.{moment_of_others}
use Rattle.map_rules.proofs.Touching.{touched-holder, touched-ident}
use Rattle.alone_law.specs.Agreeing.{AgreeOn, AreAtHome, IsAtHome, concerns}
use Rattle.alone_law.specs.Handing.{Deed, IsOfTwo, Joint, KeepsOff, after_joint, begun_by, kept_holder, mutation_of, other_than}
use Rattle.alone_law.specs.Handing.Deed.{alone, handover}
use Rattle.alone_law.proofs.Agreeing.{touched-concerns}
use Rattle.alone_law.proofs.Away.{areas_left, differs, none_any}
use Rattle.alone_law.proofs.Filters.{filter-changed}

-- ---- versions that end, and others that come, none of them the third's
abbrev IsOff : List ℕ → Version → Type 0
IsOff h v = (bytes_eq (holder_of v.ident) h ≡ false) × (bytes_eq v.holder h ≡ false)

module _ (h : List ℕ) (moment : ℤ) (ms : List Mutation) (vs new : List Version) (home : All (IsAtHome h) vs)
    (codes : All (λ x. bytes_eq (holder_of (ident_of x)) h ≡ false) ms) (off : All (IsOff h) new) where
  not_named : (v : Version) → bytes_eq (holder_of v.ident) h ≡ true → (x : Mutation) → Contains ms x → names v.ident x ≡ false
  not_named v e x c = differs (ident_of x) v.ident (λ q. both_ways (bytes_eq (holder_of v.ident) h) (ap (λ (i : List ℕ). bytes_eq
      (holder_of i) h) (sym q) ∙ All-contains (λ y. bytes_eq (holder_of (ident_of y)) h ≡ false) ms x codes c) e)

  untouched : (v : Version) → Contains vs v → concerns h v ≡ true → touched_by moment ms v ≡ v
  untouched v c e = touched_by-other moment ms v (none_any (names v.ident) ms (not_named v (elim (or_cases (bytes_eq (holder_of v.ident) h)
      (bytes_eq v.holder h) e) [ inl l ↦ l | inr r ↦ All-contains (IsAtHome h) vs v home c ∙ r ])))

  not_new : (v : Version) → Contains new v → concerns h v ≡ false
  not_new v c = let o = All-contains (IsOff h) new v off c in ap (λ (b : Bool). b || bytes_eq v.holder h) o.0 ∙ o.1

  pub kept_off : filter (concerns h) (map (touched_by moment ms) vs ++ new) ≡ filter (concerns h) vs
  kept_off = filter-append (concerns h) (map (touched_by moment ms) vs) new
      ∙ ap (λ (l : List Version). l ++ filter (concerns h) new)
      (filter-changed (concerns h) (touched_by moment ms) vs (λ v c. touched-concerns h moment ms v) untouched)
      ∙ ap (λ (l : List Version). filter (concerns h) vs ++ l) (kept-none (concerns h) new not_new)
      ∙ append-nil (filter (concerns h) vs)

  home_touched : (v : Version) → IsAtHome h v → IsAtHome h (touched_by moment ms v)
  home_touched v k = ap (λ (i : List ℕ). bytes_eq (holder_of i) h)
      (touched-ident moment ms v) ∙ k ∙ sym (ap (λ (i : List ℕ). bytes_eq i h) (touched-holder moment ms v))

  pub home_off : All (IsAtHome h) (map (touched_by moment ms) vs ++ new)
  home_off = All-append (IsAtHome h) (map (touched_by moment ms) vs) new
      (all_mapped (IsAtHome h) (touched_by moment ms) vs (λ v c. home_touched v (All-contains (IsAtHome h) vs v home c)))
      (all_from (IsAtHome h) new (λ v c. let o = All-contains (IsOff h) new v off c in o.0 ∙ sym o.1))

-- ---- what the deeds of two holders name and begin
found_one : {A : Type 0} (p : A → Bool) (xs : List A) (x : A) → find p xs ≡ Some x → Contains xs x × (p x ≡ true)
found_one p [] x e = cc
found_one {A} p (y ∷ xs) x e = elim (cases_Bool (p y)) [
  | inl t ↦ let s : Some y ≡ Some x = sym (ap (λ (b : Bool). cond b (Some y) (find p xs)) t) ∙ e in let q : y ≡ x = cc
      in (subst (Contains (y ∷ xs)) q (contains_head y xs), subst (λ z. p z ≡ true) q t)
  | inr t ↦ let k = found_one p xs x (sym (ap (λ (b : Bool). cond b (Some y) (find p xs)) t) ∙ e) in (contains_tail y x xs k.0, k.1)
]

module _ (h own other : List ℕ) (moment : ℤ) (vs : List Version) (home : All (IsAtHome h) vs) (not_own : own ≢ h) (not_other : other ≢ h)
  where
    off_two : (holder : List ℕ) → (holder ≡ own) ⊎ (holder ≡ other) → bytes_eq holder h ≡ false
    off_two holder two
        = elim two [ inl q ↦ differs holder h (λ r. not_own (sym q ∙ r)) | inr q ↦ differs holder h (λ r. not_other (sym q ∙ r)) ]

    code_of : (ident : List ℕ) → IsOfTwo own other vs ident → bytes_eq (holder_of ident) h ≡ false
    code_of ident k =
        let f = found_one (is_current_of ident) vs k.version k.is in
        let q : k.version.ident ≡ ident
        = (bytes_eq-Decides k.version.ident ident).0 (and_parts (has_ident ident k.version) (is_current k.version) f.1).0 in
        ap (λ (i : List ℕ). bytes_eq (holder_of i) h) (sym q) ∙ All-contains (IsAtHome h) vs k.version home f.0 ∙ off_two k.version.holder
        k.holder

    kept_is : (ident : List ℕ) (k : IsOfTwo own other vs ident) → kept_holder own ident vs ≡ k.version.holder
    kept_is ident k = ap (λ (o : Option Version). unwrap_or (option_map (λ (v : Version). v.holder) o) own) k.is

    kept_two : (ident : List ℕ) → IsOfTwo own other vs ident → bytes_eq (kept_holder own ident vs) h ≡ false
    kept_two ident k = ap (λ (i : List ℕ). bytes_eq i h) (kept_is ident k) ∙ off_two k.version.holder k.holder

    other_off : (b : Bool) → bytes_eq (cond b other own) h ≡ false
    other_off true = differs other h not_other
    other_off false = differs own h not_own

    coded_deed : (d : Deed) → KeepsOff h own other vs d → bytes_eq (holder_of (ident_of (mutation_of d))) h ≡ false
    coded_deed (alone (Add ident item)) k = differs (holder_of ident) h k
    coded_deed (alone (Change ident was item)) k = code_of ident k
    coded_deed (alone (End ident was day)) k = code_of ident k
    coded_deed (handover ident was item) k = code_of ident k

    one : (v : Version) → IsOff h v → All (IsOff h) (v ∷ [])
    one v o = all_from (IsOff h) (v ∷ [])
        (λ x c. elim (contains_cases v x [] c) [ inl q ↦ subst (IsOff h) q o | inr d ↦ absurd (omega (arith, d.1)) ])

    begun_off : (d : Deed) → KeepsOff h own other vs d → All (IsOff h) (begun_by own other moment vs d)
    begun_off (alone (Add ident item)) k = one (new_version own ident item moment) (differs (holder_of ident) h k, differs own h not_own)
    begun_off (alone (Change ident was item)) k
        = one (new_version (kept_holder own ident vs) ident item moment) (code_of ident k, kept_two ident k)
    begun_off (alone (End ident was day)) k = λ i d l. absurd (omega (arith, l))
    begun_off (handover ident was item) k = one (new_version (other_than own other (kept_holder own ident vs)) ident item moment)
        (code_of ident k, other_off (bytes_eq (kept_holder own ident vs) own))

    all_coded : (ds : List Deed) → All (KeepsOff h own other vs) ds
        → All (λ x. bytes_eq (holder_of (ident_of x)) h ≡ false) (map mutation_of ds)
    all_coded ds a = All-map (λ x. bytes_eq (holder_of (ident_of x)) h ≡ false) mutation_of ds (λ i d l. coded_deed (get_or ds i d) (a i d l))

    all_off : (ds : List Deed) → All (KeepsOff h own other vs) ds → All (IsOff h) (flat_map (begun_by own other moment vs) ds)
    all_off [] a = λ i d l. absurd (omega (arith, l))
    all_off (d ∷ ds) a
        = All-append (IsOff h) (begun_by own other moment vs d) (flat_map (begun_by own other moment vs) ds)
        (begun_off d (All-head (KeepsOff h own other vs) d ds a)) (all_off ds (All-tail (KeepsOff h own other vs) d ds a))

pub joint_left : (h : List ℕ) (s : State) (j : Joint) → AreAtHome h s → j.own ≢ h → j.other ≢ h
    → All (KeepsOff h j.own j.other s.versions) j.deeds → AgreeOn h s (after_joint s j) × AreAtHome h (after_joint s j)
joint_left h s j home own other keeps =
    let codes = all_coded h j.own j.other j.moment s.versions home own other j.deeds keeps in
    let off = all_off h j.own j.other j.moment s.versions home own other j.deeds keeps in
    let new = flat_map (begun_by j.own j.other j.moment s.versions) j.deeds in (
      record {
        versions = sym (kept_off h j.moment (map mutation_of j.deeds) s.versions new home codes off);
        areas = sym (areas_left h j.other j.moment (λ q. other (sym q)) j.other_area
            (areas_after j.own j.moment j.area s.areas) ∙ areas_left h j.own j.moment (λ q. own (sym q)) j.area s.areas);
        last = sym (moment_of_others j.other h j.moment (last_after j.own j.moment s.last) (λ q. other (sym q)) ∙ moment_of_others j.own h
            j.moment s.last (λ q. own (sym q)));
      },
      home_off h j.moment (map mutation_of j.deeds) s.versions new home codes off,
    )
