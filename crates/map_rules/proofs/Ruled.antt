-- What the rules of mutations say where they refuse nothing.
use Rattle.std.proofs.Common.{◌≡◌, ℕ, refl, sym, ap, ◌∙◌, arith, ◌+◌, inl, inr, List, [], ◌∷◌, ◌++◌, length, subst}
use Rattle.std.specs.Prelude.{ℤ, true, false, Bool, not, ◌≢◌, ◌⊎◌, cond, find, Option, Some, None, is_some}
use Rattle.std.specs.List.{All, AllPairs, Contains, list_any}
use Rattle.std.specs.Str.{bytes_eq}
use Rattle.std.proofs.lemmas.Bool.{cases_Bool, and_parts, both_ways}
use Rattle.std.proofs.lemmas.List.Elements.{All-cons}
use Rattle.std.proofs.lemmas.List.Kept.{AllPairs-cons}
use Rattle.std.proofs.lemmas.Slice.Eq.{bytes_eq-Decides}
use Rattle.rd_plane.proofs.Members.{contains_head, contains_tail, contains_cases}
use Rattle.message_text.specs.declared.message.Message.{Message}
use Rattle.message_text.specs.declared.message.Mutation.{Mutation}
use Rattle.message_text.specs.declared.message.Mutation.TheVariants.{Add, Change as Alter, End}
use Rattle.rd_plane.specs.Rule.{when}
use Rattle.version_history.specs.declared.version.Version.{Version}
use Rattle.version_history.specs.Versions.{current_of, has_ident, is_current, is_current_of, last_of}
use Rattle.map_rules.specs.declared.refusal.Refusal.{Refusal}
use Rattle.map_rules.specs.Rules.{header_of, MutationsRule, ShapeRule, change_refusal, end_day_refusal, has_twice, ident_of, kind_refusal, mutation_refusal}
use Rattle.map_rules.proofs.Finding.{find-reverse_none, neither}
use Rattle.map_rules.specs.Good.{IsFine, IsOwn}
use Rattle.map_rules.proofs.Lists.{all_from}

pub when_none : {A : Type 0} (test : Bool) (a : A) (next : Option A) → when test a next ≡ None → (test ≡ false) × (next ≡ None)
when_none true a next e = cc
when_none false a next e = (refl, e)

none_some : {A : Type 0} (o : Option A) → is_some o ≡ false → o ≡ None
none_some None e = refl
none_some (Some a) e = cc

not_false : (b : Bool) → not b ≡ false → b ≡ true
not_false true e = refl
not_false false e = cc

-- ---- searches
none_passes : {A : Type 0} (p : A → Bool) (xs : List A) (x : A) → list_any p xs ≡ false → Contains xs x → p x ≡ false
none_passes p [] x h c = absurd (omega (arith, c.1))
none_passes p (y ∷ xs) x h c = let k = neither (p y) (list_any p xs) h in elim (contains_cases y x xs c) [
  | inl q ↦ subst (λ z. p z ≡ false) q k.0
  | inr d ↦ none_passes p xs x k.1 d
]

found_one : {A : Type 0} (p : A → Bool) (xs : List A) (x : A) → find p xs ≡ Some x → Contains xs x × (p x ≡ true)
found_one p [] x e = cc
found_one {A} p (y ∷ xs) x e = elim (cases_Bool (p y)) [
  | inl t ↦ let s : Some y ≡ Some x = sym (ap (λ (b : Bool). cond b (Some y) (find p xs)) t) ∙ e in let q : y ≡ x = cc in
      (subst (Contains (y ∷ xs)) q (contains_head y xs), subst (λ z. p z ≡ true) q t)
  | inr t ↦ let k = found_one p xs x (sym (ap (λ (b : Bool). cond b (Some y) (find p xs)) t) ∙ e) in (contains_tail y x xs k.0, k.1)
]

-- ---- one mutation
new_ident : (vs : List Version) (ident : List ℕ) → last_of ident vs ≡ None → (v : Version) → Contains vs v → v.ident ≢ ident
new_ident vs ident e v c q = both_ways (has_ident ident v) (none_passes (has_ident ident) vs v (find-reverse_none (has_ident ident) vs e) c)
    ((bytes_eq-Decides v.ident ident).1 q)

none_until : (u : Option ℤ) → (is_some u ≡ true → ⊥) → u ≡ None
none_until None h = refl
none_until (Some t) h = absurd (h refl)

own_version : (vs : List Version) (m : Message) (at : ℕ) (was : ℤ) (ident : List ℕ) (next : Version → Option Refusal)
    → change_refusal (header_of m) at was next (last_of ident vs) (current_of ident vs) ≡ None → IsOwn vs m.holder ident
own_version vs m at was ident next e = by (current_of ident vs) refl
  where
    by : (o : Option Version) → current_of ident vs ≡ o → IsOwn vs m.holder ident
    by None q = let k : change_refusal (header_of m) at was next (last_of ident vs) None ≡ None = subst
        (λ (o : Option Version). change_refusal (header_of m) at was next (last_of ident vs) o ≡ None) q e in cc
    by (Some v) q =
        let k : change_refusal (header_of m) at was next (last_of ident vs) (Some v) ≡ None = subst
        (λ (o : Option Version). change_refusal (header_of m) at was next (last_of ident vs) o ≡ None) q e in
        let f = found_one (is_current_of ident) vs v q in
        let p = and_parts (has_ident ident v) (is_current v) f.1 in record {
          version = v;
          of = f.0;
          ident_is = (bytes_eq-Decides v.ident ident).0 p.0;
          current = none_until v.until (λ s. is_not v.until s p.1);
          own = (bytes_eq-Decides v.holder m.holder).0 (not_false (bytes_eq v.holder m.holder) (when_none _ _ _ k).0);
        }
      where
        is_not : (u : Option ℤ) → is_some u ≡ true → Rattle.std.specs.Prelude.is_none u ≡ true → ⊥
        is_not None s n = both_ways false refl s
        is_not (Some t) s n = both_ways false refl n

fine_one : (vs : List Version) (m : Message) (at : ℕ) (x : Mutation) → mutation_refusal vs (header_of m) at x ≡ None → ShapeRule at x None
    → IsFine vs m.holder x
fine_one vs m at (Add ident item) e s = (new_ident vs ident (none_some (last_of ident vs) (when_none _ _ _ (when_none _ _ _ e).1).0), s)
fine_one vs m at (Alter ident was item) e s = (own_version vs m at was ident (kind_refusal (header_of m) at item) e, s)
fine_one vs m at (End ident was day) e s = own_version vs m at was ident (end_day_refusal (header_of m) at day) e

pub all_fine : (vs : List Version) (m : Message) (before ms : List Mutation) → MutationsRule vs m before ms None
    → All (IsFine vs m.holder) ms
unfolding MutationsRule
all_fine vs m before [] h = λ k d l. absurd (omega (arith, l))
all_fine vs m before (x ∷ ms) h = All-cons (IsFine vs m.holder) x ms (fine_one vs m (length before + 1) x (sym h.1.0) h.1.1.0)
    (all_fine vs m (before ++ x ∷ []) ms h.1.1.1)

-- ---- no identification twice
abbrev Differ : Mutation → Mutation → Type 0
Differ x y = ident_of x ≢ ident_of y

not_twice : (before : List Mutation) (x y : Mutation) → has_twice before x ≡ false → Contains before y → Differ y x
not_twice before x y h c q = both_ways (bytes_eq (ident_of y) (ident_of x))
    (none_passes (λ other. bytes_eq (ident_of other) (ident_of x)) before y h c) ((bytes_eq-Decides (ident_of y) (ident_of x)).1 q)

more_left : (xs : List Mutation) (x y : Mutation) → Contains xs y → Contains (xs ++ x ∷ []) y
more_left [] x y c = absurd (omega (arith, c.1))
more_left (z ∷ xs) x y c = elim (contains_cases z y xs c) [
  | inl q ↦ subst (Contains (z ∷ (xs ++ x ∷ []))) q (contains_head z (xs ++ x ∷ []))
  | inr d ↦ contains_tail z y (xs ++ x ∷ []) (more_left xs x y d)
]

last_one : (xs : List Mutation) (x : Mutation) → Contains (xs ++ x ∷ []) x
last_one [] x = contains_head x []
last_one (z ∷ xs) x = contains_tail z x (xs ++ x ∷ []) (last_one xs x)

apart_from : (vs : List Version) (m : Message) (before ms : List Mutation) → MutationsRule vs m before ms None → (y x : Mutation)
    → Contains before y
    → Contains ms x → Differ y x
unfolding MutationsRule
apart_from vs m before [] h y x cy cx = absurd (omega (arith, cx.1))
apart_from vs m before (z ∷ ms) h y x cy cx = elim (contains_cases z x ms cx) [
  | inl q ↦ subst (Differ y) q (not_twice before z y (when_none _ _ _ (sym h.0)).0 cy)
  | inr d ↦ apart_from vs m (before ++ z ∷ []) ms h.1.1.1 y x (more_left before z y cy) d
]

pub all_once : (vs : List Version) (m : Message) (before ms : List Mutation) → MutationsRule vs m before ms None → AllPairs Differ ms
unfolding MutationsRule
all_once vs m before [] h = λ i j d l n. absurd (omega (arith, n))
all_once vs m before (x ∷ ms) h = AllPairs-cons Differ x ms
    (all_from (Differ x) ms (λ y c. apart_from vs m (before ++ x ∷ []) ms h.1.1.1 x y (last_one before x) c))
    (all_once vs m (before ++ x ∷ []) ms h.1.1.1)
