-- What mutations do to one version: it stays, or it was current and ends.
use Rattle.std.proofs.Common.{◌≡◌, ℕ, refl, sym, ap, ◌∙◌, arith, inl, inr, List, [], ◌∷◌, subst}
use Rattle.std.specs.Prelude.{ℤ, true, false, Bool, ◌&&◌, ◌⊎◌, cond, Option, Some, None, is_none}
use Rattle.std.specs.List.{Contains}
use Rattle.std.proofs.Math.Bool.{and-false}
use Rattle.std.proofs.lemmas.Bool.{cases_Bool, and_from, and_parts, both_ways}
use Rattle.std.proofs.lemmas.Slice.Eq.{bytes_eq-Decides}
use Rattle.rd_plane.proofs.Members.{contains_head, contains_tail, contains_cases}
use Rattle.imgeo_types.specs.declared.item.Item.{Item}
use Rattle.message_text.specs.declared.message.Mutation.{Mutation}
use Rattle.message_text.specs.declared.message.Mutation.TheVariants.{Add, Change, End}
use Rattle.version_history.specs.declared.version.Version.{Version}
use Rattle.version_history.specs.Versions.{has_ident, is_current_of, ended}
use Rattle.map_rules.specs.After.{touched, touched_by}
use Rattle.level_rules.specs.declared.item.LevelItem.{LevelItem}
use Rattle.map_rules.specs.State.{part_of}

-- the mutation ends the version of this identification
abbrev pub IsEnding : Mutation → List ℕ → Type 0
IsEnding (Add i item) ident = ⊥
IsEnding (Change i was item) ident = i ≡ ident
IsEnding (End i was day) ident = i ≡ ident

pub record IsEnded (moment : ℤ) (ms : List Mutation) (v w : Version) : Type 0 where
  pub was : v.until ≡ None
  pub now : w.until ≡ Some moment
  pub by : Mutation
  pub of : Contains ms by
  pub ends : IsEnding by v.ident
  pub holder : w.holder ≡ v.holder
  pub ident : w.ident ≡ v.ident
  pub item : w.item ≡ v.item
  pub since : w.since ≡ v.since

not_current : (ident : List ℕ) (v : Version) (u : ℤ) → v.until ≡ Some u → is_current_of ident v ≡ false
not_current ident v u q = ap (λ (o : Option ℤ). has_ident ident v && is_none o) q ∙ and-false (has_ident ident v)

touched-ended : (moment : ℤ) (x : Mutation) (v : Version) (u : ℤ) → v.until ≡ Some u → touched moment x v ≡ v
touched-ended moment (Add i item) v u q = refl
touched-ended moment (Change i was item) v u q = ap (λ (b : Bool). cond b (ended moment None v) v) (not_current i v u q)
touched-ended moment (End i was day) v u q = ap (λ (b : Bool). cond b (ended moment (Some day) v) v) (not_current i v u q)

-- a version that has ended stays
pub stays : (moment : ℤ) (ms : List Mutation) (v : Version) (u : ℤ) → v.until ≡ Some u → touched_by moment ms v ≡ v
stays moment [] v u q = refl
stays moment (x ∷ ms) v u q = ap (λ (w : Version). touched_by moment ms w) (touched-ended moment x v u q) ∙ stays moment ms v u q

none_of : (u : Option ℤ) → is_none u ≡ true → u ≡ None
none_of None h = refl
none_of (Some t) h = absurd (both_ways false refl h)

by_ending : (moment : ℤ) (ms : List Mutation) (x : Mutation) (i : List ℕ) (day : Option ℤ) (v : Version) → IsEnding x i
    → is_current_of i v ≡ true → IsEnded moment (x ∷ ms) v (ended moment day v)
by_ending moment ms x i day v e t = let k = and_parts (has_ident i v) (is_none v.until) t in record {
  was = none_of v.until k.1;
  now = refl;
  by = x;
  of = contains_head x ms;
  ends = subst (IsEnding x) (sym ((bytes_eq-Decides v.ident i).0 k.0)) e;
  holder = refl;
  ident = refl;
  item = refl;
  since = refl;
}

by_one : (moment : ℤ) (ms : List Mutation) (x : Mutation) (v : Version)
    → (touched moment x v ≡ v) ⊎ IsEnded moment (x ∷ ms) v (touched moment x v)
by_one moment ms (Add i item) v = inl refl
by_one moment ms (Change i was item) v = elim (cases_Bool (is_current_of i v)) [
  | inl t ↦ inr (subst (λ (b : Bool). IsEnded moment (Change i was item ∷ ms) v (cond b (ended moment None v) v)) (sym t)
      (by_ending moment ms (Change i was item) i None v refl t))
  | inr t ↦ inl (ap (λ (b : Bool). cond b (ended moment None v) v) t)
]
by_one moment ms (End i was day) v = elim (cases_Bool (is_current_of i v)) [
  | inl t ↦ inr (subst (λ (b : Bool). IsEnded moment (End i was day ∷ ms) v (cond b (ended moment (Some day) v) v)) (sym t)
      (by_ending moment ms (End i was day) i (Some day) v refl t))
  | inr t ↦ inl (ap (λ (b : Bool). cond b (ended moment (Some day) v) v) t)
]

wider : (moment : ℤ) (ms : List Mutation) (x : Mutation) (v w : Version) → IsEnded moment ms v w → IsEnded moment (x ∷ ms) v w
wider moment ms x v w e = record {
  was = e.was;
  now = e.now;
  by = e.by;
  of = contains_tail x e.by ms e.of;
  ends = e.ends;
  holder = e.holder;
  ident = e.ident;
  item = e.item;
  since = e.since;
}

pub touch_cases : (moment : ℤ) (ms : List Mutation) (v : Version)
    → (touched_by moment ms v ≡ v) ⊎ IsEnded moment ms v (touched_by moment ms v)
touch_cases moment [] v = inl refl
touch_cases moment (x ∷ ms) v = elim (by_one moment ms x v) [
  | inl q ↦ elim (touch_cases moment ms v) [
    | inl r ↦ inl (ap (λ (w : Version). touched_by moment ms w) q ∙ r)
    | inr e ↦ inr (subst (λ (w : Version). IsEnded moment (x ∷ ms) v (touched_by moment ms w)) (sym q)
        (wider moment ms x v (touched_by moment ms v) e))
  ]
  | inr e ↦ inr (subst (IsEnded moment (x ∷ ms) v) (sym (stays moment ms (touched moment x v) moment e.now)) e)
]

-- a mutation that names the current version ends it
ends_now : (moment : ℤ) (x : Mutation) (v : Version) → v.until ≡ None → IsEnding x v.ident → (touched moment x v).until ≡ Some moment
ends_now moment (Add i item) v u e = absurd e
ends_now moment (Change i was item) v u e = ap (λ (b : Bool). (cond b (ended moment None v) v).until)
    (and_from (has_ident i v) (is_none v.until) ((bytes_eq-Decides v.ident i).1 (sym e)) (ap is_none u))
ends_now moment (End i was day) v u e = ap (λ (b : Bool). (cond b (ended moment (Some day) v) v).until)
    (and_from (has_ident i v) (is_none v.until) ((bytes_eq-Decides v.ident i).1 (sym e)) (ap is_none u))

pub ends_named : (moment : ℤ) (ms : List Mutation) (x : Mutation) (v : Version) → Contains ms x → v.until ≡ None → IsEnding x v.ident
    → (touched_by moment ms v).until ≡ Some moment
ends_named moment [] x v c u e = absurd (omega (arith, c.1))
ends_named moment (y ∷ ms) x v c u e = elim (by_one moment ms y v) [
  | inr k ↦ ap (λ (w : Version). w.until) (stays moment ms (touched moment y v) moment k.now) ∙ k.now
  | inl q ↦ elim (contains_cases y x ms c) [
    | inl r ↦ let n : (touched moment y v).until ≡ Some moment = ends_now moment y v u (subst (λ z. IsEnding z v.ident) (sym r) e)
        in ap (λ (w : Version). w.until) (stays moment ms (touched moment y v) moment n) ∙ n
    | inr d ↦ ap (λ (w : Version). (touched_by moment ms w).until) q ∙ ends_named moment ms x v d u e
  ]
]

-- ---- what no mutation changes
pub touched-holder : (moment : ℤ) (ms : List Mutation) (v : Version) → (touched_by moment ms v).holder ≡ v.holder
touched-holder moment ms v = elim (touch_cases moment ms v) [ inl q ↦ ap (λ (w : Version). w.holder) q | inr e ↦ e.holder ]

pub touched-since : (moment : ℤ) (ms : List Mutation) (v : Version) → (touched_by moment ms v).since ≡ v.since
touched-since moment ms v = elim (touch_cases moment ms v) [ inl q ↦ ap (λ (w : Version). w.since) q | inr e ↦ e.since ]

pub touched-ident : (moment : ℤ) (ms : List Mutation) (v : Version) → (touched_by moment ms v).ident ≡ v.ident
touched-ident moment ms v = elim (touch_cases moment ms v) [ inl q ↦ ap (λ (w : Version). w.ident) q | inr e ↦ e.ident ]

pub touched-item : (moment : ℤ) (ms : List Mutation) (v : Version) → (touched_by moment ms v).item ≡ v.item
touched-item moment ms v = elim (touch_cases moment ms v) [ inl q ↦ ap (λ (w : Version). w.item) q | inr e ↦ e.item ]

part : List ℕ → Item → LevelItem
part ident item = record { ident = ident; kind = item.kind; level = item.level; shape = item.rings }

pub touched-part : (moment : ℤ) (ms : List Mutation) (v : Version) → part_of (touched_by moment ms v) ≡ part_of v
unfolding part
touched-part moment ms v = ap (λ (i : List ℕ). part i (touched_by moment ms v).item)
    (touched-ident moment ms v) ∙ ap (λ (x : Item). part v.ident x) (touched-item moment ms v)
