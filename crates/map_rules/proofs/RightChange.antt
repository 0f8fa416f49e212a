-- The change of a message that the rules let pass is such as the holder's map asks for.
use Rattle.std.proofs.Common.{◌≡◌, ℕ, refl, sym, ap, ◌∙◌, arith, ◌+◌, ◌<◌, inl, inr, List, [], ◌∷◌, ◌++◌, length, map, subst}
use Rattle.std.specs.Prelude.{ℤ, ◌^◌, true, false, Bool, not, ◌≢◌, cond, filter, Option, Some, None, is_none}
use Rattle.std.specs.List.{All, AllPairs, Contains, flat_map}
use Rattle.std.specs.Str.{bytes_eq}
use Rattle.std.proofs.lemmas.Bool.{cases_Bool, and_from, and_parts, both_ways}
use Rattle.std.proofs.lemmas.List.Elements.{All-contains}
use Rattle.std.proofs.lemmas.List.Kept.{AllPairs-cons, AllPairs-filter}
use Rattle.std.proofs.lemmas.Slice.Eq.{bytes_eq-Decides}
use Rattle.rd_plane.specs.Covering.{IsSoundArea}
use Rattle.rd_plane.specs.Plane.{Vertex}
use Rattle.rd_plane.proofs.Members.{contains_head, contains_tail, contains_cases}
use Rattle.message_text.specs.declared.message.Message.{Message}
use Rattle.message_text.specs.declared.message.Mutation.{Mutation}
use Rattle.message_text.specs.declared.message.Mutation.TheVariants.{Add, Change as Alter, End}
use Rattle.version_history.specs.declared.version.Version.{Version}
use Rattle.map_rules.specs.Rules.{ident_of}
use Rattle.map_rules.specs.State.{State, is_object_of, map_now, part_of, parts_now}
use Rattle.area_book.specs.declared.version.AreaVersion.{AreaVersion}
use Rattle.area_book.specs.Throughout.{HasEndedBy}
use Rattle.level_rules.specs.declared.item.LevelItem.{LevelItem}
use Rattle.local_check.specs.Maps.{IsRightChange, leaves, staying}
use Rattle.local_check.proofs.Staying.{any_from}
use Rattle.map_rules.specs.Changes.{change_of, coming_by, leaving_by, part}
use Rattle.map_rules.specs.Good.{Follows, Good, IsFine, IsFineArea, IsOwn}
use Rattle.map_rules.proofs.Changing.{leaving_from, leaving_to}
use Rattle.map_rules.proofs.Lists.{all_from, from_filter, pairs_head, pairs_joined, pairs_tail}
use Rattle.map_rules.proofs.Touching.{IsEnding}

-- ---- lists
in_map : {X Y : Type 0} (F : X → Y) (xs : List X) (x : X) → Contains xs x → Contains (map F xs) (F x)
in_map F [] x c = absurd (omega (arith, c.1))
in_map F (y ∷ xs) x c = elim (contains_cases y x xs c) [
  | inl q ↦ subst (λ z. Contains (F y ∷ map F xs) (F z)) q (contains_head (F y) (map F xs))
  | inr d ↦ contains_tail (F y) (F x) (map F xs) (in_map F xs x d)
]

pub out_map : {X Y : Type 0} (F : X → Y) (xs : List X) (y : Y) → Contains (map F xs) y → (x : X) × Contains xs x × (F x ≡ y)
out_map F [] y c = absurd (omega (arith, c.1))
out_map F (x ∷ xs) y c = elim (contains_cases (F x) y (map F xs) c) [
  | inl q ↦ (x, contains_head x xs, q)
  | inr d ↦ let k = out_map F xs y d in (k.0, contains_tail x k.0 xs k.1, k.2)
]

in_filter : {X : Type 0} (p : X → Bool) (xs : List X) (x : X) → Contains xs x → p x ≡ true → Contains (filter p xs) x
in_filter p [] x c h = absurd (omega (arith, c.1))
in_filter p (y ∷ xs) x c h = elim (contains_cases y x xs c) [
  | inl e ↦ subst (λ (b : Bool). Contains (cond b (y ∷ filter p xs) (filter p xs)) x) (sym (ap p e ∙ h))
      (subst (Contains (y ∷ filter p xs)) e (contains_head y (filter p xs)))
  | inr d ↦ elim (cases_Bool (p y)) [
    | inl t ↦ subst (λ (b : Bool). Contains (cond b (y ∷ filter p xs) (filter p xs)) x) (sym t)
        (contains_tail y x (filter p xs) (in_filter p xs x d h))
    | inr t ↦ subst (λ (b : Bool). Contains (cond b (y ∷ filter p xs) (filter p xs)) x) (sym t) (in_filter p xs x d h)
  ]
]

passed : {X : Type 0} (p : X → Bool) (xs : List X) (x : X) → Contains (filter p xs) x → p x ≡ true
passed p [] x c = absurd (omega (arith, c.1))
passed p (y ∷ xs) x c = elim (cases_Bool (p y)) [
  | inl t ↦ elim (contains_cases y x (filter p xs) (subst (λ (b : Bool). Contains (cond b (y ∷ filter p xs) (filter p xs)) x) t c)) [
    | inl e ↦ subst (λ z. p z ≡ true) e t
    | inr d ↦ passed p xs x d
  ]
  | inr t ↦ passed p xs x (subst (λ (b : Bool). Contains (cond b (y ∷ filter p xs) (filter p xs)) x) t c)
]

read_pairs : {X Y : Type 0} (R : Y → Y → Type 0) (F : X → Y) (xs : List X) → AllPairs (λ x y. R (F x) (F y)) xs → AllPairs R (map F xs)
read_pairs R F [] p = λ i j d l n. absurd (omega (arith, n))
read_pairs R F (x ∷ xs) p = AllPairs-cons R (F x) (map F xs)
    (all_from (R (F x)) (map F xs) (λ y c. let k = out_map F xs y c in subst (R (F x)) k.2
    (All-contains (λ z. R (F x) (F z)) xs k.0 (pairs_head (λ a b. R (F a) (F b)) x xs p) k.1)))
    (read_pairs R F xs (pairs_tail (λ a b. R (F a) (F b)) x xs p))

-- ---- identifications
abbrev pub Apart : LevelItem → LevelItem → Type 0
Apart x y = x.ident ≢ y.ident

named : (x : Mutation) (ident : List ℕ) → IsEnding x ident → ident_of x ≡ ident
named (Add i item) ident e = absurd e
named (Alter i was item) ident e = e
named (End i was day) ident e = e

abbrev pub Once : Mutation → Mutation → Type 0
Once x y = ident_of x ≢ ident_of y

ends_differ : (x : Mutation) (ms : List Mutation) → All (Once x) ms → All (λ i. ident_of x ≢ i) (flat_map leaving_by ms)
ends_differ x ms a = all_from (λ i. ident_of x ≢ i) (flat_map leaving_by ms)
    (λ i c q. let k = leaving_to ms i c in All-contains (Once x) ms k.0 a k.1 (q ∙ sym (named k.0 i k.2)))

pub leaving_differ : (ms : List Mutation) → AllPairs Once ms → AllPairs ◌≢◌ (flat_map leaving_by ms)
leaving_differ [] p = λ i j d l n. absurd (omega (arith, n))
leaving_differ (Add i item ∷ ms) p = leaving_differ ms (pairs_tail Once (Add i item) ms p)
leaving_differ (Alter i was item ∷ ms) p = AllPairs-cons ◌≢◌ i (flat_map leaving_by ms)
    (ends_differ (Alter i was item) ms (pairs_head Once (Alter i was item) ms p))
    (leaving_differ ms (pairs_tail Once (Alter i was item) ms p))
leaving_differ (End i was day ∷ ms) p = AllPairs-cons ◌≢◌ i (flat_map leaving_by ms)
    (ends_differ (End i was day) ms (pairs_head Once (End i was day) ms p)) (leaving_differ ms (pairs_tail Once (End i was day) ms p))

-- the mutation brings an object of this identification
abbrev Brings : Mutation → List ℕ → Type 0
Brings (Add i item) ident = i ≡ ident
Brings (Alter i was item) ident = i ≡ ident
Brings (End i was day) ident = ⊥

brought : (x : Mutation) (ident : List ℕ) → Brings x ident → ident_of x ≡ ident
brought (Add i item) ident e = e
brought (Alter i was item) ident e = e
brought (End i was day) ident e = absurd e

coming_to : (ms : List Mutation) (y : LevelItem) → Contains (flat_map coming_by ms) y → (x : Mutation) × Contains ms x × Brings x y.ident
coming_to [] y c = absurd (omega (arith, c.1))
coming_to (Add i item ∷ ms) y c = elim (contains_cases (part i item) y (flat_map coming_by ms) c) [
  | inl q ↦ (Add i item, contains_head (Add i item) ms, ap (λ (z : LevelItem). z.ident) q)
  | inr d ↦ let k = coming_to ms y d in (k.0, contains_tail (Add i item) k.0 ms k.1, k.2)
]
coming_to (Alter i was item ∷ ms) y c = elim (contains_cases (part i item) y (flat_map coming_by ms) c) [
  | inl q ↦ (Alter i was item, contains_head (Alter i was item) ms, ap (λ (z : LevelItem). z.ident) q)
  | inr d ↦ let k = coming_to ms y d in (k.0, contains_tail (Alter i was item) k.0 ms k.1, k.2)
]
coming_to (End i was day ∷ ms) y c = let k = coming_to ms y c in (k.0, contains_tail (End i was day) k.0 ms k.1, k.2)

come_differ : (x : Mutation) (ms : List Mutation) (z : LevelItem) → z.ident ≡ ident_of x → All (Once x) ms
    → All (Apart z) (flat_map coming_by ms)
come_differ x ms z e a = all_from (Apart z) (flat_map coming_by ms)
    (λ y c q. let k = coming_to ms y c in All-contains (Once x) ms k.0 a k.1 (sym e ∙ q ∙ sym (brought k.0 y.ident k.2)))

coming_differ : (ms : List Mutation) → AllPairs Once ms → AllPairs Apart (flat_map coming_by ms)
coming_differ [] p = λ i j d l n. absurd (omega (arith, n))
coming_differ (Add i item ∷ ms) p = AllPairs-cons Apart (part i item) (flat_map coming_by ms)
    (come_differ (Add i item) ms (part i item) refl (pairs_head Once (Add i item) ms p))
    (coming_differ ms (pairs_tail Once (Add i item) ms p))
coming_differ (Alter i was item ∷ ms) p = AllPairs-cons Apart (part i item) (flat_map coming_by ms)
    (come_differ (Alter i was item) ms (part i item) refl (pairs_head Once (Alter i was item) ms p))
    (coming_differ ms (pairs_tail Once (Alter i was item) ms p))
coming_differ (End i was day ∷ ms) p = coming_differ ms (pairs_tail Once (End i was day) ms p)

-- ---- current objects
none_until : (u : Option ℤ) → is_none u ≡ true → u ≡ None
none_until None h = refl
none_until (Some t) h = absurd (both_ways false refl h)

no_end : (h : List ℕ) (v : Version) → is_object_of h v ≡ true → v.until ≡ None
no_end h v t = none_until v.until (and_parts (bytes_eq v.holder h) (is_none v.until) t).1

current_differ : (h : List ℕ) (vs : List Version) → AllPairs Follows vs
    → AllPairs (λ (v w : Version). v.ident ≢ w.ident) (filter (is_object_of h) vs)
current_differ h [] p = λ i j d l n. absurd (omega (arith, n))
current_differ h (v ∷ vs) p = elim (cases_Bool (is_object_of h v)) [
  | inl t ↦ subst (λ (b : Bool). AllPairs (λ (x w : Version). x.ident ≢ w.ident)
      (cond b (v ∷ filter (is_object_of h) vs) (filter (is_object_of h) vs))) (sym t)
      (AllPairs-cons (λ (x w : Version). x.ident ≢ w.ident) v (filter (is_object_of h) vs)
      (all_from (λ (w : Version). v.ident ≢ w.ident) (filter (is_object_of h) vs)
      (λ w c q. subst (HasEndedBy w.since) (no_end h v t)
      (All-contains (Follows v) vs w (pairs_head Follows v vs p) (from_filter (is_object_of h) vs w c) q)))
      (current_differ h vs (pairs_tail Follows v vs p)))
  | inr t ↦ subst (λ (b : Bool). AllPairs (λ (x w : Version). x.ident ≢ w.ident)
      (cond b (v ∷ filter (is_object_of h) vs) (filter (is_object_of h) vs))) (sym t) (current_differ h vs (pairs_tail Follows v vs p))
]

pub parts_differ : (h : List ℕ) (vs : List Version) → AllPairs Follows vs → AllPairs Apart (parts_now h vs)
parts_differ h vs p = read_pairs Apart part_of (filter (is_object_of h) vs) (current_differ h vs p)

own_part : (h : List ℕ) (vs : List Version) (ident : List ℕ) → IsOwn vs h ident
    → Contains (map (λ (p : LevelItem). p.ident) (parts_now h vs)) ident
own_part h vs ident o = subst (Contains (map (λ (p : LevelItem). p.ident) (parts_now h vs))) o.ident_is
    (in_map (λ (p : LevelItem). p.ident) (parts_now h vs) (part_of o.version) (in_map part_of (filter (is_object_of h) vs) o.version
    (in_filter (is_object_of h) vs o.version o.of (and_from (bytes_eq o.version.holder h) (is_none o.version.until)
    ((bytes_eq-Decides o.version.holder h).1 o.own) (ap is_none o.current)))))

own_of : (vs : List Version) (h ident : List ℕ) (x : Mutation) → IsFine vs h x → IsEnding x ident → IsOwn vs h ident
own_of vs h ident (Add i item) f e = absurd e
own_of vs h ident (Alter i was item) f e = subst (IsOwn vs h) e f.0
own_of vs h ident (End i was day) f e = subst (IsOwn vs h) e f

-- an object that stays has no identification that comes
cross : (vs : List Version) (h : List ℕ) (ms : List Mutation) (x : LevelItem) (y : LevelItem) (b : Mutation)
    → Contains (staying (flat_map leaving_by ms) (parts_now h vs)) x → Contains ms b → IsFine vs h b → Brings b y.ident → Apart x y
cross vs h ms x y (Add i item) c o f e q = let k = out_map part_of (filter (is_object_of h) vs) x
    (from_filter (λ p. not (leaves (flat_map leaving_by ms) p)) (parts_now h vs) x c) in
    f.0 k.0 (from_filter (is_object_of h) vs k.0 k.1) (ap (λ (z : LevelItem). z.ident) k.2 ∙ q ∙ sym e)
cross vs h ms x y (Alter i was item) c o f e q = both_ways (not (leaves (flat_map leaving_by ms) x))
    (ap not (any_from x.ident (flat_map leaving_by ms) (leaving_from ms (Alter i was item) x.ident o (e ∙ sym q))))
    (passed (λ p. not (leaves (flat_map leaving_by ms) p)) (parts_now h vs) x c)
cross vs h ms x y (End i was day) c o f e q = e

sound_block : (areas : List AreaVersion) (h : List ℕ) (moment : ℤ) (area : Option (List (List (List Vertex))))
    → IsFineArea areas h moment area → (shapes : List (List (List Vertex))) → area ≡ Some shapes → IsSoundArea shapes
sound_block areas h moment None f shapes q = cc
sound_block areas h moment (Some own) f shapes q = let e : own ≡ shapes = cc in subst IsSoundArea e f.1.sound

-- what leaves is current
pub leaving_current : (s : State) (m : Message) → All (IsFine s.versions m.holder) m.mutations
    → All (λ ident. Contains (map (λ (p : LevelItem). p.ident) (parts_now m.holder s.versions)) ident) (flat_map leaving_by m.mutations)
leaving_current s m fine = all_from (λ ident. Contains (map (λ (p : LevelItem). p.ident) (parts_now m.holder s.versions)) ident)
    (flat_map leaving_by m.mutations)
    (λ ident c. let k = leaving_to m.mutations ident c in own_part m.holder s.versions ident
    (own_of s.versions m.holder ident k.0 (All-contains (IsFine s.versions m.holder) m.mutations k.0 fine k.1) k.2))

pub right_change : (s : State) (m : Message) → Good s → AllPairs Once m.mutations → All (IsFine s.versions m.holder) m.mutations
    → IsFineArea s.areas m.holder m.moment m.area →
    length (parts_now m.holder s.versions) + length (flat_map coming_by m.mutations) < 2 ^ 32
    → IsRightChange (map_now m.holder s) (change_of m)
right_change s m g once fine area few = record {
  leaving = leaving_current s m fine;
  different = leaving_differ m.mutations once;
  new = read_pairs ◌≢◌ (λ (p : LevelItem). p.ident)
      (staying (flat_map leaving_by m.mutations) (parts_now m.holder s.versions) ++ flat_map coming_by m.mutations)
      (pairs_joined Apart (staying (flat_map leaving_by m.mutations) (parts_now m.holder s.versions)) (flat_map coming_by m.mutations)
      (AllPairs-filter Apart (λ p. not (leaves (flat_map leaving_by m.mutations) p)) (parts_now m.holder s.versions)
      (parts_differ m.holder s.versions g.in_turn)) (coming_differ m.mutations once)
      (λ x y cx cy. let k = coming_to m.mutations y cy in cross s.versions m.holder m.mutations x y k.0 cx k.1
      (All-contains (IsFine s.versions m.holder) m.mutations k.0 fine k.1) k.2));
  area = sound_block s.areas m.holder m.moment m.area area;
  few = few;
}
