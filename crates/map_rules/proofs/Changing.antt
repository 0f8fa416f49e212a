-- The current map that a message leaves is the one that its change makes.
use Rattle.std.proofs.Common.{◌≡◌, ℕ, refl, sym, ap, ◌∙◌, arith, inl, inr, List, [], ◌∷◌, ◌++◌, map, subst}
use Rattle.std.specs.Prelude.{ℤ, true, false, Bool, not, ◌&&◌, cond, filter, find, Option, Some, None, is_none, option_map, unwrap_or}
use Rattle.std.specs.List.{Contains, flat_map}
use Rattle.std.specs.Str.{bytes_eq}
use Rattle.std.proofs.Math.Bool.{and-false}
use Rattle.std.proofs.lemmas.Bool.{cases_Bool, both_ways}
use Rattle.std.proofs.lemmas.Slice.Eq.{bytes_eq-Decides}
use Rattle.rd_plane.specs.Plane.{Vertex}
use Rattle.rd_plane.proofs.Members.{contains_head, contains_tail, contains_cases}
use Rattle.message_text.specs.declared.message.Message.{Message}
use Rattle.message_text.specs.declared.message.Mutation.{Mutation}
use Rattle.message_text.specs.declared.message.Mutation.TheVariants.{Add, Change as Alter, End}
use Rattle.version_history.specs.declared.version.Version.{Version}
use Rattle.map_rules.specs.After.{after, areas_after, begun, touched_by, versions_after}
use Rattle.map_rules.specs.State.{State, is_object_of, map_now, part_of, parts_now}
use Rattle.area_book.specs.declared.version.AreaVersion.{AreaVersion}
use Rattle.area_book.specs.Areas.{area_ended, area_of, is_area_of, new_area}
use Rattle.level_rules.specs.declared.item.LevelItem.{LevelItem}
use Rattle.local_check.specs.Maps.{changed, leaves, staying}
use Rattle.local_check.proofs.Staying.{any_from, any_to}
use Rattle.map_rules.specs.Changes.{change_of, coming_by, leaving_by}
use Rattle.map_rules.proofs.Lists.{kept-append}
use Rattle.map_rules.proofs.Taken.{same_map}
use Rattle.map_rules.proofs.Touching.{IsEnding, ends_named, stays, touch_cases, touched-holder, touched-part}

abbrev Shapes : Type 0
Shapes = List (List (List Vertex))

-- ---- lists
narrowed_one : {X Y : Type 0} (F : X → Y) (b : Bool) (r : Y → Bool) (x y : X) (xs : List X) (ys : List Y) → F y ≡ F x → map F xs ≡ ys
    → map F (cond (b && r (F x)) (y ∷ xs) xs) ≡ cond b (cond (r (F x)) (F x ∷ ys) ys) ys
narrowed_one {Y = Y} F true r x y xs ys e q = elim (r (F x)) as (λ (t : Bool). map F (cond t (y ∷ xs) xs) ≡ cond t (F x ∷ ys) ys) [
  | true ↦ ap (λ (z : Y). z ∷ map F xs) e ∙ ap (λ (l : List Y). F x ∷ l) q
  | false ↦ q
]
narrowed_one F false r x y xs ys e q = q

pulled : {X Y : Type 0} (F : X → Y) (b : Bool) (r : Y → Bool) (x : X) (l : List X)
    → cond b (cond (r (F x)) (F x ∷ filter r (map F l)) (filter r (map F l))) (filter r (map F l)) ≡ filter r (map F (cond b (x ∷ l) l))
pulled F true r x l = refl
pulled F false r x l = refl

narrowed : {X Y : Type 0} (F : X → Y) (p : X → Bool) (r : Y → Bool) (f : X → X) (xs : List X) → ((x : X) → p (f x) ≡ (p x && r (F x)))
    → ((x : X) → F (f x) ≡ F x) → map F (filter p (map f xs)) ≡ filter r (map F (filter p xs))
narrowed F p r f [] h g = refl
narrowed F p r f (x ∷ xs) h g = ap (λ (b : Bool). map F (cond b (f x ∷ filter p (map f xs)) (filter p (map f xs)))) (h x)
    ∙ narrowed_one F (p x) r x (f x) (filter p (map f xs)) (filter r (map F (filter p xs))) (g x) (narrowed F p r f xs h g)
    ∙ pulled F (p x) r x (filter p xs)

found_behind : {X : Type 0} (p : X → Bool) (f : X → X) (xs : List X) (y : X) → ((x : X) → p (f x) ≡ false) → p y ≡ true
    → find p (map f xs ++ y ∷ []) ≡ Some y
found_behind p f [] y h t = ap (λ (b : Bool). cond b (Some y) None) t
found_behind p f (x ∷ xs) y h t = ap (λ (b : Bool). cond b (Some (f x)) (find p (map f xs ++ y ∷ []))) (h x) ∙ found_behind p f xs y h t

-- ---- who leaves
pub leaving_to : (ms : List Mutation) (ident : List ℕ) → Contains (flat_map leaving_by ms) ident
    → (x : Mutation) × Contains ms x × IsEnding x ident
leaving_to [] ident c = absurd (omega (arith, c.1))
leaving_to (Add i item ∷ ms) ident c = let k = leaving_to ms ident c in (k.0, contains_tail (Add i item) k.0 ms k.1, k.2)
leaving_to (Alter i was item ∷ ms) ident c = elim (contains_cases i ident (flat_map leaving_by ms) c) [
  | inl q ↦ (Alter i was item, contains_head (Alter i was item) ms, q)
  | inr d ↦ let k = leaving_to ms ident d in (k.0, contains_tail (Alter i was item) k.0 ms k.1, k.2)
]
leaving_to (End i was day ∷ ms) ident c = elim (contains_cases i ident (flat_map leaving_by ms) c) [
  | inl q ↦ (End i was day, contains_head (End i was day) ms, q)
  | inr d ↦ let k = leaving_to ms ident d in (k.0, contains_tail (End i was day) k.0 ms k.1, k.2)
]

by_head : (x : Mutation) (ms : List Mutation) (ident : List ℕ) → IsEnding x ident → Contains (flat_map leaving_by (x ∷ ms)) ident
by_head (Add i item) ms ident e = absurd e
by_head (Alter i was item) ms ident e = subst (Contains (i ∷ flat_map leaving_by ms)) e (contains_head i (flat_map leaving_by ms))
by_head (End i was day) ms ident e = subst (Contains (i ∷ flat_map leaving_by ms)) e (contains_head i (flat_map leaving_by ms))

by_tail : (x : Mutation) (ms : List Mutation) (ident : List ℕ) → Contains (flat_map leaving_by ms) ident
    → Contains (flat_map leaving_by (x ∷ ms)) ident
by_tail (Add i item) ms ident c = c
by_tail (Alter i was item) ms ident c = contains_tail i ident (flat_map leaving_by ms) c
by_tail (End i was day) ms ident c = contains_tail i ident (flat_map leaving_by ms) c

pub leaving_from : (ms : List Mutation) (x : Mutation) (ident : List ℕ) → Contains ms x → IsEnding x ident
    → Contains (flat_map leaving_by ms) ident
leaving_from [] x ident c e = absurd (omega (arith, c.1))
leaving_from (y ∷ ms) x ident c e = elim (contains_cases y x ms c) [
  | inl q ↦ by_head y ms ident (subst (λ z. IsEnding z ident) (sym q) e)
  | inr d ↦ by_tail y ms ident (leaving_from ms x ident d e)
]

-- ---- one version
current_then : (moment : ℤ) (ms : List Mutation) (v : Version) (u : Option ℤ) → v.until ≡ u
    → is_none (touched_by moment ms v).until ≡ (is_none u && not (leaves (flat_map leaving_by ms) (part_of v)))
current_then moment ms v (Some u) q = ap (λ (w : Version). is_none w.until) (stays moment ms v u q) ∙ ap is_none q
current_then moment ms v None q = elim (cases_Bool (leaves (flat_map leaving_by ms) (part_of v))) [
  | inl t ↦ let k = leaving_to ms v.ident (any_to v.ident (flat_map leaving_by ms) t) in ap is_none
      (ends_named moment ms k.0 v k.1 q k.2) ∙ sym (ap not t)
  | inr t ↦ elim (touch_cases moment ms v) [
    | inl r ↦ ap (λ (w : Version). is_none w.until) r ∙ ap is_none q ∙ sym (ap not t)
    | inr e ↦ absurd (both_ways (leaves (flat_map leaving_by ms) (part_of v)) t
        (any_from v.ident (flat_map leaving_by ms) (leaving_from ms e.by v.ident e.of e.ends)))
  ]
]

and_again : (a b c : Bool) → (a && (b && c)) ≡ ((a && b) && c)
and_again true b c = refl
and_again false b c = refl

object_then : (h : List ℕ) (moment : ℤ) (ms : List Mutation) (v : Version)
    → is_object_of h (touched_by moment ms v) ≡ (is_object_of h v && not (leaves (flat_map leaving_by ms) (part_of v)))
object_then h moment ms v = ap (λ (o : List ℕ). bytes_eq o h && is_none (touched_by moment ms v).until) (touched-holder moment ms v)
    ∙ ap (λ (b : Bool). bytes_eq v.holder h && b) (current_then moment ms v v.until refl) ∙ and_again (bytes_eq v.holder h)
    (is_none v.until) (not (leaves (flat_map leaving_by ms) (part_of v)))

-- ---- the versions that begin
same_bytes : (bytes : List ℕ) → bytes_eq bytes bytes ≡ true
same_bytes bytes = (bytes_eq-Decides bytes bytes).1 refl

coming_are : (h : List ℕ) (moment : ℤ) (ms : List Mutation)
    → map part_of (filter (is_object_of h) (flat_map (begun h moment) ms)) ≡ flat_map coming_by ms
coming_are h moment [] = refl
coming_are h moment (Add i item ∷ ms) = rw (same_bytes h) (ap (λ (l : List LevelItem).
    record { ident = i; kind = item.kind; level = item.level; shape = item.rings } ∷ l) (coming_are h moment ms))
coming_are h moment (Alter i was item ∷ ms) = rw (same_bytes h) (ap (λ (l : List LevelItem).
    record { ident = i; kind = item.kind; level = item.level; shape = item.rings } ∷ l) (coming_are h moment ms))
coming_are h moment (End i was day ∷ ms) = coming_are h moment ms

parts_then : (h : List ℕ) (moment : ℤ) (ms : List Mutation) (vs : List Version)
    → parts_now h (versions_after h moment ms vs) ≡ staying (flat_map leaving_by ms) (parts_now h vs) ++ flat_map coming_by ms
parts_then h moment ms vs = kept-append part_of (is_object_of h) (map (touched_by moment ms) vs) (flat_map (begun h moment) ms)
    ∙ ap (λ (l : List LevelItem). l ++ map part_of (filter (is_object_of h) (flat_map (begun h moment) ms))) (narrowed part_of
    (is_object_of h) (λ p. not (leaves (flat_map leaving_by ms) p)) (touched_by moment ms) vs (object_then h moment ms)
    (touched-part moment ms))
    ∙ ap (λ (l : List LevelItem). staying (flat_map leaving_by ms) (parts_now h vs) ++ l) (coming_are h moment ms)

-- ---- the area
pub area_then : (h : List ℕ) (moment : ℤ) (area : Option Shapes) (areas : List AreaVersion)
    → area_of h (areas_after h moment area areas) ≡ unwrap_or area (area_of h areas)
area_then h moment None areas = refl
area_then h moment (Some shapes) areas
    = ap (λ (o : Option AreaVersion). unwrap_or (option_map (λ (a : AreaVersion). a.shapes) o) [])
    (found_behind (is_area_of h) (area_ended h moment) areas (new_area h moment shapes) gone (rw (same_bytes h) refl))
  where
    gone : (a : AreaVersion) → is_area_of h (area_ended h moment a) ≡ false
    gone a = elim (cases_Bool (is_area_of h a)) [
      | inl t ↦ ap (λ (b : Bool). is_area_of h (cond b (record a { until = Some moment }) a)) t ∙ and-false (bytes_eq a.holder h)
      | inr t ↦ ap (λ (b : Bool). is_area_of h (cond b (record a { until = Some moment }) a)) t ∙ t
    ]

pub map_then : (s : State) (m : Message) → map_now m.holder (after s m) ≡ changed (change_of m) (map_now m.holder s)
map_then s m
    = same_map (area_of m.holder (after s m).areas) (unwrap_or m.area (area_of m.holder s.areas)) (parts_now m.holder (after s m).versions)
    (staying (flat_map leaving_by m.mutations) (parts_now m.holder s.versions) ++ flat_map coming_by m.mutations)
    (area_then m.holder m.moment m.area s.areas) (parts_then m.holder m.moment m.mutations s.versions)
