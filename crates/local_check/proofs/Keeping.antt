-- Boxes kept under places, as objects come and go, and the places that are found near a shape.
use Rattle.std.proofs.Common.{◌≡◌, ◌≤◌, ◌<◌, ◌+◌, ℕ, zero, suc, List, [], ◌∷◌, ◌++◌, length, get_or, refl, sym, ap, ◌∙◌, arith, inl, inr, subst}
use Rattle.std.specs.Prelude.{Bool, cond, true, Option, Some, None, slice_set}
use Rattle.std.specs.Cmp.{nat_cmp_is, nat_cmp_total}
use Rattle.std.specs.FinMap as map
use Rattle.std.specs.FinMap.{get-insert, get-remove}
use Rattle.std.specs.List.{Contains}
use Rattle.std.specs.Ordering.{eq_by_cmp, is_eq, nat_cmp}
use Rattle.std.specs.declared.cmp.Ordering.TheVariants.{Equal}
use Rattle.std.proofs.lemmas.Bool.{cases_lt}
use Rattle.std.proofs.lemmas.List.{get_or_default}
use Rattle.box_index.proofs.Filed.{slot_not_at}
use Rattle.box_index.specs.Boxed.{AreMeeting}
use Rattle.rd_plane.specs.Bounds.{Box, IsLeastBox}
use Rattle.rd_plane.specs.Plane.{Vertex}
use Rattle.part_shape.specs.Faults.{corners_of}
use Rattle.level_rules.specs.declared.item.LevelItem.{LevelItem}
use Rattle.local_check.specs.Kept.{AreBoxed, AreBoxedFrom, FindsNear, HasBox}
use Rattle.local_check.specs.Placed.{at_place}
use Rattle.local_check.proofs.Placing.{at_append, at_within}

abbrev pub Boxes : Type 0
Boxes = map.FinMap nat_cmp Box

-- ---- one box
equal_at : (k : ℕ) → eq_by_cmp nat_cmp k k ≡ true
equal_at k = ap is_eq (sym (nat_cmp_is k k Equal refl))

pub put_here : (old new : Boxes) (k : ℕ) (own : Box) (p : LevelItem) → new ≡ map.insert old k own
    → IsLeastBox (corners_of p.shape) own → HasBox new k p
put_here old new k own p e l = record {
  box = own;
  is = ap (λ m. map.get m k) e ∙ get-insert nat_cmp_total old k own k ∙ ap (λ (b : Bool). cond b (Some own) (map.get old k)) (equal_at k);
  least = l;
}

pub put_elsewhere : (old new : Boxes) (k : ℕ) (own : Box) → new ≡ map.insert old k own → (q : ℕ) → (q ≡ k → ⊥)
    → map.get new q ≡ map.get old q
put_elsewhere old new k own e q n =
    ap (λ m. map.get m q) e ∙ get-insert nat_cmp_total old k own q
    ∙ ap (λ (b : Bool). cond b (Some own) (map.get old q)) (slot_not_at q k (λ r. n (sym r)))

pub drop_elsewhere : (old new : Boxes) (k : ℕ) → new ≡ map.remove old k → (q : ℕ) → (q ≡ k → ⊥) → map.get new q ≡ map.get old q
drop_elsewhere old new k e q n =
    ap (λ m. map.get m q) e ∙ get-remove nat_cmp_total old k q
    ∙ ap (λ (b : Bool). cond b None (map.get old q)) (slot_not_at q k (λ r. n (sym r)))

pub same_box : (old new : Boxes) (k : ℕ) (p : LevelItem) → map.get new k ≡ map.get old k → HasBox old k p → HasBox new k p
same_box old new k p e h = record { box = h.box; is = e ∙ h.is; least = h.least }

-- ---- boxes of successive places
pub boxed_more : (old new : Boxes) (from i : ℕ) (parts : List LevelItem) (x : LevelItem) → i < length parts → get_or parts i x ≡ x
    → HasBox new (from + i) x
    → ((q : ℕ) → (q ≡ from + i → ⊥) → map.get new q ≡ map.get old q)
    → ((k : ℕ) (d : LevelItem) → k < i → HasBox old (from + k) (get_or parts k d)) → (k : ℕ) (d : LevelItem) → k < i + 1
    → HasBox new (from + k) (get_or parts k d)
boxed_more old new from i parts x l e here others h k d m = elim (cases_lt k i) [
  | inl b ↦ same_box old new (from + k) (get_or parts k d) (others (from + k) (λ q. omega (arith, q, b))) (h k d b)
  | inr b ↦
      let same : k ≡ i = omega (arith, b, m) in
      subst (λ (n : ℕ). HasBox new (from + n) (get_or parts n d)) (sym same)
      (subst (HasBox new (from + i)) (sym (get_or_default parts i d x l ∙ e)) here)
]

-- ---- objects come and go
pub put_boxed : (boxes : Boxes) (slots : List (Option LevelItem)) (part : LevelItem) → HasBox boxes (length slots) part
    → AreBoxed boxes slots
    → AreBoxed boxes (slots ++ Some part ∷ [])
put_boxed boxes slots part h b k p e = elim (at_append slots (Some part) k p e) [
  | inl s ↦ b k p s
  | inr s ↦ subst (λ (n : ℕ). HasBox boxes n p) (sym s.0) (subst (HasBox boxes (length slots)) (one part p s.1) h)
]
  where
    one : (x y : LevelItem) → Some x ≡ Some y → x ≡ y
    one x y u = cc

pub first_boxed : (boxes : Boxes) (from : ℕ) (part : LevelItem) (rest : List LevelItem) → AreBoxedFrom boxes from (part ∷ rest)
    → HasBox boxes from part
first_boxed boxes from part rest h = subst (λ (n : ℕ). HasBox boxes n part) (omega arith) (h 0 part (omega arith))

pub rest_boxed : (boxes : Boxes) (from : ℕ) (part : LevelItem) (rest : List LevelItem) → AreBoxedFrom boxes from (part ∷ rest)
    → AreBoxedFrom boxes (from + 1) rest
rest_boxed boxes from part rest h k d l = subst (λ (n : ℕ). HasBox boxes n (get_or rest k d)) (omega arith) (h (suc k) d (omega (arith, l)))

pub later_boxed : (old new : Boxes) (from : ℕ) (parts : List LevelItem) → ((q : ℕ) → from ≤ q → map.get new q ≡ map.get old q)
    → AreBoxedFrom old from parts
    → AreBoxedFrom new from parts
later_boxed old new from parts later h k d l = same_box old new (from + k) (get_or parts k d) (later (from + k) (omega arith)) (h k d l)

pub before_boxed : (old new : Boxes) (slots : List (Option LevelItem)) → ((q : ℕ) → q < length slots → map.get new q ≡ map.get old q)
    → AreBoxed old slots → AreBoxed new slots
before_boxed old new slots before b k p e = same_box old new k p (before k (at_within slots k p e)) (b k p e)

set_at : (slots : List (Option LevelItem)) (k j : ℕ) (p : LevelItem) → at_place (slice_set slots k None) j ≡ Some p
    → (j ≡ k → ⊥) × (at_place slots j ≡ Some p)
set_at [] k j p h = cc
set_at (x ∷ xs) zero zero p h = cc
set_at (x ∷ xs) zero (suc j) p h = (λ e. omega (arith, e), h)
set_at (x ∷ xs) (suc k) zero p h = (λ e. omega (arith, e), h)
set_at (x ∷ xs) (suc k) (suc j) p h = let r = set_at xs k j p h in (λ e. r.0 (omega (arith, e)), r.1)

pub cleared_boxed : (old new : Boxes) (slots : List (Option LevelItem)) (k : ℕ)
    → ((q : ℕ) → (q ≡ k → ⊥) → map.get new q ≡ map.get old q) → AreBoxed old slots
    → AreBoxed new (slice_set slots k None)
cleared_boxed old new slots k others b j p h = let s = set_at slots k j p h in same_box old new j p (others j s.0) (b j p s.1)

-- ---- places near a shape
pub still_near : (boxes : Boxes) (old new : List ℕ) (rings : List (List Vertex)) → ((q : ℕ) → Contains old q → Contains new q)
    → FindsNear boxes old rings → FindsNear boxes new rings
still_near boxes old new rings kept f = record { box = f.box; least = f.least; found = λ k own g m. kept k (f.found k own g m) }

pub place_more : (old new : List ℕ) (places : List ℕ) (i : ℕ) → i < length places → Contains new (get_or places i 0)
    → ((q : ℕ) → Contains old q → Contains new q) → ((k : ℕ) (d : ℕ) → k < i → Contains old (get_or places k d))
    → (k : ℕ) (d : ℕ) → k < i + 1 → Contains new (get_or places k d)
place_more old new places i l here kept h k d m = elim (cases_lt k i) [
  | inl b ↦ kept (get_or places k d) (h k d b)
  | inr b ↦
      let same : k ≡ i = omega (arith, b, m) in
      subst (λ (n : ℕ). Contains new (get_or places n d)) (sym same) (subst (Contains new) (sym (get_or_default places i d 0 l)) here)
]

pub each_place : (near places : List ℕ) (i : ℕ) → length places ≤ i → ((k : ℕ) (d : ℕ) → k < i → Contains near (get_or places k d))
    → (q : ℕ) → Contains places q → Contains near q
each_place near places i l h q c = subst (Contains near) c.2 (h c.0 q (omega (arith, c.1, l)))

pub all_near : (boxes : Boxes) (box : Box) (places near : List ℕ) (rings : List (List Vertex)) → IsLeastBox (corners_of rings) box
    → AreMeeting boxes box places → ((q : ℕ) → Contains places q → Contains near q) → FindsNear boxes near rings
all_near boxes box places near rings least m h = record {
  box = box;
  least = least;
  found = λ k own g common. h k ((m.just k).1 (record { own = own; is = g; common = common }));
}

-- one thing more whose rings are looked near
pub near_more : {X : Type 0} (rings : X → List (List Vertex)) (P : X → Type 0) (boxes : Boxes) (old new : List ℕ) (xs : List X)
    (i : ℕ) (x : X)
    → i < length xs → get_or xs i x ≡ x → (P x → FindsNear boxes new (rings x)) → ((q : ℕ) → Contains old q → Contains new q)
    → ((k : ℕ) (d : X) → k < i → P (get_or xs k d) → FindsNear boxes old (rings (get_or xs k d)))
    → (k : ℕ) (d : X) → k < i + 1 → P (get_or xs k d) → FindsNear boxes new (rings (get_or xs k d))
near_more rings P boxes old new xs i x l e here kept h k d m = elim (cases_lt k i) [
  | inl b ↦ λ s. still_near boxes old new (rings (get_or xs k d)) kept (h k d b s)
  | inr b ↦
      let same : k ≡ i = omega (arith, b, m) in
      subst (λ n. P (get_or xs n d) → FindsNear boxes new (rings (get_or xs n d))) (sym same)
      (subst (λ y. P y → FindsNear boxes new (rings y)) (sym (get_or_default xs i d x l ∙ e)) here)
]

pub near_all : {X : Type 0} (rings : X → List (List Vertex)) (P : X → Type 0) (boxes : Boxes) (near : List ℕ) (xs : List X) (i : ℕ)
    → length xs ≤ i → ((k : ℕ) (d : X) → k < i → P (get_or xs k d) → FindsNear boxes near (rings (get_or xs k d)))
    → (x : X) → Contains xs x → P x → FindsNear boxes near (rings x)
near_all rings P boxes near xs i l h x c = subst (λ y. P y → FindsNear boxes near (rings y)) c.2 (h c.0 x (omega (arith, c.1, l)))
