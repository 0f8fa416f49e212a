-- What ties the half-edges and the places to the map, through a try and a commit.
use Rattle.std.proofs.Common.{◌≡◌, ◌⊎◌, inl, inr, ◌≤◌, ◌+◌, ℕ, true, false, List, [], ◌∷◌, length, refl, sym, ap, ◌∙◌, arith, subst}
use Rattle.std.specs.Prelude.{Option, Some, None, IsSome, reverse, option_map, vec_len, vec_capacity}
use Rattle.std.specs.List.{All}
use Rattle.std.proofs.lemmas.List.{length-reverse, reverse-append, reverse-reverse}
use Rattle.std.proofs.lemmas.List.Elements.{All-append, All-from_recursion, recursion_from_All}
use Rattle.half_edge.specs.declared.border.HalfEdge.{HalfEdge}
use Rattle.half_edge.specs.Ground.{Standing, stands}
use Rattle.half_edge.specs.Sides.{standing}
use Rattle.level_rules.specs.declared.item.LevelItem.{LevelItem}
use Rattle.local_check.specs.declared.change.Change.{Change}
use Rattle.local_check.specs.declared.map.Map.{Map}
use Rattle.local_check.specs.declared.map.Tried.{Tried}
use Rattle.local_check.specs.declared.places.Places.{Places}
use Rattle.local_check.specs.Borders.{AreTied, IsLinked}
use Rattle.local_check.specs.Kept.{AreBoxed, AreBoxedFrom}
use Rattle.local_check.specs.Maps.{changed}
use Rattle.local_check.specs.MapRules.{AreRightMaps, IsRightMap}
use Rattle.local_check.specs.Numbered.{IsGrown, IsNumbering, KeepsPlaces, number_at}
use Rattle.local_check.specs.Placed.{HasRoomFor, IsPlaced, IsReadyFor, at_place, change_of, parts_of, present, view_of}
use Rattle.local_check.proofs.Linking.{grown_linked, same_numbering, same_numbers}

-- what holds of an index
abbrev pub Holds : Map → Option Tried → Standing → Type 0
Holds now tried g = AreRightMaps (view_of now tried) × AreTied now.parts.numbers g (view_of now tried) × IsReadyFor now tried

pub not_tried : {X Y : Type 0} (f : X → Y) (o : Option X) → option_map f o ≡ None → o ≡ None
not_tried f None h = refl
not_tried f (Some x) h = cc

-- ---- room, of a list that runs backwards
back_all : {X : Type 0} (P : X → Type 0) (xs : List X) → All P xs → All P (reverse xs)
back_all P [] h = h
back_all P (x ∷ xs) h =
    let k = recursion_from_All P (x ∷ xs) h in
    subst (All P) (sym (reverse-append (x ∷ []) xs))
    (All-append P (reverse xs) (x ∷ []) (back_all P xs (All-from_recursion P xs k.1)) (All-from_recursion P (x ∷ []) (k.0, tt)))

back_twice : {X : Type 0} (xs : List X) → reverse (reverse xs) ≡ xs
back_twice xs = reverse-reverse xs

pub room_for : (parts : Places) (t : Tried) (change : Change) → change_of t ≡ change
    → vec_len parts.slots + length change.coming ≤ vec_capacity parts.slots
    → All (λ p. IsSome (number_at parts.numbers p.ident)) change.coming
    → AreBoxedFrom parts.boxes (length parts.slots.items) change.coming → HasRoomFor parts t.coming.items
room_for parts t change e room known boxes =
    let same : reverse t.coming.items ≡ change.coming = ap (λ (c : Change). c.coming) e in record {
      room = omega (arith, room, ap (λ (ps : List LevelItem). length ps) same, length-reverse t.coming.items, parts.slots.ok.0);
      known = subst (All (λ (p : LevelItem). IsSome (number_at parts.numbers p.ident))) (back_twice t.coming.items)
          (back_all (λ (p : LevelItem). IsSome (number_at parts.numbers p.ident)) (reverse t.coming.items)
          (subst (All (λ (p : LevelItem). IsSome (number_at parts.numbers p.ident))) (sym same) known));
      boxes = subst (AreBoxedFrom parts.boxes (length parts.slots.items)) (sym same) boxes;
    }

-- ---- the places are made ready
module _ (now : Map) (parts : Places) (tried : Option Tried) (ground : Standing) (idle : tried ≡ None) (holds : Holds now tried ground)
    (slots : parts.slots.items ≡ now.parts.slots.items) (numbering : IsNumbering parts.numbers)
    (grown : IsGrown now.parts.numbers parts.numbers)
    (places : KeepsPlaces now.parts.numbers parts.numbers) (count : parts.count ≡ now.parts.count)
    (boxes : AreBoxed now.parts.boxes now.parts.slots.items → AreBoxed parts.boxes parts.slots.items) where
  abbrev next : Map
  next = record { area = now.area; parts = parts }

  pub same_map : parts_of next ≡ parts_of now
  same_map = ap (λ (xs : List (Option LevelItem)). record { area = now.area; parts = present xs }) slots

  at_rest : Holds now None ground
  at_rest = subst (λ (t : Option Tried). Holds now t ground) idle holds

  pub resting : ground.tried ≡ false
  resting = at_rest.1.tried

  pub still_placed : IsPlaced parts
  still_placed = record {
    at = λ k p h. places p.ident k (at_rest.2.placed.at k p (sym (ap (λ (xs : List (Option LevelItem)). at_place xs k) slots) ∙ h));
    count = count ∙ at_rest.2.placed.count ∙ sym (ap (λ (xs : List (Option LevelItem)). length (present xs)) slots);
  }

  pub still_boxed : AreBoxed parts.boxes parts.slots.items
  still_boxed = boxes at_rest.2.boxed

  pub right_now : IsRightMap (parts_of next)
  right_now = subst IsRightMap (sym same_map) at_rest.0.now

  pub linked_now : IsLinked parts.numbers (stands ground) (parts_of next)
  linked_now = subst (IsLinked parts.numbers (stands ground)) (sym same_map)
      (grown_linked now.parts.numbers parts.numbers grown (stands ground) (parts_of now) at_rest.1.next)

  linked_before : IsLinked parts.numbers (standing ground.kept) (parts_of next)
  linked_before = subst (IsLinked parts.numbers (standing ground.kept)) (sym same_map)
      (grown_linked now.parts.numbers parts.numbers grown (standing ground.kept) (parts_of now) at_rest.1.now)

  -- the change is not tried: what stands is what stands in the ground, or what stood
  either : (g : Standing) → (g.slots ≡ ground.slots) ⊎ (g.slots ≡ ground.kept) → IsLinked parts.numbers (stands g) (parts_of next)
  either g (inl same)
      = subst (λ (xs : List (Option HalfEdge)). IsLinked parts.numbers (standing xs) (parts_of next)) (sym same) linked_now
  either g (inr back)
      = subst (λ (xs : List (Option HalfEdge)). IsLinked parts.numbers (standing xs) (parts_of next)) (sym back) linked_before

  pub as_before : (g : Standing) → (g.slots ≡ ground.slots) ⊎ (g.slots ≡ ground.kept) → g.kept ≡ ground.kept → g.tried ≡ false → Holds next tried g
  as_before g here kept flag = subst (λ (t : Option Tried). Holds next t g) (sym idle) (
    record { now = right_now; tried = tt },
    record {
      numbering = numbering;
      tried = flag;
      now = subst (λ (xs : List (Option HalfEdge)). IsLinked parts.numbers (standing xs) (parts_of next)) (sym kept) linked_before;
      next = either g here;
    },
    record { placed = still_placed; boxed = still_boxed; room = tt },
  )

  -- the change is tried
  pub taken : (t : Tried) (g : Standing) → g.kept ≡ ground.kept → g.tried ≡ true
      → IsLinked parts.numbers (stands g) (changed (change_of t) (parts_of next))
      → IsRightMap (changed (change_of t) (parts_of next)) → HasRoomFor parts t.coming.items → Holds next (Some t) g
  taken t g kept flag linked right room = (
    record { now = right_now; tried = right },
    record {
      numbering = numbering;
      tried = flag;
      now = subst (λ (xs : List (Option HalfEdge)). IsLinked parts.numbers (standing xs) (parts_of next)) (sym kept) linked_before;
      next = linked;
    },
    record { placed = still_placed; boxed = still_boxed; room = room },
  )

-- ---- the tried change is made
pub committed : (now next : Map) (t : Tried) (ground g : Standing) → Holds now (Some t) ground
    → parts_of next ≡ changed (change_of t) (parts_of now) → IsPlaced next.parts
    → AreBoxed next.parts.boxes next.parts.slots.items
    → ((q : List ℕ) → number_at next.parts.numbers q ≡ number_at now.parts.numbers q) → next.parts.numbers.next ≡ now.parts.numbers.next
    → g.slots ≡ ground.slots → g.kept ≡ ground.slots → g.tried ≡ false → Holds next None g
committed now next t ground g holds value placed boxed same count slots kept flag =
    let linked = subst (IsLinked next.parts.numbers (stands ground)) (sym value)
    (grown_linked now.parts.numbers next.parts.numbers (same_numbers now.parts.numbers next.parts.numbers same) (stands ground)
    (changed (change_of t) (parts_of now)) holds.1.next) in (
      record { now = subst IsRightMap (sym value) holds.0.tried; tried = tt },
      record {
        numbering = same_numbering now.parts.numbers next.parts.numbers same count holds.1.numbering;
        tried = flag;
        now = subst (λ (xs : List (Option HalfEdge)). IsLinked next.parts.numbers (standing xs) (parts_of next)) (sym kept) linked;
        next = subst (λ (xs : List (Option HalfEdge)). IsLinked next.parts.numbers (standing xs) (parts_of next)) (sym slots) linked;
      },
      record { placed = placed; boxed = boxed; room = tt },
    )
