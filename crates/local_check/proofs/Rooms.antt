-- The room for objects that come, as one of them is put.
use Rattle.std.proofs.Common.{◌≡◌, ℕ, List, [], ◌∷◌, ◌++◌, length, sym, ap, ◌∙◌, arith, subst}
use Rattle.std.specs.Prelude.{is_some, vec_capacity, Some, reverse}
use Rattle.std.specs.List.{All, AllByRecursion}
use Rattle.std.proofs.lemmas.List.{length-append}
use Rattle.std.proofs.lemmas.List.Elements.{All-from_recursion, recursion_from_All}
use Rattle.rd_plane.proofs.Members.{all_so}
use Rattle.level_rules.specs.declared.item.LevelItem.{LevelItem}
use Rattle.local_check.specs.Kept.{AreBoxed, AreBoxedFrom}
use Rattle.local_check.specs.declared.numbers.Numbers.{Numbers}
use Rattle.local_check.specs.declared.places.Places.{Places}
use Rattle.local_check.specs.Numbered.{number_at}
use Rattle.local_check.specs.Placed.{HasRoomFor}
use Rattle.local_check.proofs.Keeping.{Boxes, first_boxed, put_boxed, rest_boxed}
use Rattle.local_check.proofs.Numbering.{HasNumber}
use Rattle.local_check.proofs.Placing.{back_to_front}

front_known : (n : Numbers) (xs ys : List LevelItem) → AllByRecursion (HasNumber n) (xs ++ ys) → AllByRecursion (HasNumber n) xs
front_known n [] ys h = tt
front_known n (x ∷ xs) ys h = (h.0, front_known n xs ys h.1)

pub put_room : (old new : Places) (coming rest : List LevelItem) (part : LevelItem) → coming ≡ rest ++ part ∷ []
    → new.slots.items ≡ old.slots.items ++ Some part ∷ []
    → vec_capacity new.slots ≡ vec_capacity old.slots → ((q : List ℕ) → number_at new.numbers q ≡ number_at old.numbers q)
    → new.boxes ≡ old.boxes
    → HasRoomFor old coming → HasRoomFor new rest
put_room old new coming rest part items slots capacity same boxes ready =
    let known = recursion_from_All (HasNumber old.numbers) (rest ++ part ∷ [])
    (subst (All (HasNumber old.numbers)) items ready.known) in record {
      room = omega (
        arith,
        ready.room,
        capacity,
        ap length items ∙ length-append rest (part ∷ []),
        ap length slots ∙ length-append old.slots.items (Some part ∷ []),
      );
      known = All-from_recursion (HasNumber new.numbers) rest
          (all_so (HasNumber old.numbers) (HasNumber new.numbers) rest (λ p s. ap is_some (same p.ident) ∙ s)
          (front_known old.numbers rest (part ∷ []) known));
      boxes = subst (λ (b : Boxes). AreBoxedFrom b (length new.slots.items) (reverse rest)) (sym boxes)
          (subst (λ (n : ℕ). AreBoxedFrom old.boxes n (reverse rest))
          (sym (ap length slots ∙ length-append old.slots.items (Some part ∷ [])))
          (rest_boxed old.boxes (length old.slots.items) part (reverse rest)
          (subst (AreBoxedFrom old.boxes (length old.slots.items)) (back_to_front coming rest part items) ready.boxes)));
    }

-- the object that is put has its box
pub put_next : (old new : Places) (coming rest : List LevelItem) (part : LevelItem) → coming ≡ rest ++ part ∷ []
    → new.slots.items ≡ old.slots.items ++ Some part ∷ []
    → new.boxes ≡ old.boxes → AreBoxed old.boxes old.slots.items → AreBoxedFrom old.boxes (length old.slots.items) (reverse coming)
    → AreBoxed new.boxes new.slots.items
put_next old new coming rest part items slots boxes boxed from =
    subst (AreBoxed new.boxes) (sym slots) (subst (λ (b : Boxes). AreBoxed b (old.slots.items ++ Some part ∷ [])) (sym boxes)
    (put_boxed old.boxes old.slots.items part
    (first_boxed old.boxes (length old.slots.items) part (reverse rest)
    (subst (AreBoxedFrom old.boxes (length old.slots.items)) (back_to_front coming rest part items) from)) boxed))
