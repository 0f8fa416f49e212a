-- A message that was read has places with numbers of 32 bits.
use Rattle.std.proofs.Common.{◌≡◌, ◌≢◌, ◌≤◌, ◌<◌, ◌^◌, sym, subst, refl, inl, inr, List, [], ◌∷◌, ℕ, length, arith, Bool, true, false, Ok}
use Rattle.std.specs.Prelude.{Option, Some, None, IfSome, nat_lt, ◌||◌, slice_index_or, sum_by, unwrap_or}
use Rattle.std.specs.List.{All, list_any}
use Rattle.std.proofs.lemmas.Bool.{ltb-false}
use Rattle.std.proofs.lemmas.List.Elements.{All-cons, All-tail}
use Rattle.std.proofs.lemmas.List.Sums.{get_or-le-sum_by, sum_by-cons}
use Rattle.rd_plane.specs.Plane.{Vertex}
use Rattle.part_shape.specs.Counted.{AreCounted}
use Rattle.message_text.specs.declared.limits.Limits.{Limits}
use Rattle.message_text.specs.declared.message.Message.{Message}
use Rattle.message_text.specs.declared.message.Mutation.{Mutation}
use Rattle.message_text.specs.declared.fault.LimitName.{LimitName}
use Rattle.message_text.specs.declared.fault.LimitName.TheVariants as limit
use Rattle.message_text.specs.Limits.{IsValid}
use Rattle.message_text.specs.Printable.{IsPrintable, IsPrintableShape}
use Rattle.rd_plane.specs.Rule.{when}
use Rattle.message_text.specs.Reading.{Reads, area_shapes, judged, passed_limit, points_of, arc_line}
use Rattle.message_text.specs.Texts.{rings_of}
use Rattle.map_rules.specs.Counted.{IsCounted}

abbrev has_many_rings : Limits → Mutation → Bool
has_many_rings limits mutation = nat_lt limits.shape_rings (length (rings_of mutation))

abbrev has_many_points : Limits → List Vertex → Bool
has_many_points limits ring = nat_lt limits.ring_points (length ring)

abbrev has_long_ring : Limits → Mutation → Bool
has_long_ring limits mutation = list_any (has_many_points limits) (rings_of mutation)

-- where no limit is named, none is passed
none_named : (a b c d : Bool) (p q r s : LimitName) → when a p (when b q (when c r (when d s None))) ≡ None
    → (a ≡ false) × (b ≡ false) × (c ≡ false) × (d ≡ false)
none_named true b c d p q r s e = cc
none_named false true c d p q r s e = cc
none_named false false true d p q r s e = cc
none_named false false false true p q r s e = cc
none_named false false false false p q r s e = (refl, refl, refl, refl)

passes : (arc : Option ℕ) (limit : Option LimitName) (message m : Message) → judged arc limit message ≡ Ok m
    → (limit ≡ None) × (message ≡ m)
passes (Some line) limit message m e = cc
passes None (Some which) message m e = cc
passes None None message m e = (refl, cc)

-- where no item passes a test, each fails it
each_fails : {A : Type 0} (p : A → Bool) (xs : List A) → list_any p xs ≡ false → All (λ x. p x ≡ false) xs
each_fails p [] e = λ k d within. absurd (omega arith)
each_fails p (x ∷ xs) e = let parts = neither (p x) (list_any p xs) e in All-cons (λ x. p x ≡ false) x xs parts.0 (each_fails p xs parts.1)
  where
    neither : (a b : Bool) → (a || b) ≡ false → (a ≡ false) × (b ≡ false)
    neither true b e = cc
    neither false b e = (refl, e)

-- where each item counts, there are no more of them than they count together
few : {A : Type 0} (f : A → ℕ) (xs : List A) → All (λ x. 0 < f x) xs → length xs ≤ sum_by f xs
few f [] all = omega arith
few f (x ∷ xs) all = omega (arith, sum_by-cons f x xs, all 0 x (omega arith), few f xs (All-tail (λ x. 0 < f x) x xs all))

some_points : (ring : List Vertex) → ring ≢ [] → 0 < length ring
some_points [] n = absurd (n refl)
some_points (point ∷ ring) n = omega arith

-- a shape with so few points, and one in each ring, has as few rings, and as few points in each
counted_points : (rings : List (List Vertex)) → All (λ ring. ring ≢ []) rings → points_of rings < 2 ^ 32 → AreCounted rings
counted_points rings some small = record {
  few = omega (arith, small, few (λ (ring : List Vertex). length ring) rings (λ k d within. some_points _ (some k d within)));
  corners = λ k d within. omega (arith, small, get_or-le-sum_by (λ (ring : List Vertex). length ring) rings k d within);
}

-- a shape with a point
some_rings : (rings : List (List Vertex)) → IsPrintableShape rings → 0 < points_of rings
some_rings [] h = absurd (h.some refl)
some_rings (ring ∷ rings) h
    = omega (arith, sum_by-cons (λ (r : List Vertex). length r) ring rings, some_points ring (h.points 0 ring (omega arith)))

block_shapes : (area : Option (List (List (List Vertex)))) → IfSome area (All IsPrintableShape) → All IsPrintableShape (unwrap_or area [])
block_shapes None h = λ k d within. absurd (omega arith)
block_shapes (Some shapes) h = h

-- the places of a message within the limits of a run
pub within_limits : (limits : Limits) (m : Message) → IsValid limits → IsPrintable m → passed_limit limits m ≡ None → IsCounted m
within_limits limits m valid printable none =
    let passed = none_named (nat_lt limits.mutations (length m.mutations)) (list_any (has_many_rings limits) m.mutations)
    (list_any (has_long_ring limits) m.mutations)
    (nat_lt limits.area_points (sum_by points_of (area_shapes m))) limit.Mutations limit.Rings limit.Points limit.Area none in
    let shapes : All IsPrintableShape (area_shapes m) = block_shapes m.area printable.area in
    let small : sum_by points_of (area_shapes m) < 2 ^ 32
    = omega (arith, ltb-false limits.area_points (sum_by points_of (area_shapes m)) passed.3, valid.area_points.1) in
    record {
      few = omega (arith, ltb-false limits.mutations (length m.mutations) passed.0, valid.mutations.1);
      mutations = λ k d within. let x = slice_index_or m.mutations k d in record {
        few = omega (
          arith,
          valid.shape_rings.1,
          ltb-false limits.shape_rings (length (rings_of x)) (each_fails (has_many_rings limits) m.mutations passed.1 k d within),
        );
        corners = λ j e inside.
            let fails = each_fails (has_many_points limits) (rings_of x) (each_fails (has_long_ring limits) m.mutations passed.2 k d within)
            j e inside in
            omega (arith, valid.ring_points.1, ltb-false limits.ring_points (length (slice_index_or (rings_of x) j e)) fails);
      };
      few_shapes = omega (arith, small, few points_of (area_shapes m) (λ k d within. some_rings _ (shapes k d within)));
      shapes = λ k d within. counted_points _ (shapes k d within).points
          (omega (arith, small, get_or-le-sum_by points_of (area_shapes m) k d within));
    }

-- a message that was read
-- a message that is read passes no limit
pub unpassed : (limits : Limits) (text : List ℕ) (m : Message) → Reads limits text (Ok m) → passed_limit limits m ≡ None
unfolding Reads
unpassed limits text m (inl (line, outside, e)) = cc
unpassed limits text m (inr j) =
    let passed = passes (arc_line j.lines) (passed_limit limits j.message) j.message m (sym j.is) in
    subst (λ (x : Message). passed_limit limits x ≡ None) passed.1 passed.0

pub counted : (limits : Limits) (text : List ℕ) (m : Message) → IsValid limits → IsPrintable m → Reads limits text (Ok m) → IsCounted m
unfolding Reads
counted limits text m valid printable (inl (line, outside, e)) = cc
counted limits text m valid printable (inr j) =
    let passed = passes (arc_line j.lines) (passed_limit limits j.message) j.message m (sym j.is) in
    within_limits limits m valid printable (subst (λ (x : Message). passed_limit limits x ≡ None) passed.1 passed.0)
