-- How one entry has the slots of an edge and of its reverse.
use Rattle.std.proofs.Common.{◌≡◌, ◌≢◌, inl, inr, Bool, true, false, not, ◌&&◌, ◌||◌, cond, List, Option, None, refl, sym, ap, subst, ◌∙◌, true≢false, arith}
use Rattle.std.specs.Prelude.{ℤ, ◌<ℤ◌, ◌≤ℤ◌, int_lt}
use Rattle.std.specs.Ordering.{int_eq}
use Rattle.std.specs.Map.{lookup}
use Rattle.std.proofs.lemmas.Int.{by_lt_z}
use Rattle.std.proofs.lemmas.Bool.Decides.{Decides-int_eq}
use Rattle.rd_plane.specs.Plane.{Segment, reversed}
use Rattle.rd_plane.specs.Order.{same_corner}
use Rattle.rd_plane.proofs.Polynomials.{linear}
use Rattle.edge_arena.specs.declared.arena.Slot.{Slot}
use Rattle.half_edge.specs.declared.key.Key.{Key}
use Rattle.half_edge.specs.declared.ways.Ways.{Ways}
use Rattle.half_edge.specs.KeyMap.{IsWritten, corners_of, key_eq, key_of, runs_back, segment_eq, slot_among, slot_beside, slot_in}
use Rattle.half_edge.proofs.KeyLog.{false_by, segment_eq-true, segment_eq-refl, segment_eq-other, same_or_not}

-- the edge with those corners in that order
abbrev edge_of : Key → Segment
edge_of k = record { a = record { x = k.a.x; y = k.a.y }; b = record { x = k.b.x; y = k.b.y } }

-- keys that `==` finds equal are one key
key_eq-true : (k l : Key) → key_eq k l ≡ true → k ≡ l
key_eq-true k l t = ap corners_of (segment_eq-true (edge_of k) (edge_of l) t)

key_eq-refl : (k : Key) → key_eq k k ≡ true
key_eq-refl k = segment_eq-refl (edge_of k)

-- corners, and the way they are gone through, are of one edge
same_way : (b : Bool) (e f : Segment) → cond b (corners_of (reversed e)) (corners_of e) ≡ cond b (corners_of (reversed f)) (corners_of f)
    → e ≡ f
same_way true e f h = ap (λ k. reversed (edge_of k)) h
same_way false e f h = ap edge_of h

pub by_key : (e f : Segment) → key_of e ≡ key_of f → runs_back e ≡ runs_back f → e ≡ f
by_key e f k b = same_way (runs_back f) e f (subst (λ w. cond w (corners_of (reversed e)) (corners_of e) ≡ key_of f) b k)

lt_true : (m n : ℤ) → m <ℤ n → int_lt m n ≡ true
lt_true m n h = grind (arith, linear)

lt_false : (m n : ℤ) → n ≤ℤ m → int_lt m n ≡ false
lt_false m n h = grind (arith, linear)

-- of two numbers that differ one is less, and not the other
less_one_way : (m n : ℤ) → m ≢ n → int_lt m n ≡ not (int_lt n m)
less_one_way m n d = by_lt_z m n (λ l. rw (lt_true m n l, lt_false n m (omega (arith, linear, l))) refl)
    (λ ge. by_lt_z n m (λ l. rw (lt_true n m l, lt_false m n ge) refl) (λ le. absurd (d (omega (arith, linear, ge, le)))))

or_false : (b : Bool) → b || false ≡ b
or_false true = refl
or_false false = refl

turned_by : (x y u v : ℤ) (b : Bool) → int_eq x u ≡ b → (x ≡ u → y ≢ v)
    → (int_eq u x && int_lt y v) || int_lt x u ≡ not ((int_eq x u && int_lt v y) || int_lt u x)
turned_by x y u v true t d =
    let same = (Decides-int_eq x u).0 t in
    rw (
      t,
      (Decides-int_eq u x).1 (sym same),
      lt_false x u (omega (arith, linear, same)),
      lt_false u x (omega (arith, linear, same)),
      or_false (int_lt y v),
      or_false (int_lt v y),
    ) (less_one_way y v (d same))
turned_by x y u v false t d =
    let apart : x ≢ u = λ same. true≢false (sym ((Decides-int_eq x u).1 same) ∙ t) in
    rw (t, false_by (int_eq u x) (λ e. apart (sym ((Decides-int_eq u x).0 e)))) (less_one_way x u apart)

-- the reverse runs the other way, and has the same key
pub turned_round : (e : Segment) → e.a ≢ e.b → runs_back (reversed e) ≡ not (runs_back e)
turned_round e d = turned_by e.a.x e.a.y e.b.x e.b.y (int_eq e.a.x e.b.x) refl (λ x y. d (same_corner e.a e.b x y))

key_by : (b w : Bool) (e : Segment) → w ≡ not b
    → cond w (corners_of e) (corners_of (reversed e)) ≡ cond b (corners_of (reversed e)) (corners_of e)
key_by true w e h = ap (λ v. cond v (corners_of e) (corners_of (reversed e))) h
key_by false w e h = ap (λ v. cond v (corners_of e) (corners_of (reversed e))) h

pub key_turned : (e : Segment) → e.a ≢ e.b → key_of (reversed e) ≡ key_of e
key_turned e d = key_by (runs_back e) (runs_back (reversed e)) e (turned_round e d)

-- the slot of the reverse is that of the other side of the edge
pub beside : (entries : List (Key × Ways)) (e : Segment) → e.a ≢ e.b → slot_in entries (reversed e) ≡ slot_beside entries e
unfolding slot_in slot_beside
beside entries e d = ap (λ k. slot_among (lookup (key_eq k) entries) (runs_back (reversed e))) (key_turned e d)
    ∙ ap (slot_among (lookup (key_eq (key_of e)) entries)) (turned_round e d)

-- where each key has the same, each edge has the same slot
pub same_slots : (old new : List (Key × Ways)) → ((q : Key) → lookup (key_eq q) new ≡ lookup (key_eq q) old) → (e : Segment)
    → slot_in new e ≡ slot_in old e
unfolding slot_in
same_slots old new h e = ap (λ o. slot_among o (runs_back e)) (h (key_of e))

-- what an entry says of its edge and of its reverse
pub found_here : (entries : List (Key × Ways)) (e : Segment) (o : Option Ways) → o ≡ lookup (key_eq (key_of e)) entries
    → slot_among o (runs_back e) ≡ slot_in entries e
unfolding slot_in
found_here entries e o h = ap (λ w. slot_among w (runs_back e)) h

pub found_beside : (entries : List (Key × Ways)) (e : Segment) (o : Option Ways) → o ≡ lookup (key_eq (key_of e)) entries
    → slot_among o (not (runs_back e)) ≡ slot_beside entries e
unfolding slot_beside
found_beside entries e o h = ap (λ w. slot_among w (not (runs_back e))) h

other_by : (b c : Bool) → b ≢ c → c ≡ not b
other_by true true d = absurd (d refl)
other_by true false d = refl
other_by false true d = refl
other_by false false d = absurd (d refl)

-- what a write at the key of an edge does to the slots of edges: this one's side is written, and the other side stays
module _ (old new : List (Key × Ways)) (e : Segment) (slot : Option Slot) (ways : Option Ways)
    (wrote : (q : Key) → lookup (key_eq q) new ≡ cond (key_eq (key_of e) q) ways (lookup (key_eq q) old))
    (here : slot_among ways (runs_back e) ≡ slot)
    (stays : slot_among ways (not (runs_back e)) ≡ slot_beside old e) where
  at_own : (f : Segment) → f ≡ e → slot_in new f ≡ cond (segment_eq e f) slot (slot_in old f)
  unfolding slot_in
  at_own f same = subst (λ (g : Segment). slot_in new g ≡ cond (segment_eq e g) slot (slot_in old g)) (sym same)
      (rw (wrote (key_of e), key_eq-refl (key_of e), segment_eq-refl e) here)

  at_side : (f : Segment) → f ≢ e → key_of e ≡ key_of f → slot_in new f ≡ slot_in old f
  unfolding slot_in slot_beside
  at_side f d same =
      let turned : runs_back f ≡ not (runs_back e) = other_by (runs_back e) (runs_back f) (λ b. d (sym (by_key e f same b))) in
      let at_key : slot_among (lookup (key_eq (key_of e)) new) (not (runs_back e))
      ≡ slot_among (lookup (key_eq (key_of e)) old) (not (runs_back e))
      = rw (wrote (key_of e), key_eq-refl (key_of e)) stays in
      subst (λ w. slot_among (lookup (key_eq (key_of f)) new) w ≡ slot_among (lookup (key_eq (key_of f)) old) w) (sym turned)
      (subst (λ k. slot_among (lookup (key_eq k) new) (not (runs_back e)) ≡ slot_among (lookup (key_eq k) old) (not (runs_back e))) same
      at_key)

  at_far : (f : Segment) → key_eq (key_of e) (key_of f) ≡ false → slot_in new f ≡ slot_in old f
  unfolding slot_in
  at_far f t = ap (λ o. slot_among o (runs_back f)) (wrote (key_of f) ∙ ap (λ b. cond b ways (lookup (key_eq (key_of f)) old)) t)

  at_rest : (f : Segment) (b : Bool) → key_eq (key_of e) (key_of f) ≡ b → f ≢ e → slot_in new f ≡ slot_in old f
  at_rest f true t d = at_side f d (key_eq-true (key_of e) (key_of f) t)
  at_rest f false t d = at_far f t

  at_other : (f : Segment) → f ≢ e → slot_in new f ≡ cond (segment_eq e f) slot (slot_in old f)
  at_other f d = at_rest f (key_eq (key_of e) (key_of f)) refl d ∙ sym (ap (λ b. cond b slot (slot_in old f)) (segment_eq-other e f d))

  pub written : IsWritten old new e slot
  written f = elim (same_or_not e f) [ inl same ↦ at_own f same | inr d ↦ at_other f d ]

-- nothing is written where an edge that has no slot is taken out
pub written_none : (old : List (Key × Ways)) (e : Segment) → slot_in old e ≡ None → IsWritten old old e None
written_none old e none f = elim (same_or_not e f) [
  | inl same ↦ ap (slot_in old) same ∙ none ∙ sym (ap (λ b. cond b None (slot_in old f)) (ap (segment_eq e) same ∙ segment_eq-refl e))
  | inr d ↦ sym (ap (λ b. cond b None (slot_in old f)) (segment_eq-other e f d))
]
