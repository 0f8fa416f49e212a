-- The pairs that a search comes by, object by object.
use Rattle.std.proofs.Common.{◌≡◌, ℕ, refl, sym, ap, ◌∙◌, arith, ◌+◌, ◌<◌, ◌≤◌, inl, inr, List, [], length, get_or, subst}
use Rattle.std.specs.Prelude.{◌⊎◌, false, Option, None, Some, IsSome, MatchOption, slice_index}
use Rattle.std.specs.FinMap as map
use Rattle.std.specs.List.{Contains}
use Rattle.std.specs.Ordering.{nat_cmp}
use Rattle.std.proofs.lemmas.Bool.{cases_lt, both_ways}
use Rattle.std.proofs.lemmas.List.{get_or_default}
use Rattle.rd_plane.specs.Bounds.{Box, HaveCommonPoint, IsLeastBox}
use Rattle.rd_plane.specs.Improving.{Improves}
use Rattle.rd_plane.specs.Order.{IsLeast}
use Rattle.rd_plane.proofs.Improving.{Either, both, same, none, least_of}
use Rattle.box_index.specs.Boxed.{AreMeeting}
use Rattle.part_shape.specs.Faults.{corners_of}
use Rattle.part_shape.proofs.Sharing.{boxes_common}
use Rattle.level_rules.specs.declared.item.LevelItem.{LevelItem}
use Rattle.level_rules.specs.Levels.{BreakLevels, BreaksNew, HasBoxes, IsIndexOf, IsLevelled, pair_cmp}
use Rattle.level_rules.specs.Pairs.{IsPairOf, PairsEarlier, PairsMate}
use Rattle.level_rules.proofs.Newest.{other_way, pair_back}
use Rattle.level_rules.proofs.PairOrder.{Pair, pair_total}
use Rattle.level_rules.proofs.Spoken.{first_levelled, second_levelled}

-- ---- which pairs, on the way
-- the object and a mate that does not leave, at one of the first slots
pub record PairsNear (item : LevelItem) (mates : List LevelItem) (slots : List ℕ) (leaving : List (List ℕ)) (to : ℕ) (pair : Pair) : Type 0
  where
    pub place : ℕ
    pub before : place < to
    pub mate : LevelItem
    pub at : (d : LevelItem) → mate ≡ get_or mates (slice_index slots place) d
    pub kept : Contains leaving mate.ident → ⊥
    pub is : IsPairOf item mate pair

-- the object at i, with one before it or with a mate that stays
abbrev pub PairsAt : List LevelItem → List LevelItem → map.FinMap nat_cmp Box → List (List ℕ) → ℕ → Pair → Type 0
PairsAt items mates index leaving i pair = PairsEarlier items i pair ⊎ ((item : LevelItem) ×
    (get_or items i item ≡ item) × PairsMate item mates index leaving pair)

-- one of the first objects, with one before it or with a mate that stays
pub record PairsBefore (items mates : List LevelItem) (index : map.FinMap nat_cmp Box) (leaving : List (List ℕ)) (to : ℕ)
    (pair : Pair) : Type 0 where
  pub one : ℕ
  pub before : one < to
  pub is : PairsAt items mates index leaving one pair

-- ---- mates
pub mate_leaves : (item mate : LevelItem) (leaving : List (List ℕ)) (a : Option Pair) → Contains leaving mate.ident
    → Improves pair_cmp (λ p. (Contains leaving mate.ident → ⊥) × IsPairOf item mate p) a a
mate_leaves item mate leaving a c = none pair_total a (λ p t. t.0 c)

pub near_begin : (item : LevelItem) (mates : List LevelItem) (slots : List ℕ) (leaving : List (List ℕ)) (a : Option Pair)
    → Improves pair_cmp (PairsNear item mates slots leaving 0) a a
near_begin item mates slots leaving a = none pair_total a (λ p t. omega (arith, t.before))

pub near_more : (item : LevelItem) (mates : List LevelItem) (slots : List ℕ) (leaving : List (List ℕ)) (k slot : ℕ) (mate : LevelItem)
    (a b c : Option Pair)
    → slice_index slots k ≡ slot → slot < length mates → get_or mates slot mate ≡ mate →
    Improves pair_cmp (PairsNear item mates slots leaving k) a b
    → Improves pair_cmp (λ p. (Contains leaving mate.ident → ⊥) × IsPairOf item mate p) b c
    → Improves pair_cmp (PairsNear item mates slots leaving (k + 1)) a c
near_more item mates slots leaving k slot mate a b c q l m f g = same a c there back (both pair_total a b c f g)
  where
    at_slot : (d : LevelItem) → get_or mates (slice_index slots k) d ≡ mate
    at_slot d = ap (λ n. get_or mates n d) q ∙ get_or_default mates slot d mate l ∙ m

    there : (p : Pair) → Either (PairsNear item mates slots leaving k) (λ r. (Contains leaving mate.ident → ⊥) × IsPairOf item mate r) p
        → PairsNear item mates slots leaving (k + 1) p
    there p t = elim t [
      | inl s ↦ record { place = s.place; before = omega (arith, s.before); mate = s.mate; at = s.at; kept = s.kept; is = s.is }
      | inr s ↦ record { place = k; before = omega arith; mate = mate; at = λ d. sym (at_slot d); kept = s.0; is = s.1 }
    ]

    back : (p : Pair) → PairsNear item mates slots leaving (k + 1) p → Either (PairsNear item mates slots leaving k)
        (λ r. (Contains leaving mate.ident → ⊥) × IsPairOf item mate r) p
    back p s = elim (cases_lt s.place k) [
      | inl h ↦ inl (record { place = s.place; before = h; mate = s.mate; at = s.at; kept = s.kept; is = s.is })
      | inr h ↦ let e : s.place ≡ k = omega (arith, h, s.before) in let w : s.mate ≡ mate = s.at mate
          ∙ ap (λ n. get_or mates (slice_index slots n) mate) e ∙ at_slot mate in
          inr (subst (λ (x : LevelItem). Contains leaving x.ident → ⊥) w s.kept, subst (λ x. IsPairOf item x p) w s.is)
    ]

-- shapes that share a point have boxes that meet
pub share_boxes : (item mate : LevelItem) (near box : Box) → BreakLevels item mate → IsLeastBox (corners_of item.shape) near
    → IsLeastBox (corners_of mate.shape) box → HaveCommonPoint box near
share_boxes item mate near box b h k = let c = boxes_common near box item.shape mate.shape h k b.share in (c.0, c.2, c.1)

at_place : (n : ℕ) (ns : List ℕ) → n < length ns → get_or ns n (slice_index ns n) ≡ slice_index ns n
at_place n ns l = get_or_default ns n (slice_index ns n) 0 l

pub near_whole : (item : LevelItem) (mates : List LevelItem) (index : map.FinMap nat_cmp Box) (near : Box) (slots : List ℕ)
    (leaving : List (List ℕ))
    (k : ℕ) (a b : Option Pair) → IsIndexOf mates index → IsLeastBox (corners_of item.shape) near → AreMeeting index near slots
    → length slots ≤ k
    → k ≤ length slots →
    Improves pair_cmp (PairsNear item mates slots leaving k) a b → Improves pair_cmp (PairsMate item mates index leaving) a b
near_whole item mates index near slots leaving k a b x h w le ge f = same a b there back f
  where
    there : (p : Pair) → PairsNear item mates slots leaving k p → PairsMate item mates index leaving p
    there p s = let l : s.place < length slots = omega (arith, s.before, ge) in let m = (w.just (slice_index slots s.place)).0
        (s.place, l, at_place s.place slots l) in record {
          mate = s.mate;
          stays = record { slot = slice_index slots s.place; box = m.own; is = m.is; at = s.at; kept = s.kept };
          is = s.is;
        }

    near_by : (p : Pair) (t : PairsMate item mates index leaving p) → Contains slots t.stays.slot
    near_by p t = let i = x t.stays.slot t.stays.box t.stays.is in
        (w.just t.stays.slot).1 (record {
          own = t.stays.box;
          is = t.stays.is;
          common = share_boxes item t.mate near t.stays.box t.is.breaks h
              (subst (λ (u : LevelItem). IsLeastBox (corners_of u.shape) t.stays.box) (sym (t.stays.at t.mate)) (i.1 t.mate));
        })

    placed : (p : Pair) (t : PairsMate item mates index leaving p) → Contains slots t.stays.slot → PairsNear item mates slots leaving k p
    placed p t c = record {
      place = c.0;
      before = omega (arith, c.1, le);
      mate = t.mate;
      at = λ d. t.stays.at d ∙ ap (λ n. get_or mates n d) (sym (get_or_default slots c.0 0 t.stays.slot c.1 ∙ c.2));
      kept = t.stays.kept;
      is = t.is;
    }

    back : (p : Pair) → PairsMate item mates index leaving p → PairsNear item mates slots leaving k p
    back p t = placed p t (near_by p t)

-- a slot that is near is a place of a mate
pub near_inside : (mates : List LevelItem) (index : map.FinMap nat_cmp Box) (near : Box) (slots : List ℕ) (k : ℕ) → IsIndexOf mates index
    → AreMeeting index near slots → k < length slots → slice_index slots k < length mates
near_inside mates index near slots k x w l = let m = (w.just (slice_index slots k)).0 (k, l, at_place k slots l)
    in (x (slice_index slots k) m.own m.is).0

-- ---- those before an object, as mates of which none leaves
turned : (x y : LevelItem) (p : Pair) → IsPairOf x y p → IsPairOf y x p
turned x y p s = record { breaks = other_way x y s.breaks; is = s.is ∙ pair_back x.ident y.ident }

some_of : {X : Type 0} (r : Option X) → IsSome r → (x : X) × (r ≡ Some x)
some_of None h = absurd (both_ways false refl h)
some_of (Some x) h = (x, refl)

pub earlier : (items : List LevelItem) (index : map.FinMap nat_cmp Box) (leaving : List (List ℕ)) (i : ℕ) (x : LevelItem)
    (a b : Option Pair)
    → i < length items → get_or items i x ≡ x → HasBoxes items index i → leaving ≡ []
    → Improves pair_cmp (PairsMate x items index leaving) a b → Improves pair_cmp (PairsEarlier items i) a b
earlier items index leaving i x a b l q h e f = same a b there back f
  where
    at_i : (d : LevelItem) → get_or items i d ≡ x
    at_i d = get_or_default items i d x l ∙ q

    there : (p : Pair) → PairsMate x items index leaving p → PairsEarlier items i p
    there p t = record {
      other = t.stays.slot;
      before = (h.boxes t.stays.slot t.stays.box t.stays.is).0;
      is = λ d. subst (λ u. IsPairOf (get_or items t.stays.slot d) u p) (sym (at_i d))
          (turned x (get_or items t.stays.slot d) p (subst (λ u. IsPairOf x u p) (t.stays.at d) t.is));
    }

    levelled_at : (p : Pair) (t : PairsEarlier items i p) (d : LevelItem) → IsLevelled (get_or items t.other d)
    levelled_at p t d = first_levelled (get_or items t.other d) (get_or items i d) (t.is d).breaks

    back : (p : Pair) → PairsEarlier items i p → PairsMate x items index leaving p
    back p t = let s = some_of (map.get index t.other) (h.whole t.other t.before (levelled_at p t)) in record {
      mate = get_or items t.other x;
      stays = record {
        slot = t.other;
        box = s.0;
        is = s.1;
        at = λ d. get_or_default items t.other x d (omega (arith, t.before, l));
        kept = λ c. omega
            (arith, c.1, ap length e);
      };
      is = subst (λ u. IsPairOf u (get_or items t.other x) p) (at_i x) (turned (get_or items t.other x) (get_or items i x) p (t.is x));
    }

-- ---- an object
pub unlevelled : (items mates : List LevelItem) (index : map.FinMap nat_cmp Box) (leaving : List (List ℕ)) (i : ℕ) (x : LevelItem)
    (a : Option Pair)
    → i < length items → get_or items i x ≡ x → (IsLevelled x → ⊥) → Improves pair_cmp (PairsAt items mates index leaving i) a a
unlevelled items mates index leaving i x a l q n = none pair_total a (λ p t. elim t [
  | inl s ↦ n (subst IsLevelled q (second_levelled (get_or items s.other x) (get_or items i x) (s.is x).breaks))
  | inr s ↦ n (subst IsLevelled (sym s.1 ∙ get_or_default items i s.0 x l ∙ q) (first_levelled s.0 s.2.mate s.2.is.breaks))
])

pub levelled : (items mates : List LevelItem) (index : map.FinMap nat_cmp Box) (leaving : List (List ℕ)) (i : ℕ) (x : LevelItem)
    (a b c : Option Pair)
    → i < length items → get_or items i x ≡ x → Improves pair_cmp (PairsEarlier items i) a b
    → Improves pair_cmp (PairsMate x mates index leaving) b c → Improves pair_cmp (PairsAt items mates index leaving i) a c
levelled items mates index leaving i x a b c l q f g = same a c
    (λ p t. elim t [ inl s ↦ inl s | inr s ↦ inr (x, q, s) ])
    (λ p t. elim t
    [ inl s ↦ inl s | inr s ↦ inr (subst (λ u. PairsMate u mates index leaving p) (sym s.1 ∙ get_or_default items i s.0 x l ∙ q) s.2) ])
    (both pair_total a b c f g)

-- ---- all objects
pub items_begin : (items mates : List LevelItem) (index : map.FinMap nat_cmp Box) (leaving : List (List ℕ)) (a : Option Pair)
    → Improves pair_cmp (PairsBefore items mates index leaving 0) a a
items_begin items mates index leaving a = none pair_total a (λ p t. omega (arith, t.before))

pub items_more : (items mates : List LevelItem) (index : map.FinMap nat_cmp Box) (leaving : List (List ℕ)) (i : ℕ) (a b c : Option Pair)
    → Improves pair_cmp (PairsBefore items mates index leaving i) a b → Improves pair_cmp (PairsAt items mates index leaving i) b c
    → Improves pair_cmp (PairsBefore items mates index leaving (i + 1)) a c
items_more items mates index leaving i a b c f g = same a c there back (both pair_total a b c f g)
  where
    there : (p : Pair) → Either (PairsBefore items mates index leaving i) (PairsAt items mates index leaving i) p
        → PairsBefore items mates index leaving (i + 1) p
    there p t = elim t [
      | inl s ↦ record { one = s.one; before = omega (arith, s.before); is = s.is }
      | inr s ↦ record { one = i; before = omega arith; is = s }
    ]

    back : (p : Pair) → PairsBefore items mates index leaving (i + 1) p → Either (PairsBefore items mates index leaving i)
        (PairsAt items mates index leaving i) p
    back p s = elim (cases_lt s.one i) [
      | inl h ↦ inl (record { one = s.one; before = h; is = s.is })
      | inr h ↦ let e : s.one ≡ i = omega (arith, h, s.before) in inr (subst (λ n. PairsAt items mates index leaving n p) e s.is)
    ]

pub items_whole : (items mates : List LevelItem) (index : map.FinMap nat_cmp Box) (leaving : List (List ℕ)) (i : ℕ) (b : Option Pair)
    → length items ≤ i
    → i ≤ length items → Improves pair_cmp (PairsBefore items mates index leaving i) None b →
    MatchOption b ((pair : Pair) → BreaksNew items mates index leaving pair → ⊥) (IsLeast pair_cmp (BreaksNew items mates index leaving))
items_whole items mates index leaving i b h k f =
    least_of b (same {T = PairsBefore items mates index leaving i} {U = BreaksNew items mates index leaving} None b there back f)
  where
    inside : (n : ℕ) → n < i → n < length items
    inside n l = omega (arith, l, k)

    there : (p : Pair) → PairsBefore items mates index leaving i p → BreaksNew items mates index leaving p
    there p s = record {
      case = elim s.is [
        | inl t ↦ inl (record {
          one = t.other;
          other = s.one;
          before = t.before;
          inside = inside s.one s.before;
          breaks = λ d. (t.is d).breaks;
          is = λ d.
              (t.is d).is;
        })
        | inr t ↦ inr (t.0, t.2.mate, (s.one, inside s.one s.before, t.1), t.2.stays, t.2.is.breaks, t.2.is.is)
      ];
    }

    back : (p : Pair) → BreaksNew items mates index leaving p → PairsBefore items mates index leaving i p
    back p s = elim s.case [
      | inl t ↦ record {
        one = t.other;
        before = omega (arith, h, t.inside);
        is = inl
            (record { other = t.one; before = t.before; is = λ d. record { breaks = t.breaks d; is = t.is d } });
      }
      | inr t ↦ record {
        one = t.2.0;
        before = omega (arith, t.2.1, h);
        is = inr
            (t.0, t.2.2, record { mate = t.1; stays = t.3; is = record { breaks = t.4; is = t.5 } });
      }
    ]
