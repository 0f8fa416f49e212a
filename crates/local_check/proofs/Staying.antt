-- The parts that stay, by the index of boxes and by the list: the pairs with a coming part are those of the changed map.
use Rattle.std.proofs.Common.{◌≡◌, ℕ, refl, sym, ap, ◌∙◌, arith, inl, inr, List, [], ◌∷◌, ◌++◌, length, get_or, subst}
use Rattle.std.specs.Prelude.{true, false, Bool, not, cond, filter, Option, Some, None, IsSome, MatchOption}
use Rattle.std.specs.FinMap as fin
use Rattle.std.specs.List.{Any, Contains, list_any}
use Rattle.std.specs.Ordering.{nat_cmp}
use Rattle.std.specs.Str.{bytes_eq}
use Rattle.std.proofs.lemmas.Bool.{cases_Bool, both_ways}
use Rattle.std.proofs.lemmas.List.{get_or_default}
use Rattle.std.proofs.lemmas.List.Kept.{AllPairs-filter}
use Rattle.std.proofs.lemmas.Slice.Eq.{bytes_eq-Decides}
use Rattle.rd_plane.specs.Bounds.{Box}
use Rattle.rd_plane.specs.Order.{IsLeast}
use Rattle.rd_plane.proofs.Members.{contains_head, contains_tail, contains_cases}
use Rattle.level_rules.specs.declared.item.LevelItem.{LevelItem}
use Rattle.level_rules.specs.Levels.{BreakLevels, BreaksIn, BreaksNew, BreaksWith, HasBoxes, IsIndexOf, IsLeastFault, IsLevelled, LevelsHold, Stays, pair_cmp}
use Rattle.level_rules.proofs.Newest.{least_of_all, none_of_all, some_at}
use Rattle.level_rules.proofs.Searched.{share_boxes}
use Rattle.level_rules.proofs.Spoken.{boxes_index, first_levelled, second_levelled}
use Rattle.local_check.specs.Kept.{AreBoxed, FindsNear}
use Rattle.local_check.specs.Maps.{leaves, staying}
use Rattle.local_check.specs.Placed.{at_place, present}
use Rattle.local_check.proofs.Placing.{contains_at}

abbrev Pair : Type 0
Pair = List ℕ × List ℕ

-- ---- identifications that leave
pub any_from : (q : List ℕ) (ks : List (List ℕ)) → Contains ks q → list_any (bytes_eq q) ks ≡ true
any_from q [] c = absurd (omega (arith, c.1))
any_from q (k ∷ ks) c = elim (cases_Bool (bytes_eq q k)) [
  | inl t ↦ rw t refl
  | inr t ↦ elim (contains_cases k q ks c) [
    | inl e ↦ absurd (both_ways (bytes_eq q k) t ((bytes_eq-Decides q k).1 (sym e)))
    | inr d ↦ rw t (any_from q ks d)
  ]
]

pub any_to : (q : List ℕ) (ks : List (List ℕ)) → list_any (bytes_eq q) ks ≡ true → Contains ks q
any_to q [] h = absurd (both_ways false refl h)
any_to q (k ∷ ks) h = elim (cases_Bool (bytes_eq q k)) [
  | inl t ↦ subst (λ (l : List ℕ). Contains (k ∷ ks) l) (sym ((bytes_eq-Decides q k).0 t)) (contains_head k ks)
  | inr t ↦ contains_tail k q ks (any_to q ks (rw t at h))
]

pub leaves_is : (leaving : List (List ℕ)) (p : LevelItem) (b : Bool) → (b ≡ true → Contains leaving p.ident)
    → (Contains leaving p.ident → b ≡ true)
    → b ≡ leaves leaving p
leaves_is leaving p b to from = elim (cases_Bool (leaves leaving p)) [
  | inl t ↦ from (any_to p.ident leaving t) ∙ sym t
  | inr t ↦ elim (cases_Bool b) [
    | inl u ↦ absurd (both_ways (leaves leaving p) t (any_from p.ident leaving (to u)))
    | inr u ↦ u ∙ sym t
  ]
]

-- ---- a filter
filter_to : {X : Type 0} (p : X → Bool) (xs : List X) (x : X) → Contains (filter p xs) x → Contains xs x × (p x ≡ true)
filter_to p [] x c = absurd (omega (arith, c.1))
filter_to {X} p (y ∷ xs) x c = elim (cases_Bool (p y)) [
  | inl t ↦ elim (contains_cases y x (filter p xs) (subst (λ (b : Bool). Contains (cond b (y ∷ filter p xs) (filter p xs)) x) t c)) [
    | inl e ↦ (subst (Contains (y ∷ xs)) e (contains_head y xs), subst (λ z. p z ≡ true) e t)
    | inr d ↦ let k = filter_to p xs x d in (contains_tail y x xs k.0, k.1)
  ]
  | inr t ↦ let k = filter_to p xs x (subst (λ (b : Bool). Contains (cond b (y ∷ filter p xs) (filter p xs)) x) t c)
      in (contains_tail y x xs k.0, k.1)
]

filter_from : {X : Type 0} (p : X → Bool) (xs : List X) (x : X) → Contains xs x → p x ≡ true → Contains (filter p xs) x
filter_from p [] x c h = absurd (omega (arith, c.1))
filter_from p (y ∷ xs) x c h = elim (contains_cases y x xs c) [
  | inl e ↦ subst (λ (b : Bool). Contains (cond b (y ∷ filter p xs) (filter p xs)) x) (sym (ap p e ∙ h))
      (subst (Contains (y ∷ filter p xs)) e (contains_head y (filter p xs)))
  | inr d ↦ elim (cases_Bool (p y)) [
    | inl t ↦ subst (λ (b : Bool). Contains (cond b (y ∷ filter p xs) (filter p xs)) x) (sym t)
        (contains_tail y x (filter p xs) (filter_from p xs x d h))
    | inr t ↦ subst (λ (b : Bool). Contains (cond b (y ∷ filter p xs) (filter p xs)) x) (sym t) (filter_from p xs x d h)
  ]
]

-- ---- who stays
stays_to : (parts : List LevelItem) (index : fin.FinMap nat_cmp Box) (leaving : List (List ℕ)) (mate : LevelItem) → IsIndexOf parts index
    → Stays parts index leaving mate → Contains (staying leaving parts) mate
stays_to parts index leaving mate x s
    = filter_from (λ p. not (leaves leaving p)) parts mate (s.slot, (x s.slot s.box s.is).0, sym (s.at mate)) (elim
    (cases_Bool (leaves leaving mate)) [
      | inl t ↦ absurd (s.kept (any_to mate.ident leaving t))
      | inr t ↦ ap not t
    ])

some_of : {X : Type 0} (r : Option X) → IsSome r → (x : X) × (r ≡ Some x)
some_of None h = absurd (both_ways false refl h)
some_of (Some x) h = (x, refl)

-- and that the rule speaks of
stays_from : (parts : List LevelItem) (index : fin.FinMap nat_cmp Box) (leaving : List (List ℕ)) (mate : LevelItem)
    → HasBoxes parts index (length parts)
    → IsLevelled mate → Contains (staying leaving parts) mate → Stays parts index leaving mate
stays_from parts index leaving mate x s c =
    let k = filter_to (λ p. not (leaves leaving p)) parts mate c in
    let at_slot = λ (d : LevelItem). sym (get_or_default parts k.0.0 d mate k.0.1 ∙ k.0.2) in
    let b = some_of (fin.get index k.0.0) (x.whole k.0.0 k.0.1 (λ d. subst IsLevelled (at_slot d) s)) in record {
      slot = k.0.0;
      box = b.0;
      is = b.1;
      at = at_slot;
      kept = λ l. both_ways (not (leaves leaving mate)) (ap not (any_from mate.ident leaving l)) k.1;
    }

-- ---- mates: parts among which are those that break the rule with a coming part
pub record AreMates (coming parts mates : List LevelItem) : Type 0 where
  pub those : (p : LevelItem) → Contains mates p → Contains parts p
  pub all : (item p : LevelItem) → Contains coming item → BreakLevels item p → Contains parts p → Contains mates p

-- those whose boxes meet that of a coming part are enough
pub mates_near : (boxes : fin.FinMap nat_cmp Box) (slots : List (Option LevelItem)) (near : List ℕ) (coming mates : List LevelItem)
    → AreBoxed boxes slots
    → ((part : LevelItem) → Contains coming part → IsLevelled part → FindsNear boxes near part.shape)
    → ((p : LevelItem) → Contains mates p → Contains (present slots) p)
    → ((k : ℕ) (p : LevelItem) → Contains near k → at_place slots k ≡ Some p → Contains mates p) → AreMates coming (present slots) mates
mates_near boxes slots near coming mates boxed found those all = record {
  those = those;
  all = λ item p c b d.
      let k = contains_at slots p d in
      let h = boxed k.0 p k.1 in
      let f = found item c (first_levelled item p b) in
      all k.0 p (f.found k.0 h.box h.is (share_boxes item p f.box h.box b f.least h.least)) k.1;
}

-- ---- pairs with a coming part
module _ (coming parts mates : List LevelItem) (index : fin.FinMap nat_cmp Box) (leaving : List (List ℕ))
    (m : AreMates coming parts mates) where
  new_with : (pair : Pair) → IsIndexOf mates index → BreaksNew coming mates index leaving pair
      → BreaksWith coming (staying leaving parts) pair
  new_with pair x b = elim b.case [
    | inl k ↦ inl k
    | inr k ↦
        let s = filter_to (λ p. not (leaves leaving p)) mates k.1 (stays_to mates index leaving k.1 x k.3) in
        inr (record {
          item = k.0;
          mate = k.1;
          new = k.2;
          stays = filter_from (λ p. not (leaves leaving p)) parts k.1
              (m.those k.1 s.0) s.1;
          breaks = k.4;
          is = k.5;
        })
  ]

  with_new : (pair : Pair) → HasBoxes mates index (length mates) → BreaksWith coming (staying leaving parts) pair
      → BreaksNew coming mates index leaving pair
  with_new pair x b = record {
    case = elim b [
      | inl k ↦ inl k
      | inr k ↦
          let s = filter_to (λ p. not (leaves leaving p)) parts k.mate k.stays in
          let near = filter_from (λ p. not (leaves leaving p)) mates k.mate (m.all k.item k.mate k.new k.breaks s.0) s.1 in
          inr (k.item, k.mate, k.new, stays_from mates index leaving k.mate x (second_levelled k.item k.mate k.breaks) near, k.breaks, k.is)
    ];
  }

stay_hold : (leaving : List (List ℕ)) (parts : List LevelItem) → LevelsHold parts → LevelsHold (staying leaving parts)
stay_hold leaving parts h = AllPairs-filter (λ x y. BreakLevels x y → ⊥) (λ p. not (leaves leaving p)) parts h

pub pair_after : (coming parts mates : List LevelItem) (index : fin.FinMap nat_cmp Box) (leaving : List (List ℕ))
    (found : Option Pair) → LevelsHold parts
    → AreMates coming parts mates → HasBoxes mates index (length mates) →
    MatchOption found ((pair : Pair) → BreaksNew coming mates index leaving pair → ⊥) (IsLeastFault coming mates index leaving)
    → MatchOption found (LevelsHold (staying leaving parts ++ coming)) (IsLeast pair_cmp (BreaksIn (staying leaving parts ++ coming)))
pair_after coming parts mates index leaving None h m x n = none_of_all (staying leaving parts) coming (stay_hold leaving parts h)
    (λ pair b. n pair
    (with_new coming parts mates index leaving m pair x b))
pair_after coming parts mates index leaving (Some p) h m x l = least_of_all (staying leaving parts) coming p (stay_hold leaving parts h)
    (record {
      has = new_with coming parts mates index leaving m p (boxes_index mates index (length mates) (omega arith) x) l.has;
      least = λ b u. l.least b
          (with_new coming parts mates index leaving m b x u);
    })

-- where the rule speaks of no part that comes
pub none_spoken : (coming parts : List LevelItem) (leaving : List (List ℕ)) → LevelsHold parts → (Any IsLevelled coming → ⊥)
    → LevelsHold (staying leaving parts ++ coming)
none_spoken coming parts leaving h n = none_of_all (staying leaving parts) coming (stay_hold leaving parts h) (λ pair b. elim b [
  | inl k ↦ let d = some_at coming k.other k.inside in
      n (
        k.other,
        get_or coming k.other d,
        k.inside,
        get_or_default coming k.other (get_or coming k.other d) d k.inside,
        second_levelled
            (get_or coming k.one d) (get_or coming k.other d) (k.breaks d),
      )
  | inr k ↦ n (k.new.0, k.item, k.new.1, k.new.2, first_levelled k.item k.mate k.breaks)
])
