-- The current version of each holder, by the list of the current ones.
use Rattle.std.proofs.Common.{◌≡◌, ℕ, refl, sym, ap, ◌∙◌, arith, ◌<◌, inl, inr, List, [], ◌∷◌, length, get_or, map, subst}
use Rattle.std.specs.Prelude.{◌≢◌, true, false, Bool, cond, ◌+◌, Option, Some, None, find, MatchOption}
use Rattle.std.specs.List.{AllPairs, Contains, position_from}
use Rattle.std.specs.Str.{bytes_eq}
use Rattle.std.proofs.lemmas.Bool.{cases_Bool, cases_lt, both_ways}
use Rattle.std.proofs.lemmas.Iterator.Adapters.{position_from-zero}
use Rattle.std.proofs.lemmas.List.{get_or_default, get_or-map, length-map}
use Rattle.std.proofs.lemmas.List.Elements.{All-contains}
use Rattle.std.proofs.lemmas.List.Quantifiers.{position-Some}
use Rattle.std.proofs.lemmas.Slice.Eq.{bytes_eq-Decides}
use Rattle.rd_plane.proofs.Members.{contains_cases}
use Rattle.area_book.specs.declared.current.Current.{Current}
use Rattle.area_book.specs.declared.version.AreaVersion.{AreaVersion}
use Rattle.area_book.specs.Areas.{is_area_of}
use Rattle.area_book.specs.Standing.{AreCurrent, IsCurrentAs, IsCurrentIn, place_in}
use Rattle.area_book.proofs.Holders.{HasNone, IsFound, found}

abbrev pub holder_of : Current → List ℕ
holder_of c = c.holder

-- ---- the holder's place
pub at_holder : (h : List ℕ) (current : List Current) (k : ℕ) → place_in h current ≡ Some k → (k < length current) × ((d : Current)
    → (get_or current k d).holder ≡ h)
at_holder h current k q = let p = λ (d : Current). position-Some (λ (c : Current). bytes_eq c.holder h) current k d q in (
  inside current p,
  λ d.
      (bytes_eq-Decides (get_or current k d).holder h).0 (p d).1,
)
  where
    inside : (cs : List Current) → ((d : Current) → (k < length cs) × (bytes_eq (get_or cs k d).holder h ≡ true) ×
        ((j : ℕ) → j < k → bytes_eq (get_or cs j d).holder h ≡ false)) → k < length cs
    inside cs p = (p (record { holder = h; place = 0; bounds = None })).0

none_before : {X : Type 0} (p : X → Bool) (i : ℕ) (xs : List X) → position_from p i xs ≡ None → (x : X) → Contains xs x → p x ≡ true → ⊥
none_before p i [] q x c h = omega (arith, c.1)
none_before {X} p i (y ∷ xs) q x c h = elim (cases_Bool (p y)) [
  | inl t ↦ some_none (sym (ap (λ (b : Bool). cond b (Some i) (position_from p (i + 1) xs)) t) ∙ q)
  | inr t ↦ elim (contains_cases y x xs c) [
    | inl e ↦ both_ways (p y) t (ap p e ∙ h)
    | inr d ↦ none_before p (i + 1) xs (sym (ap (λ (b : Bool). cond b (Some i) (position_from p (i + 1) xs)) t) ∙ q) x d h
  ]
]
  where
    some_none : {j : ℕ} → Some j ≡ None → ⊥
    some_none e = cc

pub no_holder : (h : List ℕ) (current : List Current) → place_in h current ≡ None → (c : Current) → Contains current c → c.holder ≡ h → ⊥
no_holder h current q c k e = none_before (λ (x : Current). bytes_eq x.holder h) 0 current
    (sym (position_from-zero (λ (x : Current). bytes_eq x.holder h) current) ∙ q) c k ((bytes_eq-Decides c.holder h).1 e)

-- of one holder there is one
pub one_of : (current : List Current) (k : ℕ) (c : Current) → AllPairs ◌≢◌ (map holder_of current) → k < length current
    → (at : Contains current c)
    → (get_or current k c).holder ≡ c.holder → at.0 ≡ k
one_of current k c p l at e = elim (cases_lt at.0 k) [
  | inl m ↦ absurd (p at.0 k c.holder m (inside k l) (holder_at at.0 at.1 ∙ ap holder_of at.2 ∙ sym e ∙ sym (holder_at k l)))
  | inr m ↦ elim (cases_lt k at.0) [
    | inl n ↦ absurd (p k at.0 c.holder n (inside at.0 at.1) (holder_at k l ∙ e ∙ sym (ap holder_of at.2) ∙ sym (holder_at at.0 at.1)))
    | inr n ↦ omega (arith, m, n)
  ]
]
  where
    holder_at : (j : ℕ) → j < length current → get_or (map holder_of current) j c.holder ≡ (get_or current j c).holder
    holder_at j lj = get_or-map holder_of current j c c.holder lj

    inside : (j : ℕ) → j < length current → j < length (map holder_of current)
    inside j lj = omega (arith, lj, length-map current holder_of)

-- ---- versions by it
pub current_as : (current : List Current) (areas : List AreaVersion) (c : Current) → AreCurrent current areas → Contains current c
    → IsCurrentIn areas c
current_as current areas c s k = All-contains (IsCurrentIn areas) current c s.each k

-- a current version stands in the list, under its holder
pub stands : (current : List Current) (areas : List AreaVersion) (a : AreaVersion) → AreCurrent current areas → (at : Contains areas a)
    → a.until ≡ None
    → (c : Current) × Contains current c × (c.place ≡ at.0) × IsCurrentAs c a
stands current areas a s at u = let w = s.whole a at u in (
  w.0,
  w.1,
  w.2,
  subst (IsCurrentAs w.0) (ap (λ k. get_or areas k a) w.2 ∙ at.2)
      ((current_as current areas w.0 s w.1).is a),
)

-- the holder's area is the version that it names
pub found_at : (h : List ℕ) (current : List Current) (areas : List AreaVersion) (k : ℕ) (c : Current) (a : AreaVersion)
    → AreCurrent current areas
    → place_in h current ≡ Some k → c ≡ get_or current k c → a ≡ get_or areas c.place a → Some a ≡ find (is_area_of h) areas
found_at h current areas k c a s q e g = by (find (is_area_of h) areas) (found areas h)
  where
    l : k < length current
    l = (at_holder h current k q).0

    own : c.holder ≡ h
    own = ap holder_of e ∙ (at_holder h current k q).1 c

    has : Contains current c
    has = (k, l, sym e)

    is : IsCurrentAs c a
    is = subst (IsCurrentAs c) (sym g) ((current_as current areas c s has).is a)

    by : (r : Option AreaVersion) → MatchOption r (HasNone areas h) (IsFound areas h) → Some a ≡ r
    by None n = absurd (n a (c.place, (current_as current areas c s has).inside, sym g) (is.holder ∙ own) is.open_end)
    by (Some x) f = let w = stands current areas x s f.of f.current in
        let same : w.1.0 ≡ k
        = one_of current k w.0 s.apart l w.1 (ap holder_of (get_or_default current k w.0 c l ∙ sym e) ∙ own ∙ sym f.own ∙ w.3.holder) in
        let one : w.0 ≡ c = sym w.1.2 ∙ ap (λ j. get_or current j w.0) same ∙ get_or_default current k w.0 c l ∙ sym e in
        let place : f.of.0 ≡ c.place = sym w.2 ∙ ap (λ (y : Current). y.place) one in
        ap Some (g ∙ get_or_default areas c.place a x (current_as current areas c s has).inside ∙ ap (λ j. get_or areas j x)
        (sym place) ∙ f.of.2)

pub found_none : (h : List ℕ) (current : List Current) (areas : List AreaVersion) → AreCurrent current areas → place_in h current ≡ None
    → None ≡ find (is_area_of h) areas
found_none h current areas s q = by (find (is_area_of h) areas) (found areas h)
  where
    by : (r : Option AreaVersion) → MatchOption r (HasNone areas h) (IsFound areas h) → None ≡ r
    by None n = refl
    by (Some x) f = let w = stands current areas x s f.of f.current in absurd (no_holder h current q w.0 w.1 (sym w.3.holder ∙ f.own))
