-- The list of the current ones where a holder's area is replaced, or its first one is set.
use Rattle.std.proofs.Common.{◌≡◌, ℕ, refl, sym, ap, ◌∙◌, arith, ◌<◌, inl, inr, List, [], ◌∷◌, ◌++◌, ◌+◌, length, get_or, map, set, subst}
use Rattle.std.specs.Prelude.{ℤ, false, Bool, cond, ◌≢◌, ◌⊎◌, Some, None}
use Rattle.std.specs.List.{AllPairs, Contains}
use Rattle.std.proofs.lemmas.Bool.{cases_Bool, cases_eq, cases_lt, both_ways}
use Rattle.std.proofs.lemmas.List.{get_or_append_left, get_or-map, get_or-set_other, get_or-set_same, get_or_push, length-map, length-set, length_push, map-set, map_push, set-get_or}
use Rattle.std.proofs.lemmas.List.Elements.{Contains-append_left, Contains-push, Contains-push_cases, All-contains_itself}
use Rattle.std.proofs.lemmas.List.Quantifiers.{all_pairs_push}
use Rattle.rd_plane.specs.Plane.{Vertex}
use Rattle.area_book.specs.declared.current.Current.{Current}
use Rattle.area_book.specs.declared.version.AreaVersion.{AreaVersion}
use Rattle.area_book.specs.Areas.{area_ended, is_area_of, new_area}
use Rattle.area_book.specs.Standing.{AreCurrent, IsBoxOf, IsCurrentAs, IsCurrentIn, place_in}
use Rattle.area_book.proofs.Currents.{at_holder, current_as, holder_of, no_holder, one_of, stands}
use Rattle.area_book.proofs.Holders.{is_current, is_so}
use Rattle.area_book.proofs.Setting.{all_from}

-- the new list has this one for the holder, and keeps the others
pub record IsRenewed (h : List ℕ) (one : Current) (old new : List Current) : Type 0 where
  pub from : (c : Current) → Contains new c → (c ≡ one) ⊎ (Contains old c × (c.holder ≢ h))
  pub stays : (c : Current) → Contains old c → c.holder ≢ h → Contains new c
  pub has : Contains new one
  pub apart : AllPairs ◌≢◌ (map holder_of new)

pub first_set : (h : List ℕ) (one : Current) (old : List Current) → one.holder ≡ h → place_in h old ≡ None
    → AllPairs ◌≢◌ (map holder_of old)
    → IsRenewed h one old (old ++ one ∷ [])
first_set h one old e q p = record {
  from = λ c k. elim (Contains-push_cases old one c k) [ inl d ↦ inr (d, no_holder h old q c d) | inr d ↦ inl (sym d) ];
  stays = λ c k n. Contains-append_left old (one ∷ []) c k;
  has = Contains-push old one;
  apart = subst (AllPairs ◌≢◌) (sym (map_push holder_of old one)) (all_pairs_push ◌≢◌ (map holder_of old) one.holder p
      (λ k d l g. let m : k < length old = omega (arith, l, length-map old holder_of) in
      no_holder h old q (get_or old k one) (All-contains_itself old k one m) (sym (get_or-map holder_of old k one d m) ∙ g ∙ e)));
}

pub next_set : (h : List ℕ) (one : Current) (old : List Current) (k : ℕ) → one.holder ≡ h → place_in h old ≡ Some k
    → AllPairs ◌≢◌ (map holder_of old)
    → IsRenewed h one old (set old k one)
next_set h one old k e q p = record {
  from = λ c at. elim (cases_eq at.0 k) [
    | inl s ↦ inl (sym at.2 ∙ ap (λ j. get_or (set old k one) j c) s ∙ get_or-set_same old k one c l)
    | inr d ↦ let m : at.0 < length old = omega (arith, at.1, length-set old k one) in
        let g : get_or old at.0 c ≡ c = sym (get_or-set_other old k at.0 one c d) ∙ at.2 in
        inr ((at.0, m, g), λ o. d (one_of old k c p l (at.0, m, g) (own c ∙ sym o)))
  ];
  stays = λ c at n. (
    at.0,
    omega (arith, at.1, length-set old k one),
    get_or-set_other old k at.0 one c
        (λ s. n (sym (ap holder_of at.2) ∙ ap (λ j. (get_or old j c).holder) s ∙ own c)) ∙ at.2,
  );
  has = (k, omega (arith, l, length-set old k one), get_or-set_same old k one one l);
  apart = subst (AllPairs ◌≢◌) (sym same) p;
}
  where
    l : k < length old
    l = (at_holder h old k q).0

    own : (d : Current) → (get_or old k d).holder ≡ h
    own d = (at_holder h old k q).1 d

    same : map holder_of (set old k one) ≡ map holder_of old
    same = map-set holder_of old k one ∙ ap (λ (x : List ℕ). set (map holder_of old) k x)
        (e ∙ sym (own one) ∙ sym (get_or-map holder_of old k one one.holder l)) ∙ set-get_or (map holder_of old) k one.holder

-- ---- whose area ends
pub not_own : (h : List ℕ) (a : AreaVersion) → a.holder ≢ h → is_area_of h a ≡ false
not_own h a n = elim (cases_Bool (is_area_of h a)) [ inl t ↦ absurd (n (is_current h a t).0) | inr t ↦ t ]

unended : (h : List ℕ) (m : ℤ) (a : AreaVersion) → is_area_of h a ≡ false → area_ended h m a ≡ a
unended h m a t = ap (λ (b : Bool). cond b (record a { until = Some m }) a) t

open_still : (h : List ℕ) (m : ℤ) (a : AreaVersion) → (area_ended h m a).until ≡ None → is_area_of h a ≡ false
open_still h m a u = elim (cases_Bool (is_area_of h a)) [
  | inl t ↦ absurd (some_none (sym (ap (λ (b : Bool). (cond b (record a { until = Some m }) a).until) t) ∙ u))
  | inr t ↦ t
]
  where
    some_none : {x : ℤ} → Some x ≡ None → ⊥
    some_none e = cc

-- ---- the new versions have the new list
pub renewed_current : (h : List ℕ) (m : ℤ) (shapes : List (List (List Vertex))) (one : Current) (old new : List Current)
    (areas : List AreaVersion)
    → AreCurrent old areas → one.holder ≡ h → one.place ≡ length areas → IsBoxOf one.bounds shapes
    → IsRenewed h one old new → AreCurrent new (map (area_ended h m) areas ++ new_area h m shapes ∷ [])
renewed_current h m shapes one old new areas s e g b r = record {
  each = all_from (IsCurrentIn after) new
      (λ c k. elim (r.from c k) [ inl q ↦ subst (IsCurrentIn after) (sym q) last | inr t ↦ kept c t.0 t.1 ]);
  whole = whole;
  apart = r.apart;
}
  where
    ended : List AreaVersion
    ended = map (area_ended h m) areas

    added : AreaVersion
    added = new_area h m shapes

    after : List AreaVersion
    after = map (area_ended h m) areas ++ new_area h m shapes ∷ []

    many : length ended ≡ length areas
    many = length-map areas (area_ended h m)

    more : length after ≡ length areas + 1
    more = omega (arith, many, length_push ended added)

    here : (k : ℕ) (d : AreaVersion) → k < length areas → get_or after k d ≡ area_ended h m (get_or areas k d)
    here k d l = get_or_append_left ended (added ∷ []) d k (omega (arith, l, many)) ∙ get_or-map (area_ended h m) areas k d d l

    there : (k : ℕ) (d : AreaVersion) → k ≡ length areas → get_or after k d ≡ added
    there k d q = get_or_push ended added d k (omega (arith, many, q))

    last : IsCurrentIn after one
    last = record {
      inside = omega (arith, g, more);
      is = λ d. subst (IsCurrentAs one) (sym (there one.place d g))
          (record { holder = sym e; open_end = refl; boxed = b });
    }

    kept : (c : Current) → Contains old c → c.holder ≢ h → IsCurrentIn after c
    kept c k n = let is = current_as old areas c s k in record {
      inside = omega (arith, is.inside, more);
      is = λ d. subst (IsCurrentAs c) (sym (here c.place d is.inside ∙ unended h m (get_or areas c.place d)
          (not_own h (get_or areas c.place d) (λ o. n (sym (is.is d).holder ∙ o))))) (is.is d);
    }

    whole : (a : AreaVersion) (at : Contains after a) → a.until ≡ None → (c : Current) × Contains new c × (c.place ≡ at.0)
    whole a at u = elim (cases_lt at.0 (length areas)) [
      | inl l ↦
          let x = get_or areas at.0 a in
          let q : area_ended h m x ≡ a = sym (here at.0 a l) ∙ at.2 in
          let t : is_area_of h x ≡ false = open_still h m x (ap (λ (y : AreaVersion). y.until) q ∙ u) in
          let same : x ≡ a = sym (unended h m x t) ∙ q in
          let w = stands old areas a s (at.0, l, same) u in (
            w.0,
            r.stays w.0 w.1 (λ o. both_ways (is_area_of h x) t (is_so h x (ap (λ (y : AreaVersion). y.holder) same ∙ w.3.holder ∙ o)
                (ap (λ (y : AreaVersion). y.until) same ∙ u))),
            w.2,
          )
      | inr l ↦ (one, r.has, omega (arith, g, l, at.1, more))
    ]
