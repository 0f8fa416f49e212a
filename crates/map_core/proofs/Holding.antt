-- The maps that the register holds, before and after a message is tried, kept or given up.
use Rattle.std.proofs.Common.{◌≡◌, ◌≢◌, ◌∙◌, ℕ, List, Option, Some, None, ap, cond, sym, refl, subst, inl, inr, false, Bool}
use Rattle.std.specs.Cmp.Lexicographic.{slice_cmp}
use Rattle.std.specs.Ordering.{is_eq, nat_cmp}
use Rattle.std.proofs.lemmas.Map.Text.{is_eq-slice_cmp}
use Rattle.std.specs.BTreeMap.{BTreeMap}
use Rattle.std.specs.Prelude.{IfSome, IsSome, is_some, option_map, unwrap_or}
use Rattle.std.specs.Str.{bytes_eq}
use Rattle.std.proofs.lemmas.Bool.{cases_Bool, both_ways}
use Rattle.std.proofs.lemmas.Slice.Eq.{bytes_eq-Decides}
use Rattle.half_edge.specs.Ground.{Standing}
use Rattle.local_check.specs.Borders.{IsGroundOf}
use Rattle.local_check.specs.Maps.{HolderParts, MapView}
use Rattle.map_core.specs.Maps.{AreAtRest, AreMapsOf, AreTriedMaps, IsCommitted, IsGivenUp, IsTriedIn, map_in, no_map, now_in, resting, trying}
use Rattle.local_check.specs.Maps.{refusal_of as fault_of}
use Rattle.local_check.specs.MapRules.{MapRule}
use Rattle.local_check.specs.declared.fault.MapFault.{MapFault}
use Rattle.local_check.specs.declared.fault.MapFault.TheVariants as fault
use Rattle.map_rules.specs.declared.refusal.Refusal.{Refusal}
use Rattle.map_rules.specs.Rules.{MapRules, refusal_by}
use Rattle.map_rules.specs.State.{State, map_now, moment_of}

abbrev Maps : Type 0
Maps = BTreeMap (List ℕ) MapView

-- what is said of a holder and of each other one is said of all
by_holder : (holder : List ℕ) (P : List ℕ → Type 0) → P holder → ((other : List ℕ) → other ≢ holder → P other) → (h : List ℕ) → P h
by_holder holder P own others h = elim (cases_Bool (bytes_eq h holder)) [
  | inl t ↦ subst P (sym ((bytes_eq-Decides h holder).0 t)) own
  | inr t ↦ others h (λ q. both_ways (bytes_eq h holder) t ((bytes_eq-Decides h holder).1 q))
]

abbrev pub now_of : Option MapView → HolderParts
now_of o = unwrap_or (option_map (λ (v : MapView). v.now) o) no_map

-- this stands in the holder's place, and all other maps stay
pub record IsSetAt (old new : Maps) (holder : List ℕ) (v : MapView) : Type 0 where
  pub here : map_in new holder ≡ Some v
  pub others : (other : List ℕ) → other ≢ holder → map_in new other ≡ map_in old other

-- what is written at a key
pub written : (old new : Maps) (holder : List ℕ) (v : MapView)
    → ((q : List ℕ) → map_in new q ≡ cond (is_eq (slice_cmp nat_cmp holder q)) (Some v) (map_in old q)) → IsSetAt old new holder v
written old new holder v by = record {
  here = by holder ∙ ap (λ (b : Bool). cond b (Some v) (map_in old holder))
      (is_eq-slice_cmp holder holder ∙ (bytes_eq-Decides holder holder).1 refl);
  others = λ o d. by o ∙ ap (λ (b : Bool). cond b (Some v) (map_in old o)) (is_eq-slice_cmp holder o ∙ differs holder o (λ e. d (sym e)));
}
  where
    differs : (a b : List ℕ) → a ≢ b → bytes_eq a b ≡ false
    differs a b d = elim (cases_Bool (bytes_eq a b)) [ inl t ↦ absurd (d ((bytes_eq-Decides a b).0 t)) | inr t ↦ t ]

-- what stood there, with no change of the rest
pub same_written : (old new : Maps) (holder : List ℕ) (v w : MapView) → Some v ≡ map_in old holder → IsSetAt old new holder w → w ≡ v
    → (h : List ℕ) → map_in new h ≡ map_in old h
same_written old new holder v w was set same
    = by_holder holder (λ h. map_in new h ≡ map_in old h) (set.here ∙ ap (λ (x : MapView). Some x) same ∙ was) set.others

-- a map is tried in a map that stood there
pub tried_here : (old new : Maps) (holder : List ℕ) (v w : MapView) (made : HolderParts → HolderParts) → Some v ≡ map_in old holder
    → IsSetAt old new holder w
    → w ≡ trying v.now (made v.now) → IsTriedIn old new holder (made (now_in old holder))
tried_here old new holder v w made was set is = record {
  here = set.here ∙ ap (λ (x : MapView). Some x) is ∙ ap (λ (x : HolderParts). Some (trying x (made x))) (ap now_of was);
  others = set.others;
}

-- and in one that is new
pub tried_first : (old new : Maps) (holder : List ℕ) (w : MapView) (made : HolderParts → HolderParts) → map_in old holder ≡ None
    → IsSetAt old new holder w
    → w ≡ trying no_map (made no_map) → IsTriedIn old new holder (made (now_in old holder))
tried_first old new holder w made absent set is = record {
  here = set.here ∙ ap (λ (x : MapView). Some x) is ∙ ap (λ (x : HolderParts). Some (trying x (made x))) (sym (ap now_of absent));
  others = set.others;
}

-- what is tried becomes the map
pub committed : (old new : Maps) (holder : List ℕ) (v w : MapView) → Some v ≡ map_in old holder → IsSome v.tried → IsSetAt old new holder w
    → IfSome v.tried (λ m. w ≡ resting m) → IsCommitted old new holder
committed old new holder v w was some set is = record {
  here = set.here ∙ ap (λ (x : MapView). Some x)
      (by v.tried some is) ∙ ap (λ (x : Option MapView). option_map (λ (u : MapView). resting (unwrap_or u.tried u.now)) x) was;
  others = set.others;
}
  where
    by : (o : Option HolderParts) → IsSome o → IfSome o (λ m. w ≡ resting m) → w ≡ resting (unwrap_or o v.now)
    by None n i = cc
    by (Some m) n i = i

-- what is tried goes
pub abandoned : (old new : Maps) (holder : List ℕ) (v w : MapView) → Some v ≡ map_in old holder → IsSetAt old new holder w
    → w ≡ resting v.now → IsGivenUp old new holder
abandoned old new holder v w was set is = record {
  here = set.here ∙ ap (λ (x : MapView). Some x) is ∙ ap (λ (x : Option MapView). option_map (λ (u : MapView). resting u.now) x) was;
  others = set.others;
}

-- a map is tried: the holder's map in the next state is
pub tried : (s next : State) (old new : Maps) (holder : List ℕ) (made : HolderParts) → AreMapsOf s old → AreAtRest old
    → made ≡ map_now holder next
    → IsTriedIn old new holder made → ((other : List ℕ) → other ≢ holder → map_now other next ≡ map_now other s)
    → ((other : List ℕ) → other ≢ holder → moment_of other next.last ≡ moment_of other s.last) → AreTriedMaps s next holder new
tried s next old new holder made maps rest is t stay last = record {
  here = t.here ∙ ap (λ (x : HolderParts). Some (trying x made))
      (maps.now holder) ∙ ap (λ (x : HolderParts). Some (trying (map_now holder s) x)) is;
  others = λ o d. subst (λ (x : Option MapView). IfSome x (λ v. v.tried ≡ None)) (sym (t.others o d)) (rest o);
  stay = λ o d. (ap now_of (t.others o d) ∙ maps.now o, stay o d);
  there = (
    by_holder holder (λ h. IsSome (moment_of h s.last) → IsSome (map_in new h)) (λ k. here)
        (λ o d k. ap is_some (t.others o d) ∙ maps.there o k),
    by_holder holder (λ h. IsSome (moment_of h next.last) → IsSome (map_in new h)) (λ k. here)
        (λ o d k. ap is_some (t.others o d) ∙ maps.there o (ap is_some (sym (last o d)) ∙ k)),
  );
}
  where
    here : IsSome (map_in new holder)
    here = ap is_some t.here

-- the maps are as before
pub untouched : (s : State) (old new : Maps) → ((h : List ℕ) → map_in new h ≡ map_in old h) → AreMapsOf s old × AreAtRest old
    → AreMapsOf s new × AreAtRest new
untouched s old new same m = (
  record { now = λ h. ap now_of (same h) ∙ m.0.now h; there = λ h k. ap is_some (same h) ∙ m.0.there h k },
  (λ h. subst (λ (x : Option MapView). IfSome x (λ v. v.tried ≡ None)) (sym (same h)) (m.1 h)),
)

-- the tried map is kept
pub kept : (s next : State) (old new : Maps) (holder : List ℕ) → AreTriedMaps s next holder old → IsCommitted old new holder
    → AreMapsOf next new × AreAtRest new
kept s next old new holder t c = (
  record {
    now = by_holder holder (λ h. now_in new h ≡ map_now h next) (ap now_of here)
        (λ o d. ap now_of (c.others o d) ∙ (t.stay o d).0 ∙ sym (t.stay o d).1);
    there = by_holder holder (λ h. IsSome (moment_of h next.last) → IsSome (map_in new h)) (λ k. ap is_some here)
        (λ o d k. ap is_some (c.others o d) ∙ t.there.1 o k);
  },
  by_holder holder (λ h. IfSome (map_in new h) (λ v. v.tried ≡ None))
      (subst (λ (x : Option MapView). IfSome x (λ v. v.tried ≡ None)) (sym here) refl)
      (λ o d. subst (λ (x : Option MapView). IfSome x (λ v. v.tried ≡ None)) (sym (c.others o d)) (t.others o d)),
)
  where
    here : map_in new holder ≡ Some (resting (map_now holder next))
    here = c.here ∙ ap (λ (x : Option MapView). option_map (λ (v : MapView). resting (unwrap_or v.tried v.now)) x) t.here

-- the tried map is given up
pub given_up : (s next : State) (old new : Maps) (holder : List ℕ) → AreTriedMaps s next holder old → IsGivenUp old new holder
    → AreMapsOf s new × AreAtRest new
given_up s next old new holder t c = (
  record {
    now = by_holder holder (λ h. now_in new h ≡ map_now h s) (ap now_of here) (λ o d. ap now_of (c.others o d) ∙ (t.stay o d).0);
    there = by_holder holder (λ h. IsSome (moment_of h s.last) → IsSome (map_in new h)) (λ k. ap is_some here)
        (λ o d k. ap is_some (c.others o d) ∙ t.there.0 o k);
  },
  by_holder holder (λ h. IfSome (map_in new h) (λ v. v.tried ≡ None))
      (subst (λ (x : Option MapView). IfSome x (λ v. v.tried ≡ None)) (sym here) refl)
      (λ o d. subst (λ (x : Option MapView). IfSome x (λ v. v.tried ≡ None)) (sym (c.others o d)) (t.others o d)),
)
  where
    here : map_in new holder ≡ Some (resting (map_now holder s))
    here = c.here ∙ ap (λ (x : Option MapView). option_map (λ (v : MapView). resting v.now) x) t.here

-- where the holder's map in the next state is tried, its map is tried
pub is_tried : (s next : State) (maps : Maps) (holder : List ℕ) → AreTriedMaps s next holder maps
    → IfSome (map_in maps holder) (λ v. IsSome v.tried)
is_tried s next maps holder t = subst (λ (x : Option MapView). IfSome x (λ v. IsSome v.tried)) (sym t.here) refl

-- the half-edges of a map of which no change is tried are those of what its holder has
pub grounds : (s : State) (maps : Maps) (holder : List ℕ) (v : MapView) (g : Standing) → AreMapsOf s maps → AreAtRest maps
    → Some v ≡ map_in maps holder
    → IsGroundOf g (unwrap_or v.tried v.now) → g.tried ≡ is_some v.tried → IsGroundOf g (map_now holder s) × (g.tried ≡ false)
grounds s maps holder v g are rest was borders tried =
    let idle : v.tried ≡ None = subst (λ (x : Option MapView). IfSome x (λ u. u.tried ≡ None)) (sym was) (rest holder) in (
      subst (IsGroundOf g) (ap (λ (t : Option HolderParts). unwrap_or t v.now) idle ∙ (ap now_of was ∙ are.now holder)) borders,
      tried ∙ ap (λ (t : Option HolderParts). is_some t) idle,
    )

-- a fault that is told as a refusal is one of the rules
pub told : (m : HolderParts) (f : MapFault) (r : Refusal) → refusal_by f ≡ Some r → IfSome (fault_of f) (λ x. MapRule m (Some x))
    → (MapRule m (Some f) → IfSome (refusal_by f) (λ x. MapRules m (Some x)))
    → MapRules m (Some r)
told m f r e h rules = subst (λ (o : Option Refusal). IfSome o (λ x. MapRules m (Some x))) e (rules (by f e h))
  where
    by : (g : MapFault) → refusal_by g ≡ Some r → IfSome (fault_of g) (λ x. MapRule m (Some x)) → MapRule m (Some g)
    by (fault.LevelOverlap a b) q k = k
    by (fault.Node v n) q k = k
    by (fault.Tiled n) q k = k
    by fault.NoMemory q k = cc
