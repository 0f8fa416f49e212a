-- A book where an area is set: what its list is, that it stays sound, and that it is as before once that is taken back.
use Rattle.std.proofs.Common.{◌≡◌, ℕ, refl, sym, ap, ◌∙◌, arith, ◌<◌, inl, inr, List, [], ◌∷◌, ◌++◌, ◌-◌, length, get_or, map, set, subst}
use Rattle.std.specs.Prelude.{ℤ, ◌<ℤ◌, ◌≤ℤ◌, ◌≢◌, true, false, Option, Some, None, IfSome, find, slice_get, option_map}
use Rattle.std.proofs.lemmas.Bool.{cases_Bool}
use Rattle.std.proofs.lemmas.List.{get_or_default, length_push, set-get_or, set-set}
use Rattle.rd_plane.specs.Plane.{Vertex}
use Rattle.area_book.specs.declared.current.Current.{Current}
use Rattle.area_book.specs.declared.undo.Replaced.{Replaced}
use Rattle.area_book.specs.declared.version.AreaVersion.{AreaVersion}
use Rattle.area_book.specs.Areas.{BookView, area_ended, areas_with, is_area_of, new_area, newest_area}
use Rattle.area_book.specs.Rule.{KeepsAreas}
use Rattle.area_book.specs.Standing.{AreCurrent, Fits, IsReplaced, IsSetBy, IsSoundStanding, Standing, but_last, ending_at, last_since, place_in, stood, stood_before}
use Rattle.area_book.specs.Throughout.{IsSoundBook}
use Rattle.area_book.proofs.Currents.{at_holder, current_as, holder_of, no_holder, one_of, stands}
use Rattle.area_book.proofs.Ending.{ended_as, ended_back, last_off, none_ended}
use Rattle.area_book.proofs.Holders.{is_current, is_so}
use Rattle.area_book.proofs.Renewed.{IsRenewed, first_set, next_set, renewed_current}
use Rattle.area_book.proofs.Setting.{newest_after, sound_after}

abbrev Shapes : Type 0
Shapes = List (List (List Vertex))

-- ---- which version ends
no_area : (h : List ℕ) (old : Standing) → AreCurrent old.current old.areas → place_in h old.current ≡ None → (q : ℕ) (d : AreaVersion)
    → q < length old.areas → is_area_of h (get_or old.areas q d) ≡ false
no_area h old s p q d l = elim (cases_Bool (is_area_of h (get_or old.areas q d))) [
  | inl t ↦ let k = is_current h (get_or old.areas q d) t in
      let w = stands old.current old.areas (get_or old.areas q d) s (q, l, get_or_default old.areas q (get_or old.areas q d) d l) k.1
      in absurd
      (no_holder h old.current p w.0 w.1 (sym w.3.holder ∙ k.0))
  | inr t ↦ t
]

other_area : (h : List ℕ) (old : Standing) (k : ℕ) (c : Current) → AreCurrent old.current old.areas → place_in h old.current ≡ Some k
    → c ≡ get_or old.current k c → (q : ℕ) (d : AreaVersion) → q < length old.areas → q ≢ c.place
    → is_area_of h (get_or old.areas q d) ≡ false
other_area h old k c s p e q d l n = elim (cases_Bool (is_area_of h (get_or old.areas q d))) [
  | inl t ↦
      let i = is_current h (get_or old.areas q d) t in
      let a = at_holder h old.current k p in
      let w = stands old.current old.areas (get_or old.areas q d) s (q, l, get_or_default old.areas q (get_or old.areas q d) d l) i.1 in
      let same : w.1.0 ≡ k = one_of old.current k w.0 s.apart a.0 w.1 (a.1 w.0 ∙ sym i.0 ∙ w.3.holder) in
      let one : w.0 ≡ c = sym w.1.2 ∙ ap (λ j. get_or old.current j w.0) same ∙ get_or_default old.current k w.0 c a.0 ∙ sym e in
      absurd (n (sym w.2 ∙ ap (λ (y : Current). y.place) one))
  | inr t ↦ t
]

own_area : (h : List ℕ) (old : Standing) (k : ℕ) (c : Current) → AreCurrent old.current old.areas → place_in h old.current ≡ Some k
    → c ≡ get_or old.current k c → (c.place < length old.areas) × ((d : AreaVersion) → is_area_of h (get_or old.areas c.place d) ≡ true) ×
    ((d : AreaVersion) → (get_or old.areas c.place d).until ≡ None)
own_area h old k c s p e =
    let a = at_holder h old.current k p in
    let i = current_as old.current old.areas c s (k, a.0, sym e) in (
      i.inside,
      (λ d. is_so h (get_or old.areas c.place d) ((i.is d).holder ∙ ap holder_of e ∙ a.1 c) (i.is d).open_end),
      λ d. (i.is d).open_end,
    )

-- ---- the list, before the new version is added
pub middle_is : (h : List ℕ) (m : ℤ) (one : Current) (old middle : Standing) (r : Option Replaced) → AreCurrent old.current old.areas
    → one.holder ≡ h
    → IsReplaced one m old r middle → (middle.areas ≡ map (area_ended h m) old.areas) × IsRenewed h one old.current middle.current
middle_is h m one old middle None s e i = let p : place_in h old.current ≡ None = ap (λ g. place_in g old.current) (sym e) ∙ i.0 in (
  ap (λ (t : Standing). t.areas) i.1 ∙ sym (none_ended h m old.areas (no_area h old s p)),
  subst (IsRenewed h one old.current) (sym (ap (λ (t : Standing). t.current) i.1)) (first_set h one old.current e p s.apart),
)
middle_is h m one old middle (Some r) s e i =
    let p : place_in h old.current ≡ Some r.at = ap (λ g. place_in g old.current) (sym e) ∙ i.0 in
    let o = own_area h old r.at r.before s p i.1 in (
      ap (λ (t : Standing). t.areas) i.2 ∙ ended_as h m r.before.place old.areas o.0 o.1 (other_area h old r.at r.before s p i.1),
      subst (IsRenewed h one old.current) (sym (ap (λ (t : Standing). t.current) i.2)) (next_set h one old.current r.at e p s.apart),
    )

-- ---- the list
pub set_areas : (h : List ℕ) (m : ℤ) (shapes : Shapes) (old new : Standing) (before after : List (Option Replaced))
    → AreCurrent old.current old.areas
    → IsSetBy h m shapes old new before after → new.areas ≡ areas_with h m shapes old.areas
set_areas h m shapes old new before after s i = ap (λ (t : Standing). t.areas) i.added
    ∙ ap (λ (l : List AreaVersion). l ++ new_area h m shapes ∷ []) (middle_is h m i.one old i.middle i.replaced s i.own i.is).0

last_of_push : (xs : List AreaVersion) (x : AreaVersion) → last_since (xs ++ x ∷ []) ≡ Some x.since
last_of_push xs x = let e : length (xs ++ x ∷ []) - 1 ≡ length xs = omega (arith, length_push xs x)
    in ap (λ k. option_map (λ (a : AreaVersion). a.since)
    (slice_get (xs ++ x ∷ []) k)) e ∙ ap (λ (o : Option AreaVersion). option_map (λ (a : AreaVersion). a.since) o) (got xs)
  where
    got : (ys : List AreaVersion) → slice_get (ys ++ x ∷ []) (length ys) ≡ Some x
    got [] = refl
    got (y ∷ ys) = got ys

-- ---- it stays sound
pub set_sound : (h : List ℕ) (m : ℤ) (shapes : Shapes) (old new : Standing) (before after : List (Option Replaced)) → IsSoundStanding old
    → KeepsAreas old.areas h shapes → IfSome (find (is_area_of h) old.areas) (λ a. a.since <ℤ m)
    → IfSome (newest_area old.areas) (λ t. t ≤ℤ m)
    → IsSetBy h m shapes old new before after → IsSoundStanding new
set_sound h m shapes old new before after s r l n i = record {
  sound = subst (λ (l : List AreaVersion). IsSoundBook l) (sym areas) (sound_after old.areas h m shapes s.sound r l n);
  current = subst (AreCurrent new.current) (sym areas) (subst (λ (cs : List Current). AreCurrent cs (areas_with h m shapes old.areas))
      (sym (ap (λ (t : Standing). t.current) i.added))
      (renewed_current h m shapes i.one old.current i.middle.current old.areas s.current i.own i.at_end i.boxed
      (middle_is h m i.one old i.middle i.replaced s.current i.own i.is).1));
  newest = ap newest_area areas ∙ newest_after h m shapes old.areas
      n ∙ sym (last_of_push (map (area_ended h m) old.areas) (new_area h m shapes))
      ∙ ap last_since (sym areas);
}
  where
    areas : new.areas ≡ areas_with h m shapes old.areas
    areas = set_areas h m shapes old new before after s.current i

-- ---- it is taken back
unset : (h : List ℕ) (m : ℤ) (one : Current) (old middle : Standing) (r : Option Replaced) (a : AreaVersion)
    → AreCurrent old.current old.areas
    → one.holder ≡ h → IsReplaced one m old r middle
    → stood_before r (record { areas = middle.areas ++ a ∷ []; current = middle.current }) ≡ old
unset h m one old middle None a s e i =
    ap (λ (l : List AreaVersion). record { areas = l; current = but_last middle.current })
    (last_off middle.areas a ∙ ap (λ (t : Standing). t.areas) i.1)
    ∙ ap (λ (l : List Current). record { areas = old.areas; current = l })
    (ap but_last (ap (λ (t : Standing). t.current) i.1) ∙ last_off old.current one)
unset h m one old middle (Some r) a s e i =
    let p : place_in h old.current ≡ Some r.at = ap (λ g. place_in g old.current) (sym e) ∙ i.0 in
    let o = own_area h old r.at r.before s p i.1 in
    ap (λ (l : List AreaVersion). record { areas = l; current = set middle.current r.at r.before })
    (ap (λ l. ending_at r.before.place None l)
    (last_off middle.areas a ∙ ap (λ (t : Standing). t.areas) i.2) ∙ ended_back r.before.place (Some m) old.areas o.2)
    ∙ ap (λ (l : List Current). record { areas = old.areas; current = l })
    (ap (λ l. set l r.at r.before) (ap (λ (t : Standing). t.current) i.2) ∙ set-set old.current r.at one r.before ∙ ap (λ c. set old.current r.at c) i.1
    ∙ set-get_or old.current r.at r.before)

pub stood_more : (rs : List (Option Replaced)) (r : Option Replaced) (s : Standing) → stood (rs ++ r ∷ []) s ≡ stood rs (stood_before r s)
stood_more [] r s = refl
stood_more (q ∷ rs) r s = ap (stood_before q) (stood_more rs r s)

pub set_stood : (h : List ℕ) (m : ℤ) (shapes : Shapes) (old new : Standing) (before after : List (Option Replaced))
    → AreCurrent old.current old.areas
    → IsSetBy h m shapes old new before after → stood after new ≡ stood before old
set_stood h m shapes old new before after s i = ap (λ rs. stood rs new) i.noted ∙ stood_more before i.replaced new
    ∙ ap (stood before) (ap (stood_before i.replaced) i.added ∙ unset h m i.one old i.middle i.replaced (new_area h m shapes) s i.own i.is)

-- ---- the fields of a book, after a change of it
pub as_set : (h : List ℕ) (m : ℤ) (own shapes : Shapes) (areas areas' : List AreaVersion) (current current' : List Current) (new : Standing)
    (undo undo' after : List (Option Replaced)) → areas' ≡ areas → current' ≡ current → undo' ≡ undo → own ≡ shapes
    → IsSetBy h m own (record { areas = areas'; current = current' }) new undo' after → IsSetBy h m shapes
    (record { areas = areas; current = current }) new undo after
as_set h m own shapes areas areas' current current' new undo undo' after ea ec eu eo i = subst (λ s. IsSetBy h m s
    (record { areas = areas; current = current }) new undo after) eo
    (subst (λ u. IsSetBy h m own (record { areas = areas; current = current }) new u after) eu
    (subst (λ c. IsSetBy h m own (record { areas = areas; current = c }) new undo' after) ec
    (subst (λ a. IsSetBy h m own (record { areas = a; current = current' }) new undo' after) ea i)))

pub set_fits : (h : List ℕ) (m : ℤ) (shapes : Shapes) (areas areas' : List AreaVersion) (current current' : List Current) (undo undo' : List
    (Option Replaced)) → Fits areas current undo → KeepsAreas areas h shapes
    → IfSome (find (is_area_of h) areas) (λ a. a.since <ℤ m) → IfSome (newest_area areas) (λ t. t ≤ℤ m)
    → IsSetBy h m shapes (record { areas = areas; current = current }) (record { areas = areas'; current = current' }) undo undo'
    → Fits areas' current' undo'
set_fits h m shapes areas areas' current current' undo undo' f r l n i = record {
  now = set_sound h m shapes (record { areas = areas; current = current }) (record { areas = areas'; current = current' }) undo undo' f.now
      r l n i;
  kept = subst IsSoundStanding (sym (set_stood h m shapes (record { areas = areas; current = current })
      (record { areas = areas'; current = current' }) undo undo' f.now.current i)) f.kept;
}

pub back_fits : (areas areas' : List AreaVersion) (current current' : List Current) (undo undo' : List (Option Replaced))
    → Fits areas current undo
    → ◌≡◌ {A = Standing} (record { areas = areas'; current = current' }) (stood undo (record { areas = areas; current = current }))
    → undo' ≡ []
    → Fits areas' current' undo'
back_fits areas areas' current current' undo undo' f e n = let now = subst IsSoundStanding (sym e) f.kept in record {
  now = now;
  kept = subst (λ rs. IsSoundStanding (stood rs (record { areas = areas'; current = current' }))) (sym n) now;
}

pub back_view : (areas areas' : List AreaVersion) (current current' : List Current) (undo undo' : List (Option Replaced)) (now : BookView)
    → ◌≡◌ {A = BookView} (record { areas = areas; kept = (stood undo (record { areas = areas; current = current })).areas }) now
    → ◌≡◌ {A = Standing} (record { areas = areas'; current = current' }) (stood undo (record { areas = areas; current = current }))
    → undo' ≡ []
    → ◌≡◌ {A = BookView} (record { areas = areas'; kept = (stood undo' (record { areas = areas'; current = current' })).areas })
    (record { areas = now.kept; kept = now.kept })
back_view areas areas' current current' undo undo' now v e n = let k : areas' ≡ now.kept = ap (λ (t : Standing). t.areas)
    e ∙ ap (λ (w : BookView). w.kept) v in
    ap (λ (rs : List (Option Replaced)). record { areas = areas'; kept = (stood rs (record { areas = areas'; current = current' })).areas })
    n
    ∙ ap (λ (l : List AreaVersion). record { areas = l; kept = l }) k
