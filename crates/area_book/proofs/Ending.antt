-- An end that is given to one version, and taken away again.
use Rattle.std.proofs.Common.{◌≡◌, ℕ, refl, sym, ap, ◌∙◌, arith, ◌<◌, List, [], ◌∷◌, ◌++◌, ◌-◌, ◌≤◌, length, get_or, map, set}
use Rattle.std.specs.Prelude.{ℤ, true, false, Bool, cond, ◌≢◌, suc, zero, Option, Some, None}
use Rattle.std.proofs.lemmas.List.{take_at, length_push}
use Rattle.area_book.specs.declared.version.AreaVersion.{AreaVersion}
use Rattle.area_book.specs.Areas.{area_ended, is_area_of}
use Rattle.area_book.specs.Standing.{but_last, ending_at}

-- ---- as the code writes it
pub ended_here : (place : ℕ) (until : Option ℤ) (areas : List AreaVersion) (d : AreaVersion) → place < length areas
    → set areas place (record (get_or areas place d) { until = until }) ≡ ending_at place until areas
ended_here place until [] d l = absurd (omega (arith, l))
ended_here zero until (b ∷ areas) d l = refl
ended_here (suc place) until (b ∷ areas) d l = ap (λ (l : List AreaVersion). b ∷ l) (ended_here place until areas d (omega (arith, l)))

pub ended_nowhere : (place : ℕ) (until : Option ℤ) (areas : List AreaVersion) → length areas ≤ place → areas ≡ ending_at place until areas
ended_nowhere place until [] l = refl
ended_nowhere zero until (b ∷ areas) l = absurd (omega (arith, l))
ended_nowhere (suc place) until (b ∷ areas) l = ap (λ (l : List AreaVersion). b ∷ l) (ended_nowhere place until areas (omega (arith, l)))

-- ---- as the current area of a holder
-- nobody's current area ends
pub none_ended : (h : List ℕ) (m : ℤ) (areas : List AreaVersion) → ((q : ℕ) (d : AreaVersion) → q < length areas
    → is_area_of h (get_or areas q d) ≡ false) → map (area_ended h m) areas ≡ areas
none_ended h m [] n = refl
none_ended h m (a ∷ areas) n = ap (λ (b : Bool). cond b (record a { until = Some m }) a ∷ map (area_ended h m) areas) (n 0 a (omega arith))
    ∙ ap (λ (l : List AreaVersion). a ∷ l) (none_ended h m areas (λ q d l. n (suc q) d (omega (arith, l))))

pub ended_as : (h : List ℕ) (m : ℤ) (place : ℕ) (areas : List AreaVersion) → place < length areas → ((d : AreaVersion)
    → is_area_of h (get_or areas place d) ≡ true)
    → ((q : ℕ) (d : AreaVersion) → q < length areas → q ≢ place → is_area_of h (get_or areas q d) ≡ false)
    → ending_at place (Some m) areas ≡ map (area_ended h m) areas
ended_as h m place [] l t n = absurd (omega (arith, l))
ended_as h m zero (a ∷ areas) l t n = ap (λ (b : Bool). cond b (record a { until = Some m }) a ∷ areas) (sym (t a))
    ∙ ap (λ (l : List AreaVersion). area_ended h m a ∷ l)
    (sym (none_ended h m areas (λ q d k. n (suc q) d (omega (arith, k)) (λ e. omega (arith, e)))))
ended_as h m (suc place) (a ∷ areas) l t n = ap (λ (b : Bool). cond b (record a { until = Some m }) a ∷ ending_at place (Some m) areas)
    (sym (n 0 a (omega arith) (λ e. omega (arith, e))))
    ∙ ap (λ (l : List AreaVersion). area_ended h m a ∷ l) (ended_as h m place areas (omega (arith, l)) t
    (λ q d k e. n (suc q) d (omega (arith, k)) (λ g. e (omega (arith, g)))))

-- ---- taken away again
pub ended_back : (place : ℕ) (until : Option ℤ) (areas : List AreaVersion) → ((d : AreaVersion) → (get_or areas place d).until ≡ None)
    → ending_at place None (ending_at place until areas) ≡ areas
ended_back place until [] n = refl
ended_back zero until (a ∷ areas) n = ap (λ (u : Option ℤ). record a { until = u } ∷ areas) (sym (n a))
ended_back (suc place) until (a ∷ areas) n = ap (λ (l : List AreaVersion). a ∷ l) (ended_back place until areas n)

pub last_off : {X : Type 0} (xs : List X) (x : X) → but_last (xs ++ x ∷ []) ≡ xs
last_off xs x = take_at xs (x ∷ []) (length (xs ++ x ∷ []) - 1) (omega (arith, length_push xs x))
