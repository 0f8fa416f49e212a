-- Where nothing was accepted all is right; and what holds at every moment holds now.
use Rattle.std.proofs.Common.{◌≡◌, ℕ, refl, sym, arith, List, [], subst}
use Rattle.std.specs.Prelude.{ℤ, pos, ◌≤ℤ◌, Option, Some, None, IfSome}
use Rattle.std.specs.Int.Signed.{≤ℤ_refl}
use Rattle.rd_plane.specs.Covering.{IsSoundArea}
use Rattle.area_book.specs.Areas.{area_of}
use Rattle.area_book.proofs.Holders.{apart_from_none}
use Rattle.local_check.specs.MapRules.{IsRightMap}
use Rattle.map_rules.specs.State.{State, area_at, map_now, moment_of, opening, parts_at, parts_now}
use Rattle.map_rules.specs.Good.{Good}
use Rattle.map_rules.proofs.Areas.{area_is_now}
use Rattle.map_rules.proofs.Objects.{parts_are_now}
use Rattle.map_rules.proofs.Taken.{same_map}

no_area : IsSoundArea []
no_area = record {
  sound = λ k d l. absurd (omega (arith, l));
  apart = λ i j d l n. absurd (omega (arith, n));
  touching = λ i j d l n. absurd (omega (arith, n));
}

pub good_opening : Good opening
good_opening = record {
  maps = λ t h. record {
    area = no_area;
    levels = λ i j d l n. absurd (omega (arith, n));
    noded = λ e f p c d x y. absurd (omega (arith, c.1));
    cancels = λ e h. absurd (omega (arith, h));
    tiled = λ p o. refl;
  };
  apart = λ t h g d. apart_from_none [];
  shapes = λ k d l. absurd (omega (arith, l));
  in_turn = λ i j d l n. absurd (omega (arith, n));
  spans = λ k d l. absurd (omega (arith, l));
  dated = λ k d l. absurd (omega (arith, l));
  areas_dated = λ k d l. absurd (omega (arith, l));
  book = record {
    sound = λ k d l. absurd (omega (arith, l));
    in_turn = λ i j d l n. absurd (omega (arith, n));
    spans = λ k d l. absurd (omega (arith, l));
    dated = tt;
  };
}

right_from : (s : State) (h : List ℕ) (t : ℤ) → Good s → IfSome (moment_of h s.last) (λ k. k ≤ℤ t) → IsRightMap (map_now h s)
right_from s h t g late = subst IsRightMap (same_map (area_at t h s.areas) (area_of h s.areas) (parts_at t h s.versions)
    (parts_now h s.versions) (area_is_now s.last h t late s.areas g.areas_dated) (parts_are_now s.last h t late s.versions g.dated))
    (g.maps t h)

pub right_now : (s : State) (h : List ℕ) → Good s → IsRightMap (map_now h s)
right_now s h g = by (moment_of h s.last) refl
  where
    by : (o : Option ℤ) → moment_of h s.last ≡ o → IsRightMap (map_now h s)
    by None q = right_from s h (pos 0) g (subst (λ (o : Option ℤ). IfSome o (λ k. k ≤ℤ pos 0)) (sym q) tt)
    by (Some t) q = right_from s h t g (subst (λ (o : Option ℤ). IfSome o (λ k. k ≤ℤ t)) (sym q) (≤ℤ_refl t))
