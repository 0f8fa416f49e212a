-- Where an edge of one shape crosses an edge of another, the corner left of both edges lies in both shapes.
use Rattle.std.proofs.Common.{◌≡◌, ℕ, ◌+◌, ◌*◌, sym, ap, ◌∙◌, arith, inl, inr, List, get_or}
use Rattle.std.specs.Prelude.{ℤ, pos, ◌-ℤ◌, ◌*ℤ◌, ◌<ℤ◌, true, false, ◌≢◌, unsigned_abs}
use Rattle.std.specs.List.{AllByRecursion, Contains}
use Rattle.std.proofs.lemmas.Bool.{both_ways}
use Rattle.std.proofs.lemmas.Int.{by_lt_z}
use Rattle.std.proofs.lemmas.List.{get_or_default}
use Rattle.std.proofs.lemmas.List.Elements.{recursion_from_All, Contains-get_or}
use Rattle.rd_plane.specs.Plane.{Segment, Point, point_of, side, on, off, wind, is_end}
use Rattle.rd_plane.proofs.Polynomials.{linear, expanded}
use Rattle.rd_plane.proofs.Touching.{On, on_from_On}
use Rattle.rd_plane.proofs.Through.{side-point_of}
use Rattle.rd_plane.proofs.Nearby.{Soon, both_soon}
use Rattle.rd_plane.proofs.OffNear.{moved_by, moved_near, side-moved}
use Rattle.rd_plane.proofs.Winding.{lies_in-one}
use Rattle.rd_plane.proofs.Meetings.{crossing_common}
use Rattle.rd_plane.proofs.Crossings.{parted_no_end}
use Rattle.rd_plane.proofs.Faces.{IsFace, Parted, Good, own_good, parted, off_soon}
use Rattle.rd_plane.proofs.OwnEdges.{OwnMeets}
use Rattle.slab_wind.specs.Wounds.{MeetInEnds}
use Rattle.slab_wind.specs.Sharing.{AreOfShape, Crosses, Share}

-- two edges that have only ends in common, and a point that is no end of the first
own_meets : (es : List Segment) → MeetInEnds es → OwnMeets es
own_meets es m e g p ce cg oe og n = by_lt_z (pos ce.0) (pos cg.0)
    (λ l. absurd (both_ways (is_end p e) n (end_of (m ce.0 cg.0 e (omega (arith, linear, l)) cg.1 p on_e on_g).0)))
    (λ l. by_lt_z (pos cg.0) (pos ce.0)
    (λ k. absurd (both_ways (is_end p e) n (end_of (m cg.0 ce.0 e (omega (arith, linear, k)) ce.1 p on_g on_e).1)))
    (λ k. let q : cg.0 ≡ ce.0 = omega (arith, linear, l, k) in sym is_g ∙ ap (λ i. get_or es i e) q ∙ ce.2))
  where
    is_g : get_or es cg.0 e ≡ g
    is_g = get_or_default es cg.0 e g cg.1 ∙ cg.2

    on_e : on p (get_or es ce.0 e) ≡ true
    on_e = ap (on p) ce.2 ∙ oe

    on_g : on p (get_or es cg.0 e) ≡ true
    on_g = ap (on p) is_g ∙ og

    end_of : is_end p (get_or es ce.0 e) ≡ true → is_end p e ≡ true
    end_of t = ap (is_end p) (sym ce.2) ∙ t

face : (es : List Segment) → AreOfShape es → IsFace (pos 0) es
face es s = record {
  balance = s.balanced;
  winds = λ p o. elim (s.wound p o) [ inl z ↦ inl (omega (arith, linear, z)) | inr z ↦ inr (omega (arith, linear, z)) ];
  meets = own_meets es s.joined;
}

-- what the points near p that are left of e are to the shape
record Inside (es : List Segment) (e : Segment) (r : Point) : Type 0 where
  inside : pos 0 <ℤ side r e → (wind r es ≡ pos 1) × (off r es ≡ true)

left_soon : (es : List Segment) → AreOfShape es → (e : Segment) → Contains es e → e.a ≢ e.b → (p : Point) → on p e ≡ true
    → is_end p e ≡ false → Soon p (Inside es e)
left_soon es s e ce d p o n = record {
  m = t.m;
  some = t.some;
  holds = λ r near. let k = t.holds r near
      in record { inside = λ l. (omega (arith, linear, k.0.left l), k.1 (λ z. omega (arith, linear, z, l))) };
}
  where
    goods : AllByRecursion (Good p e) es
    goods
        = recursion_from_All (Good p e) es (λ i g h. own_good (pos 0) es (face es s) e ce p o n (get_or es i g) (Contains-get_or es i g h))

    t : Soon p (λ r. Parted (pos 0) e es r × ((side r e ≡ pos 0 → ⊥) → off r es ≡ true))
    t = both_soon p (parted (pos 0) es (face es s) e ce d p o n) (off_soon p e es goods)

-- ---- the way into the corner
det_step : (eax eay ebx eby fax fay fbx fby : ℤ) →
    ((ebx -ℤ eax) *ℤ (fby -ℤ eay) -ℤ (eby -ℤ eay) *ℤ (fbx -ℤ eax))
    -ℤ ((ebx -ℤ eax) *ℤ (fay -ℤ eay) -ℤ (eby -ℤ eay) *ℤ (fax -ℤ eax)) ≡ (ebx -ℤ eax) *ℤ (fby -ℤ fay) -ℤ (eby -ℤ eay) *ℤ (fbx -ℤ fax)
det_step eax eay ebx eby fax fay fbx fby = simp expanded (omega (arith, linear))

det : (e f : Segment)
    → side (point_of f.b) e -ℤ side (point_of f.a) e ≡ (e.b.x -ℤ e.a.x) *ℤ (f.b.y -ℤ f.a.y) -ℤ (e.b.y -ℤ e.a.y) *ℤ (f.b.x -ℤ f.a.x)
det e f = rw (side-point_of f.b e, side-point_of f.a e) (det_step e.a.x e.a.y e.b.x e.b.y f.a.x f.a.y f.b.x f.b.y)

left_of_first : (ex ey fx fy : ℤ) → ex *ℤ (fy -ℤ ey) -ℤ ey *ℤ (fx -ℤ ex) ≡ ex *ℤ fy -ℤ ey *ℤ fx
left_of_first ex ey fx fy = simp expanded (omega (arith, linear))

left_of_second : (ex ey fx fy : ℤ) → fx *ℤ (fy -ℤ ey) -ℤ fy *ℤ (fx -ℤ ex) ≡ ex *ℤ fy -ℤ ey *ℤ fx
left_of_second ex ey fx fy = simp expanded (omega (arith, linear))

-- where f runs from the right of e to its left, the way along f and back along e leads to the left of both
corner : (es fs : List Segment) → AreOfShape es → AreOfShape fs → (e f : Segment) → Contains es e → Contains fs f → e.a ≢ e.b → f.a ≢ f.b
    → (p : Point) → On p e → On p f → is_end p e ≡ false → is_end p f ≡ false →
    side (point_of f.a) e <ℤ side (point_of f.b) e → Share es fs
corner es fs s t e f ce cf de df p oe of ne nf h = (
  r,
  record {
    off_first = first.1;
    off_second = second.1;
    in_first = lies_in-one r es first.0;
    in_second = lies_in-one r fs second.0;
  },
)
  where
    near : Soon p (λ r. Inside es e r × Inside fs f r)
    near = both_soon p (left_soon es s e ce de p (on_from_On p e oe) ne) (left_soon fs t f cf df p (on_from_On p f of) nf)

    dx : ℤ
    dx = (f.b.x -ℤ f.a.x) -ℤ (e.b.x -ℤ e.a.x)

    dy : ℤ
    dy = (f.b.y -ℤ f.a.y) -ℤ (e.b.y -ℤ e.a.y)

    k : ℕ
    k = unsigned_abs dx + unsigned_abs dy

    r : Point
    r = moved_by p dx dy (near.m * k)

    at : Inside es e r × Inside fs f r
    at = near.holds r (moved_near p near.m k dx dy (omega arith) (omega arith))

    first : (wind r es ≡ pos 1) × (off r es ≡ true)
    first = at.0.inside (omega (
      arith,
      linear,
      side-moved p e dx dy (near.m * k) oe.straight,
      left_of_first (e.b.x -ℤ e.a.x) (e.b.y -ℤ e.a.y) (f.b.x -ℤ f.a.x) (f.b.y -ℤ f.a.y),
      det e f,
      h,
    ))

    second : (wind r fs ≡ pos 1) × (off r fs ≡ true)
    second = at.1.inside (omega (
      arith,
      linear,
      side-moved p f dx dy (near.m * k) of.straight,
      left_of_second (e.b.x -ℤ e.a.x) (e.b.y -ℤ e.a.y) (f.b.x -ℤ f.a.x) (f.b.y -ℤ f.a.y),
      det e f,
      h,
    ))

exchanged : (es fs : List Segment) → Share es fs → Share fs es
exchanged es fs k
    = (k.0, record { off_first = k.1.off_second; off_second = k.1.off_first; in_first = k.1.in_second; in_second = k.1.in_first })

pub crossing_shares : (es fs : List Segment) → AreOfShape es → AreOfShape fs → (e f : Segment) → Contains es e → Contains fs f → Crosses e f
    → Share es fs
crossing_shares es fs s t e f ce cf c = elim c.first [
  | inl k ↦ corner es fs s t e f ce cf c.begun c.ended p.0 p.1 p.2 ne nf (omega (arith, linear, k.0, k.1))
  | inr k ↦ elim c.second [
    | inl l ↦ exchanged fs es (corner fs es t s f e cf ce c.ended c.begun p.0 p.2 p.1 nf ne (omega (arith, linear, l.0, l.1)))
    | inr l ↦ absurd (omega (
      arith,
      linear,
      k.0,
      k.1,
      l.0,
      l.1,
      det e f,
      det f e,
      det_back (e.b.x -ℤ e.a.x) (e.b.y -ℤ e.a.y) (f.b.x -ℤ f.a.x) (f.b.y -ℤ f.a.y),
    ))
  ]
]
  where
    det_back : (ex ey fx fy : ℤ) → fx *ℤ ey -ℤ fy *ℤ ex ≡ (pos 0) -ℤ (ex *ℤ fy -ℤ ey *ℤ fx)
    det_back ex ey fx fy = simp expanded (omega (arith, linear))

    p : (p : Point) × On p e × On p f
    p = crossing_common e f c.begun c.ended c.first c.second

    nf : is_end p.0 f ≡ false
    nf = parted_no_end e f p.0 c.first p.1.straight

    ne : is_end p.0 e ≡ false
    ne = parted_no_end f e p.0 c.second p.2.straight
