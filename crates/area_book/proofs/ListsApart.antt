-- Two lists of sound shapes are apart exactly where no shape of the one shares a point with one of the other.
use Rattle.std.proofs.Common.{◌≡◌, refl, sym, ap, ◌∙◌, arith, inl, inr, List, [], ◌∷◌, ◌++◌, subst}
use Rattle.std.specs.Prelude.{true, false, ◌&&◌, ◌≢◌}
use Rattle.std.specs.List.{All, Contains}
use Rattle.std.proofs.lemmas.Bool.{cases_Bool, and_parts, and_from, both_ways}
use Rattle.std.proofs.lemmas.List.Elements.{recursion_from_All, All-contains}
use Rattle.rd_plane.specs.Covering.{AreApart, covers, covers_any}
use Rattle.rd_plane.specs.Plane.{Vertex, Point, off, wind}
use Rattle.rd_plane.specs.Shapes.{IsSoundShape, shape_edges, all_edges}
use Rattle.rd_plane.proofs.Members.{contains_head, contains_tail, contains_cases, all_join}
use Rattle.rd_plane.proofs.Nearby.{Soon, both_soon}
use Rattle.rd_plane.proofs.Heights.{High}
use Rattle.rd_plane.proofs.RingEdges.{all_differ}
use Rattle.rd_plane.proofs.Winding.{off-append, lies_in-one}
use Rattle.slab_wind.proofs.Shared.{in_by_wind}
use Rattle.slab_wind.proofs.Strands.{wind_above}
use Rattle.area_book.specs.Others.{PairsShare}
use Rattle.rd_plane.proofs.NearOff.{near_off, IsNearOff}

any_true : (p : Point) (shapes : List (List (List Vertex))) → covers_any p shapes ≡ true
    → (s : List (List Vertex)) × Contains shapes s × (covers p s ≡ true)
any_true p [] h = absurd (both_ways false refl h)
any_true p (s ∷ shapes) h = elim (cases_Bool (covers p s)) [
  | inl t ↦ (s, contains_head s shapes, t)
  | inr t ↦ let k = any_true p shapes (rw t at h) in (k.0, contains_tail s k.0 shapes k.1, k.2)
]

true_any : (p : Point) (shapes : List (List (List Vertex))) (s : List (List Vertex)) → Contains shapes s → covers p s ≡ true
    → covers_any p shapes ≡ true
true_any p [] s c h = absurd (omega (arith, c.1))
true_any p (t ∷ shapes) s c h = elim (cases_Bool (covers p t)) [
  | inl k ↦ rw k refl
  | inr k ↦ elim (contains_cases t s shapes c) [
    | inl q ↦ absurd (both_ways (covers p t) k (ap (covers p) q ∙ h))
    | inr d ↦ rw k (true_any p shapes s d h)
  ]
]

off_member : (p : Point) (shapes : List (List (List Vertex))) (s : List (List Vertex)) → off p (all_edges shapes) ≡ true → Contains shapes s
    → off p (shape_edges s) ≡ true
off_member p [] s o c = absurd (omega (arith, c.1))
off_member p (t ∷ shapes) s o c = let k = and_parts (off p (shape_edges t)) (off p (all_edges shapes))
    (sym (off-append p (shape_edges t) (all_edges shapes)) ∙ o) in elim (contains_cases t s shapes c) [
      | inl q ↦ subst (λ u. off p (shape_edges u) ≡ true) q k.0
      | inr d ↦ off_member p shapes s k.1 d
    ]

pub lists_apart : (one other : List (List (List Vertex))) → (PairsShare one other → ⊥) → AreApart one other
lists_apart one other n p oo ot = elim (cases_Bool (covers_any p one)) [
  | inr a ↦ rw a refl
  | inl a ↦ elim (cases_Bool (covers_any p other)) [
    | inr b ↦ rw (a, b) refl
    | inl b ↦ let s = any_true p one a in let t = any_true p other b in
        absurd (n (
          s.0,
          s.1,
          (
            t.0,
            t.1,
            (
              p,
              record {
                off_first = off_member p one s.0 oo s.1;
                off_second = off_member p other t.0 ot t.1;
                in_first = s.2;
                in_second = t.2;
              },
            ),
          ),
        ))
  ]
]

-- near a point of both, and off all edges
pub pairs_not_apart : (one other : List (List (List Vertex))) → All IsSoundShape one → All IsSoundShape other → PairsShare one other
    → AreApart one other → ⊥
pairs_not_apart one other so st k a
    = both_ways (covers_any r.0 one && covers_any r.0 other) (a r.0 edges.0 edges.1)
    (and_from (covers_any r.0 one) (covers_any r.0 other) (true_any r.0 one s k.1 in_s) (true_any r.0 other t k.2.1 in_t))
  where
    s : List (List Vertex)
    s = k.0

    t : List (List Vertex)
    t = k.2.0

    p : Point
    p = k.2.2.0

    sound_s : IsSoundShape s
    sound_s = All-contains IsSoundShape one s so k.1

    sound_t : IsSoundShape t
    sound_t = All-contains IsSoundShape other t st k.2.1

    near : Soon p
        (λ r. (High p r → wind r (shape_edges s) ≡ wind p (shape_edges s)) × (High p r → wind r (shape_edges t) ≡ wind p (shape_edges t)))
    near = both_soon p (wind_above p (shape_edges s) k.2.2.1.off_first) (wind_above p (shape_edges t) k.2.2.1.off_second)

    r : (r : Point) × IsNearOff near.m p (all_edges one ++ all_edges other) r
    r = near_off near.m p (all_edges one ++ all_edges other) (all_join (λ e. e.a ≢ e.b) (all_edges one) (all_edges other)
        (all_differ one (recursion_from_All IsSoundShape one so)) (all_differ other (recursion_from_All IsSoundShape other st)))

    edges : (off r.0 (all_edges one) ≡ true) × (off r.0 (all_edges other) ≡ true)
    edges = and_parts (off r.0 (all_edges one)) (off r.0 (all_edges other))
        (sym (off-append r.0 (all_edges one) (all_edges other)) ∙ r.1.off_edges)

    same : (wind r.0 (shape_edges s) ≡ wind p (shape_edges s)) × (wind r.0 (shape_edges t) ≡ wind p (shape_edges t))
    same = let h = near.holds r.0 r.1.near in (h.0 r.1.high, h.1 r.1.high)

    in_s : covers r.0 s ≡ true
    in_s = lies_in-one r.0 (shape_edges s) (same.0 ∙ in_by_wind p (shape_edges s) sound_s.wound k.2.2.1.off_first k.2.2.1.in_first)

    in_t : covers r.0 t ≡ true
    in_t = lies_in-one r.0 (shape_edges t) (same.1 ∙ in_by_wind p (shape_edges t) sound_t.wound k.2.2.1.off_second k.2.2.1.in_second)
