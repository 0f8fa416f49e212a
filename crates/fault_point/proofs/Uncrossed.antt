-- Where vertices are shared and the parts tile the area, no two border edges cross.
use Rattle.std.proofs.Common.{◌≡◌, ℕ, refl, sym, ap, ◌∙◌, arith, ◌≤◌, inl, inr, List, [], ◌∷◌, map, subst}
use Rattle.std.specs.Prelude.{Bool, true, false, cond, ◌⊎◌, ◌≢◌}
use Rattle.std.specs.List.{All, Contains}
use Rattle.std.proofs.lemmas.List.Elements.{All-contains, recursion_from_All, Contains-append_cases, Contains-get_or}
use Rattle.std.proofs.lemmas.List.Sums.{sum_by-cons}
use Rattle.rd_plane.specs.Covering.{border, covers, covers_any, cover_count, Cancels, IsNoded, IsSoundArea, IsTiled}
use Rattle.rd_plane.specs.Meeting.{IsMeet}
use Rattle.rd_plane.specs.declared.meet.Meet.TheVariants.{Cross}
use Rattle.rd_plane.specs.Plane.{Vertex, Segment, Point, on, off, is_end, reversed, same_segment, wind, lies_in}
use Rattle.rd_plane.specs.Shapes.{IsSoundShape, shape_edges, all_edges}
use Rattle.rd_plane.proofs.Heights.{High}
use Rattle.rd_plane.proofs.Members.{contains_cases}
use Rattle.rd_plane.proofs.Nearby.{Soon, both_soon}
use Rattle.rd_plane.proofs.OnlyCross.{cross_back}
use Rattle.rd_plane.proofs.Polynomials.{linear}
use Rattle.rd_plane.proofs.FreePoint.{side-own_a}
use Rattle.rd_plane.proofs.Touching.{on-reversed}
use Rattle.rd_plane.proofs.Winding.{lies_in-one}
use Rattle.slab_wind.specs.Sharing.{Crosses, Share}
use Rattle.slab_wind.proofs.Corner.{crossing_shares}
use Rattle.slab_wind.proofs.Shared.{in_by_wind}
use Rattle.slab_wind.proofs.Strands.{wind_above}
use Rattle.part_shape.proofs.Sharing.{of_shape}
use Rattle.chain_cancel.proofs.Balance.{same_edge-refl}
use Rattle.chain_cancel.proofs.Exact.{border_differs, member, tiled-cancel}
use Rattle.rd_plane.proofs.OwnEdges.{some_pass}
use Rattle.chain_cancel.proofs.Nodes.{in_flat}
use Rattle.chain_cancel.proofs.Own.{contains_reversed, end_reversed, own_area, own_shape}
use Rattle.fault_point.proofs.Crossed.{cross_so}
use Rattle.rd_plane.proofs.NearOff.{IsNearOff, near_off}

abbrev Shapes : Type 0
Shapes = List (List (List Vertex))

-- ---- crossing edges run either way
cross_turned : (e f : Segment) → IsMeet e f Cross → IsMeet (reversed e) f Cross
cross_turned e f k = (
  k.0,
  record { common = (on-reversed k.0 e ∙ k.1.common.0, k.1.common.1); only = λ r c. k.1.only r (sym (on-reversed r e) ∙ c.0, c.1) },
  end_reversed k.0 e ∙ k.2,
  k.3,
)

-- ---- each border edge, run one way or the other, is an edge of a part
record OfPart (parts : Shapes) (e : Segment) : Type 0 where
  edge : Segment
  either : (edge ≡ e) ⊎ (edge ≡ reversed e)
  part : List (List Vertex)
  one : Contains parts part
  own : Contains (shape_edges part) edge

of_part : (area parts : Shapes) → IsSoundArea area → All IsSoundShape parts → Cancels (border area parts) → (e : Segment)
    → Contains (border area parts) e → (p : Point) → on p e ≡ true → is_end p e ≡ false → OfPart parts e
of_part area parts sa sp cancel e c p o n = elim (Contains-append_cases (all_edges parts) (map reversed (all_edges area)) e c) [
  | inl d ↦ let t = in_flat shape_edges parts e d in record { edge = e; either = inl refl; part = t.0; one = t.1; own = t.2 }
  | inr d ↦ elim (Contains-append_cases (all_edges parts) (map reversed (all_edges area)) (reversed e) back) [
    | inl b ↦ let t = in_flat shape_edges parts (reversed e) b
        in record { edge = reversed e; either = inr refl; part = t.0; one = t.1; own = t.2 }
    | inr b ↦ absurd (differ (own_area area sa (reversed e) e p (contains_reversed (all_edges area) e d)
        (contains_reversed (all_edges area) (reversed e) b) (on-reversed p e ∙ o) o (end_reversed p e ∙ n)))
  ]
]
  where
    back : Contains (border area parts) (reversed e)
    back = member (reversed e) (border area parts) ((cancel e (some_pass (same_segment e) (border area parts) e c (same_edge-refl e))).1)

    differ : e ≡ reversed e → ⊥
    differ q = border_differs area parts (recursion_from_All IsSoundShape area sa.sound) (recursion_from_All IsSoundShape parts sp) e c
        (ap (λ (f : Segment). f.a) q)

part_cross : (parts : Shapes) (e f : Segment) → (s : OfPart parts e) → (t : OfPart parts f) → IsMeet e f Cross → IsMeet s.edge t.edge Cross
part_cross parts e f s t k = second (first k)
  where
    first : IsMeet e f Cross → IsMeet s.edge f Cross
    first k = elim s.either
        [ inl q ↦ subst (λ g. IsMeet g f Cross) (sym q) k | inr q ↦ subst (λ g. IsMeet g f Cross) (sym q) (cross_turned e f k) ]

    second : IsMeet s.edge f Cross → IsMeet s.edge t.edge Cross
    second k = elim t.either [
      | inl q ↦ subst (λ g. IsMeet s.edge g Cross) (sym q) k
      | inr q ↦ subst (λ g. IsMeet s.edge g Cross) (sym q) (cross_back (reversed f) s.edge (cross_turned f s.edge (cross_back s.edge f k)))
    ]

-- an edge does not cross itself
pub not_itself : (e : Segment) → Crosses e e → ⊥
not_itself e c = elim c.first [ inl k ↦ omega (arith, linear, k.0, side-own_a e) | inr k ↦ omega (arith, linear, k.1, side-own_a e) ]

-- ---- two parts that hold one point
abbrev one_if : Bool → ℕ
one_if b = cond b 1 0

one_cover : (r : Point) (parts : Shapes) (P : List (List Vertex)) → Contains parts P → covers r P ≡ true → 1 ≤ cover_count r parts
one_cover r parts P c h = some_pass (covers r) parts P c h

two_cover : (r : Point) (parts : Shapes) (P Q : List (List Vertex)) → Contains parts P → Contains parts Q → (P ≡ Q → ⊥) → covers r P ≡ true
    → covers r Q ≡ true → 2 ≤ cover_count r parts
two_cover r [] P Q c d n h k = absurd (omega (arith, c.1))
two_cover r (S ∷ parts) P Q c d n h k = elim (contains_cases S P parts c) [
  | inl p ↦ elim (contains_cases S Q parts d) [
    | inl q ↦ absurd (n (sym p ∙ q))
    | inr d ↦ let s : one_if (covers r S) ≡ 1 = ap one_if (ap (covers r) p ∙ h) in omega
        (arith, s, sum_by-cons (λ t. one_if (covers r t)) S parts, one_cover r parts Q d k)
  ]
  | inr c ↦ elim (contains_cases S Q parts d) [
    | inl q ↦ let s : one_if (covers r S) ≡ 1 = ap one_if (ap (covers r) q ∙ k) in omega
        (arith, s, sum_by-cons (λ t. one_if (covers r t)) S parts, one_cover r parts P c h)
    | inr d ↦ omega (arith, sum_by-cons (λ t. one_if (covers r t)) S parts, two_cover r parts P Q c d n h k)
  ]
]

at_most_one : (b : Bool) → cond b 1 0 ≤ 1
at_most_one true = omega arith
at_most_one false = omega arith

-- two parts of a tiling share no point
not_shared : (area parts : Shapes) → IsSoundArea area → All IsSoundShape parts → IsTiled area parts → (P Q : List (List Vertex))
    → Contains parts P → Contains parts Q → (P ≡ Q → ⊥) → Share (shape_edges P) (shape_edges Q) → ⊥
not_shared area parts sa sp tiled P Q c d n s = let t = tiled r.0 r.1.off_edges in
    omega (
      arith,
      t,
      at_most_one (covers_any r.0 area),
      two_cover r.0 parts P Q c d n (held P c s.1.off_first s.1.in_first (near.holds r.0 r.1.near).0)
          (held Q d s.1.off_second s.1.in_second (near.holds r.0 r.1.near).1),
    )
  where
    near : Soon s.0 (λ r. (High s.0 r → wind r (shape_edges P) ≡ wind s.0 (shape_edges P))
        × (High s.0 r → wind r (shape_edges Q) ≡ wind s.0 (shape_edges Q)))
    near = both_soon s.0 (wind_above s.0 (shape_edges P) s.1.off_first) (wind_above s.0 (shape_edges Q) s.1.off_second)

    r : (r : Point) × IsNearOff near.m s.0 (border area parts) r
    r = near_off near.m s.0 (border area parts) (recursion_from_All (λ f. f.a ≢ f.b) (border area parts) all_differ)
      where
        all_differ : All (λ f. f.a ≢ f.b) (border area parts)
        all_differ i f l = border_differs area parts (recursion_from_All IsSoundShape area sa.sound)
            (recursion_from_All IsSoundShape parts sp) _ (Contains-get_or (border area parts) i f l)

    held : (S : List (List Vertex)) → Contains parts S → off s.0 (shape_edges S) ≡ true → lies_in s.0 (shape_edges S) ≡ true
        → (High s.0 r.0 → wind r.0 (shape_edges S) ≡ wind s.0 (shape_edges S)) → covers r.0 S ≡ true
    held S c o l w
        = lies_in-one r.0 (shape_edges S) (w r.1.high ∙ in_by_wind s.0 (shape_edges S) (All-contains IsSoundShape parts S sp c).wound o l)

pub tiled_uncrossed : (area parts : Shapes) → IsSoundArea area → All IsSoundShape parts → IsNoded (border area parts) → IsTiled area parts
    → (e f : Segment) → Contains (border area parts) e → Contains (border area parts) f → IsMeet e f Cross → ⊥
tiled_uncrossed area parts sa sp noded tiled e f ce cf k = not_shared area parts sa sp tiled s.part t.part s.one t.one
    (λ q. not_itself s.edge (subst (Crosses s.edge) (own_shape s.part (sound s.part s.one) s.edge t.edge x.0 s.own
    (subst (λ P. Contains (shape_edges P) t.edge) (sym q) t.own) x.1.common.0 x.1.common.1 x.2) crossed))
    (crossing_shares (shape_edges s.part) (shape_edges t.part) (of_shape s.part (sound s.part s.one)) (of_shape t.part (sound t.part t.one))
    s.edge t.edge s.own t.own crossed)
  where
    cancel : Cancels (border area parts)
    cancel = tiled-cancel area parts sa sp noded tiled

    s : OfPart parts e
    s = of_part area parts sa sp cancel e ce k.0 k.1.common.0 k.2

    t : OfPart parts f
    t = of_part area parts sa sp cancel f cf k.0 k.1.common.1 k.3

    x : IsMeet s.edge t.edge Cross
    x = part_cross parts e f s t k

    sound : (P : List (List Vertex)) → Contains parts P → IsSoundShape P
    sound P c = All-contains IsSoundShape parts P sp c

    differ : (g h : Segment) → (g ≡ h) ⊎ (g ≡ reversed h) → h.a ≢ h.b → g.a ≢ g.b
    differ g h (inl q) n = subst (λ (u : Segment). u.a ≢ u.b) (sym q) n
    differ g h (inr q) n = subst (λ (u : Segment). u.a ≢ u.b) (sym q) (λ w. n (sym w))

    border_differ : (g : Segment) → Contains (border area parts) g → g.a ≢ g.b
    border_differ g c
        = border_differs area parts (recursion_from_All IsSoundShape area sa.sound) (recursion_from_All IsSoundShape parts sp) g c

    crossed : Crosses s.edge t.edge
    crossed = cross_so s.edge t.edge (differ s.edge e s.either (border_differ e ce)) (differ t.edge f t.either (border_differ f cf)) x
