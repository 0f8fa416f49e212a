-- Edges near those that a change puts in: those of parts whose boxes meet are enough.
use Rattle.std.proofs.Common.{◌≡◌, ℕ, zero, suc, Bool, true, cond, not, List, [], ◌∷◌, ◌++◌, map, refl, sym, ap, ◌∙◌, arith, inl, inr, subst}
use Rattle.std.specs.Prelude.{◌⊎◌, filter, Option, Some, None, unwrap_or}
use Rattle.std.specs.FinMap as fin
use Rattle.std.specs.List.{AllByRecursion, Contains}
use Rattle.std.specs.Ordering.{nat_cmp}
use Rattle.std.proofs.lemmas.Bool.{cases_Bool}
use Rattle.std.proofs.lemmas.List.Elements.{Contains-append_cases, filter-append, recursion_from_All}
use Rattle.rd_plane.specs.Bounds.{Box, HaveCommonPoint, IsLeastBox, LiesInBox}
use Rattle.rd_plane.specs.Covering.{border}
use Rattle.rd_plane.specs.EdgeBoxes.{HoldsEdge}
use Rattle.rd_plane.specs.Plane.{Vertex, Segment, Point, on, point_of, reversed}
use Rattle.rd_plane.specs.Shapes.{all_edges, ring_edges, shape_edges}
use Rattle.rd_plane.proofs.EdgeBoxes.{boxes_meet}
use Rattle.rd_plane.proofs.Members.{all_join, all_left, all_right, contains_cases, contains_head, contains_tail}
use Rattle.part_shape.specs.Faults.{corners_of}
use Rattle.part_shape.proofs.InBoxes.{ends_of}
use Rattle.chain_cancel.specs.Nodes.{AreNear}
use Rattle.chain_cancel.proofs.LeastNode.{contains_left, contains_right}
use Rattle.chain_cancel.proofs.Own.{contains_reversed}
use Rattle.level_rules.specs.declared.item.LevelItem.{LevelItem}
use Rattle.local_check.specs.declared.change.Change.{Change}
use Rattle.local_check.specs.Kept.{AreBoxed, FindsNear}
use Rattle.local_check.specs.Maps.{HolderParts, changed, ground_of, is_ground, leaves, staying}
use Rattle.local_check.specs.MapRules.{border_in}
use Rattle.local_check.specs.Nearby.{AddsNear, area_kept, own_at, turned}
use Rattle.local_check.specs.Placed.{at_place, present}
use Rattle.local_check.proofs.Added.{joined, own}

-- ---- the edges of parts, and whose they are
whole_edges : (leaving : List (List ℕ)) (x : Option LevelItem) (xs : List (Option LevelItem))
    → own (staying leaving (present (x ∷ xs))) ≡ own (staying leaving (present (x ∷ []))) ++ own (staying leaving (present xs))
whole_edges leaving x xs =
    ap (λ (ps : List LevelItem). own (staying leaving ps)) (apart x)
    ∙ ap own (filter-append (λ p. not (leaves leaving p)) (present (x ∷ [])) (present xs))
    ∙ joined (staying leaving (present (x ∷ []))) (staying leaving (present xs))
  where
    apart : (y : Option LevelItem) → present (y ∷ xs) ≡ present (y ∷ []) ++ present xs
    apart None = refl
    apart (Some p) = refl

pub place_edge : (leaving : List (List ℕ)) (slots : List (Option LevelItem)) (k : ℕ) (e : Segment) → Contains (own_at leaving slots k) e
    → Contains (own (staying leaving (present slots))) e
place_edge leaving [] k e c = absurd (omega (arith, c.1))
place_edge leaving (x ∷ xs) zero e c = subst (λ (es : List Segment). Contains es e) (sym (whole_edges leaving x xs))
    (contains_left (own (staying leaving (present (x ∷ [])))) (own (staying leaving (present xs))) e c)
place_edge leaving (x ∷ xs) (suc k) e c = subst (λ (es : List Segment). Contains es e) (sym (whole_edges leaving x xs))
    (contains_right (own (staying leaving (present (x ∷ [])))) (own (staying leaving (present xs))) e (place_edge leaving xs k e c))

edge_place : (leaving : List (List ℕ)) (slots : List (Option LevelItem)) (e : Segment) → Contains (own (staying leaving (present slots))) e
    → (k : ℕ) × (p : LevelItem) × (at_place slots k ≡ Some p) × Contains (own_at leaving slots k) e
edge_place leaving [] e c = absurd (omega (arith, c.1))
edge_place leaving (x ∷ xs) e c =
    elim (Contains-append_cases (own (staying leaving (present (x ∷ [])))) (own (staying leaving (present xs))) e
    (subst (λ (es : List Segment). Contains es e) (whole_edges leaving x xs) c)) [
      | inl d ↦ first x d
      | inr d ↦ let r = edge_place leaving xs e d in (suc r.0, r.1, r.2, r.3)
    ]
  where
    first : (y : Option LevelItem) → Contains (own (staying leaving (present (y ∷ [])))) e
        → (k : ℕ) × (p : LevelItem) × (at_place (y ∷ xs) k ≡ Some p) × Contains (own_at leaving (y ∷ xs) k) e
    first None d = absurd (omega (arith, d.1))
    first (Some p) d = (zero, p, refl, d)

one_edge : (p : LevelItem) (e : Segment) → Contains (own (p ∷ [])) e → Contains (shape_edges p.shape) e
one_edge p e c = elim (cases_Bool (is_ground p)) [
  | inl t ↦ elim (Contains-append_cases (shape_edges p.shape) [] e
      (subst (λ (b : Bool). Contains (all_edges (map (λ (q : LevelItem). q.shape) (cond b (p ∷ []) []))) e) t c)) [
        | inl d ↦ d
        | inr d ↦ absurd (omega (arith, d.1))
      ]
  | inr t ↦
      let none = subst (λ (b : Bool). Contains (all_edges (map (λ (q : LevelItem). q.shape) (cond b (p ∷ []) []))) e) t c in absurd
      (omega (arith, none.1))
]

part_edge : (leaving : List (List ℕ)) (p : LevelItem) (e : Segment) → Contains (own (staying leaving (p ∷ []))) e
    → Contains (shape_edges p.shape) e
part_edge leaving p e c = elim (cases_Bool (leaves leaving p)) [
  | inl t ↦ let none = subst (λ (b : Bool). Contains (own (cond (not b) (p ∷ []) [])) e) t c in absurd (omega (arith, none.1))
  | inr t ↦ one_edge p e (subst (λ (b : Bool). Contains (own (cond (not b) (p ∷ []) [])) e) t c)
]

coming_edge : (ps : List LevelItem) (e : Segment) → Contains (own ps) e
    → (p : LevelItem) × Contains ps p × (is_ground p ≡ true) × Contains (shape_edges p.shape) e
coming_edge [] e c = absurd (omega (arith, c.1))
coming_edge (x ∷ xs) e c = elim (cases_Bool (is_ground x)) [
  | inl t ↦ elim (Contains-append_cases (shape_edges x.shape) (own xs) e
      (subst (λ (b : Bool). Contains
      (all_edges (map (λ (q : LevelItem). q.shape) (cond b (x ∷ filter is_ground xs) (filter is_ground xs)))) e) t c)) [
        | inl d ↦ (x, contains_head x xs, t, d)
        | inr d ↦ let r = coming_edge xs e d in (r.0, contains_tail x r.0 xs r.1, r.2, r.3)
      ]
  | inr t ↦
      let r = coming_edge xs e (subst
      (λ (b : Bool). Contains (all_edges
      (map (λ (q : LevelItem). q.shape) (cond b (x ∷ filter is_ground xs) (filter is_ground xs)))) e) t c) in
      (r.0, contains_tail x r.0 xs r.1, r.2, r.3)
]

area_edge : (shapes : List (List (List Vertex))) (e : Segment) → Contains (all_edges shapes) e
    → (rings : List (List Vertex)) × Contains shapes rings × Contains (shape_edges rings) e
area_edge [] e c = absurd (omega (arith, c.1))
area_edge (s ∷ ss) e c = elim (Contains-append_cases (shape_edges s) (all_edges ss) e c) [
  | inl d ↦ (s, contains_head s ss, d)
  | inr d ↦ let r = area_edge ss e d in (r.0, contains_tail s r.0 ss r.1, r.2)
]

-- ---- boxes that hold edges
rings_held : (box : Box) (rings : List (List Vertex)) → AllByRecursion (λ v. LiesInBox box (point_of v)) (corners_of rings)
    → AllByRecursion (HoldsEdge box) (shape_edges rings)
rings_held box [] h = tt
rings_held box (ring ∷ rings) h = all_join (HoldsEdge box) (ring_edges ring) (shape_edges rings)
    (ends_of (λ v. LiesInBox box (point_of v)) ring (all_left (λ v. LiesInBox box (point_of v)) ring (corners_of rings) h))
    (rings_held box rings (all_right (λ v. LiesInBox box (point_of v)) ring (corners_of rings) h))

held : (box : Box) (es : List Segment) (e : Segment) → AllByRecursion (HoldsEdge box) es → Contains es e → HoldsEdge box e
held box [] e h c = absurd (omega (arith, c.1))
held box (x ∷ xs) e h c = elim (contains_cases x e xs c) [ inl q ↦ subst (HoldsEdge box) q h.0 | inr d ↦ held box xs e h.1 d ]

shape_held : (box : Box) (rings : List (List Vertex)) (e : Segment) → IsLeastBox (corners_of rings) box → Contains (shape_edges rings) e
    → HoldsEdge box e
shape_held box rings e l c = held box (shape_edges rings) e
    (rings_held box rings (recursion_from_All (λ v. LiesInBox box (point_of v)) (corners_of rings) l.holds)) c

abbrev Boxes : Type 0
Boxes = fin.FinMap nat_cmp Box

-- what is found near an edge
record FindsAt (boxes : Boxes) (places : List ℕ) (f : Segment) : Type 0 where
  box : Box
  holds : HoldsEdge box f
  found : (k : ℕ) (own : Box) → fin.get boxes k ≡ Some own → HaveCommonPoint own box → Contains places k

finds_at : (boxes : Boxes) (places : List ℕ) (rings : List (List Vertex)) (f : Segment) → FindsNear boxes places rings
    → Contains (shape_edges rings) f → FindsAt boxes places f
finds_at boxes places rings f n c = record {
  box = n.box;
  holds = shape_held n.box rings f n.least c;
  found = n.found;
}

finds_turned : (boxes : Boxes) (places : List ℕ) (f : Segment) → FindsAt boxes places (reversed f) → FindsAt boxes places f
finds_turned boxes places f h = record { box = h.box; holds = (h.holds.1, h.holds.0); found = h.found }

-- ---- the edges near
module _ (boxes : Boxes) (slots : List (Option LevelItem)) (area : List (List (List Vertex))) (change : Change) (places : List ℕ)
    (mid near : List Segment)
    (boxed : AreBoxed boxes slots)
    (of_area : (rings : List (List Vertex)) → Contains (unwrap_or change.area []) rings → FindsNear boxes places rings)
    (of_parts : (p : LevelItem) → Contains change.coming p → is_ground p ≡ true → FindsNear boxes places p.shape)
    (adds : AddsNear change.leaving slots places (border (unwrap_or change.area []) (ground_of change.coming)) mid)
    (whole : near ≡ mid ++ turned (area_kept change.area area)) where
  abbrev added : List Segment
  added = border (unwrap_or change.area []) (ground_of change.coming)

  abbrev stay : List Segment
  stay = own (staying change.leaving (present slots))

  abbrev after : HolderParts
  after = changed change (record { area = area; parts = present slots })

  found_for : (f : Segment) → Contains added f → FindsAt boxes places f
  found_for f c = elim (Contains-append_cases (own change.coming) (turned (unwrap_or change.area [])) f c) [
    | inl d ↦ let r = coming_edge change.coming f d in finds_at boxes places r.0.shape f (of_parts r.0 r.1 r.2) r.3
    | inr d ↦
        let r = area_edge (unwrap_or change.area []) (reversed f) (contains_reversed (all_edges (unwrap_or change.area [])) f d) in
        finds_turned boxes places f (finds_at boxes places r.0 (reversed f) (of_area r.0 r.1) r.2)
  ]

  from_mid : (e : Segment) → Contains mid e → Contains near e
  from_mid e c = subst (λ (es : List Segment). Contains es e) (sym whole) (contains_left mid (turned (area_kept change.area area)) e c)

  stay_near : (e f : Segment) (p : Point) → Contains stay e → Contains added f → on p e ≡ true → on p f ≡ true → Contains near e
  stay_near e f p c d oe of =
      let k = edge_place change.leaving slots e c in
      let h = boxed k.0 k.1 k.2 in
      let g = found_for f d in
      let mine = part_edge change.leaving k.1 e
      (subst (λ (x : Option LevelItem). Contains (own (staying change.leaving (present (x ∷ [])))) e) k.2 k.3) in
      let holds = shape_held h.box k.1.shape e h.least mine in
      from_mid e (adds.here k.0 e (g.found k.0 h.box h.is (boxes_meet h.box g.box e f p holds g.holds oe of)) k.3)

  area_near : (new : Option (List (List (List Vertex)))) (e : Segment) → Contains (turned (unwrap_or new area)) e
      → Contains (turned (unwrap_or new [])) e ⊎ Contains (turned (area_kept new area)) e
  area_near None e c = inr c
  area_near (Some shapes) e c = inl c

  area_back : (new : Option (List (List (List Vertex)))) (e : Segment) → Contains (turned (area_kept new area)) e
      → Contains (turned (unwrap_or new area)) e
  area_back None e c = c
  area_back (Some shapes) e c = absurd (omega (arith, c.1))

  area_added : (new : Option (List (List (List Vertex)))) (e : Segment) → Contains (turned (unwrap_or new [])) e
      → Contains (turned (unwrap_or new area)) e
  area_added None e c = absurd (omega (arith, c.1))
  area_added (Some shapes) e c = c

  abbrev parts_now : List Segment
  parts_now = own (staying change.leaving (present slots) ++ change.coming)

  in_parts : (e : Segment) → Contains (stay ++ own change.coming) e → Contains (border_in after) e
  in_parts e c = contains_left parts_now (turned (unwrap_or change.area area)) e
      (subst (λ (es : List Segment). Contains es e) (sym (joined (staying change.leaving (present slots)) change.coming)) c)

  in_area : (e : Segment) → Contains (turned (unwrap_or change.area area)) e → Contains (border_in after) e
  in_area e c = contains_right parts_now (turned (unwrap_or change.area area)) e c

  pub are_near : AreNear (border_in after) near added
  are_near = record {
    among = λ e c. elim (Contains-append_cases mid (turned (area_kept change.area area)) e
        (subst (λ (es : List Segment). Contains es e) whole c)) [
          | inl d ↦ elim (adds.those e d) [
            | inl k ↦ elim (Contains-append_cases (own change.coming) (turned (unwrap_or change.area [])) e k) [
              | inl n ↦ in_parts e (contains_right stay (own change.coming) e n)
              | inr n ↦ in_area e (area_added change.area e n)
            ]
            | inr k ↦ in_parts e (contains_left stay (own change.coming) e k)
          ]
          | inr d ↦ in_area e (area_back change.area e d)
        ];
    enough = λ e f p c d oe of. elim (Contains-append_cases parts_now (turned (unwrap_or change.area area)) e c) [
      | inl k ↦ elim (Contains-append_cases stay (own change.coming) e
          (subst (λ (es : List Segment). Contains es e) (joined (staying change.leaving (present slots)) change.coming) k)) [
            | inl s ↦ stay_near e f p s d oe of
            | inr n ↦ from_mid e (adds.kept e (contains_left (own change.coming) (turned (unwrap_or change.area [])) e n))
          ]
      | inr k ↦ elim (area_near change.area e k) [
        | inl n ↦ from_mid e (adds.kept e (contains_right (own change.coming) (turned (unwrap_or change.area [])) e n))
        | inr n ↦ subst (λ (es : List Segment). Contains es e) (sym whole) (contains_right mid (turned (area_kept change.area area)) e n)
      ]
    ];
  }
