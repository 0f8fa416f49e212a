use Rattle.std.proofs.Common.{◌≡◌, ℕ, arith, inl, inr, sym, subst}
use Rattle.std.specs.Prelude.{Some}
use Rattle.std.specs.BTreeMap.{get}
use Rattle.std.proofs.lemmas.Bool.{cases_lt}
use Rattle.box_index.specs.Cells.{IsCellOf}
use Rattle.box_index.specs.Filing.{filed, place_cmp}
use Rattle.box_index.specs.declared.cells.Cells.{Cells}
use Rattle.box_index.proofs.Celled.{common_cell}
use Rattle.box_index.proofs.grid.Grid.near.Goals as goal

pub loop-column-init : goal.loop-column-init
loop-column-init c = record { wide = c.in_ok-slots.ensures; here = λ x r s own w e n k g m. absurd (omega (arith, w, e)) }

pub loop-column-preserved : goal.loop-column-preserved
loop-column-preserved c = record {
  wide = λ s own g m. c.in_ok-add_column.ensures.kept s (c.loop-column.invariant.wide s own g m);
  here = λ x r s own w e n k g m. elim (cases_lt x c.loop-column.column) [
    | inl l ↦ c.in_ok-add_column.ensures.kept s (c.loop-column.invariant.here x r s own w l n k g m)
    | inr l ↦ c.in_ok-add_column.ensures.here r s own n k
        (subst (λ (y : ℕ). get place_cmp c.args.self.now.cells (filed y r s) ≡ Some own) (omega (arith, l, e)) g) m
  ];
}

pub returns : goal.returns
returns c = λ s own f m. elim f [
  | inl w ↦ c.loop-column.invariant.wide s own w m
  | inr a ↦
      let k = common_cell own c.args.bounds.now m in
      let q = subst (λ (u : Cells). IsCellOf u k.0 k.1) (sym c.of-cells.ensures) k.3 in
      c.loop-column.invariant.here k.0 k.1 s own q.west (omega (arith, q.east, c.loop-column-test.false)) q.south q.north (a k.0 k.1 k.2) m
]
