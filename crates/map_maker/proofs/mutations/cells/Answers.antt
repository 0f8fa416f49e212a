use Rattle.std.proofs.Common.{◌≡◌, ◌∙◌, [], ap, arith, map, ℕ}
use Rattle.std.specs.List.{flat_map}
use Rattle.map_maker.specs.Made.{below, new_cell}
use Rattle.map_maker.proofs.Steps.{no_pieces, next_piece}
use Rattle.map_maker.proofs.mutations.cells.Goals as goal

pub loop-j-init : goal.loop-j-init
loop-j-init c = c.in_ok-mutations.ensures ∙ no_pieces (λ j. map (new_cell c.args.n j) (below c.args.n)) []

pub loop-j-preserved : goal.loop-j-preserved
loop-j-preserved c =
    next_piece (λ j. map (new_cell c.args.n j) (below c.args.n)) c.loop-j.j [] c.loop-j.mutations c.push_row.new.mutations
    c.loop-j.invariant c.in_ok-push_row.ensures

pub returns : goal.returns
returns c =
    let all : c.loop-j.j ≡ c.args.n = omega arith in
    c.loop-j.invariant ∙ ap (λ (k : ℕ). flat_map (λ j. map (new_cell c.args.n j) (below c.args.n)) (below k)) all
