-- A strip one row on.
use Rattle.std.proofs.Common.{rules, FitsSigned}
use Rattle.std.specs.Int.{w64}
use Rattle.std.proofs.lemmas.Int.{to_z-of_z}
use Rattle.span_fill.proofs.OneRowMoves.{one_row_moved}
use Rattle.span_fill.proofs.WideEdgeMoves.{wide_edge_moved}
use Rattle.span_fill.proofs.wide_edge.WideEdge.move_on.Goals as goal

pub returns-clause-at : goal.returns-clause-at
returns-clause-at c = λ at close reached.
    let row : FitsSigned w64 c.args.row = search rules in
    let first = simp to_z-of_z at c.leaves_first.ensures in
    let last = simp to_z-of_z at c.is_before_last.ensures in
    wide_edge_moved c.args.nib c.args.row c.args.self.now c.moved_if-self.result c.moved_if-self-2.result c.leaves_first.result c.is_before_last.result c.requires.nib close at reached
    first last c.moved_if-self.ensures.moved c.moved_if-self.ensures.same c.moved_if-self-2.ensures.moved c.moved_if-self-2.ensures.same

pub returns-then-nib-eq1-clause-at : goal.returns-then-nib-eq1-clause-at
returns-then-nib-eq1-clause-at c = λ at close reached.
    let row : FitsSigned w64 c.args.row = search rules in
    one_row_moved c.args.nib c.args.row c.args.self.now c.crossing_of-self.result c.moved-next.result c.requires.nib c.if-nib-eq1.true close at reached c.moved-next.ensures c.crossing_of-self.ensures
