-- A strip one row on, where the nib has one row.
use Rattle.std.proofs.Common.{◌≡◌, Bool, true, false, ℤ, pos, ◌+ℤ◌, ◌-ℤ◌, ◌≤ℤ◌, ◌<ℤ◌, ap, sym, subst, arith}
use Rattle.std.proofs.lemmas.Int.{ints}
use Rattle.mapping.specs.Nibs.{IsNib, reach_after, reach_before}
use Rattle.mapping.specs.declared.geometry.Point.{Point}
use Rattle.mapping.specs.declared.nib.Nib.{Nib}
use Rattle.span_fill.specs.Steppers.{IsStepper, IsStepperIncrement, IsMovedStepper}
use Rattle.span_fill.specs.RowSlopes.{total_of}
use Rattle.span_fill.specs.WideEdges.{IsAtRow, IsNearRow, bottom_of, crossing_of, end_row, top_of, wide_edge_row_slope}
use Rattle.span_fill.specs.declared.row_slope.RowSlope.{RowSlope}
use Rattle.span_fill.specs.declared.stepper.Stepper.{Stepper}
use Rattle.span_fill.specs.declared.stepper.StepperIncrement.{StepperIncrement}
use Rattle.span_fill.specs.declared.wide_edge.WideEdge.{WideEdge}
use Rattle.span_fill.proofs.StepperLemmas.{stepper_moved}
use Rattle.span_fill.proofs.WideEdgeExact.{total_more}
use Rattle.span_fill.proofs.WideEdgeMoves.{bottom_near, can_move, end_near, next_order, top_near}
use Rattle.span_fill.proofs.WideEdgeWindows.{greater_is, lesser_is}

-- such a nib reaches the row that it is in
reached_row :
    (nib : Nib) (row from to : ℤ) → nib.y ≡ 1 → top_of nib row from ≤ℤ bottom_of nib row to → (top_of nib row from ≡ row) × (bottom_of nib row to ≡ row)
reached_row nib row from to one order =
    let a = (greater_is (row -ℤ pos (reach_after nib.y)) from).first in
    let b = (lesser_is (row +ℤ pos (reach_before nib.y)) (to -ℤ pos 1)).first in
    let after : reach_after nib.y ≡ 0 = ap (λ n. reach_after n) one in
    let before : reach_before nib.y ≡ 0 = ap (λ n. reach_before n) one in
    (omega (arith, ints, a, b, after, before, order), omega (arith, ints, a, b, after, before, order))

-- where the last of its rows ends, one row on
end_moved :
    (slope : RowSlope) (start : Point) (y_major : Bool) (row : ℤ) (step : StepperIncrement) (old new : Stepper) → IsStepperIncrement slope.step slope.divisor step → IsMovedStepper step old new
    → IsStepper (total_of slope start (end_row y_major row)) slope.divisor old → IsStepper (total_of slope start (end_row y_major (row +ℤ pos 1))) slope.divisor new
end_moved slope start true row step old new adds moved is =
    subst (λ (t : ℤ). IsStepper t slope.divisor new) (total_more slope start row) (stepper_moved (total_of slope start row) slope.step slope.divisor step old new adds is moved)
end_moved slope start false row step old new adds moved is =
    subst (λ (t : ℤ). IsStepper t slope.divisor new) (total_more slope start (row +ℤ pos 1)) (stepper_moved (total_of slope start (row +ℤ pos 1)) slope.step slope.divisor step old new adds is moved)

-- where the first of its rows begins
start_moved :
    (slope : RowSlope) (start : Point) (y_major : Bool) (row : ℤ) (old new : Stepper) → IsStepper (total_of slope start (end_row y_major row)) slope.divisor old
    → IsStepper (total_of slope start (end_row y_major (row +ℤ pos 1))) slope.divisor new → IsStepper (total_of slope start (row +ℤ pos 1)) slope.divisor (crossing_of y_major old new)
start_moved slope start true row old new before here = here
start_moved slope start false row old new before here = before

pub one_row_moved :
    (nib : Nib) (row : ℤ) (s : WideEdge) (first last : Stepper) → IsNib nib → nib.y ≡ 1 → IsNearRow (row +ℤ pos 1) → IsAtRow nib row s → (row +ℤ pos 1 -ℤ pos (reach_after nib.y)) <ℤ s.rows.to
    → IsMovedStepper s.step s.last last → first ≡ crossing_of s.y_major s.last last → IsAtRow nib (row +ℤ pos 1) (record s { first = first; last = last })
one_row_moved nib row s first last is one close at reached moved e =
    let slope = wide_edge_row_slope s in
    let order = next_order nib row s.rows.from s.rows.to at.order reached in
    let here = reached_row nib row s.rows.from s.rows.to one at.order in
    let there = reached_row nib (row +ℤ pos 1) s.rows.from s.rows.to one order in
    let before = subst (λ (r : ℤ). IsStepper (total_of slope s.line.from (end_row s.y_major r)) slope.divisor s.last) here.1 at.last in
    let ends = end_moved slope s.line.from s.y_major row s.step s.last last at.step moved before in
    let begins = subst (λ (k : Stepper). IsStepper (total_of slope s.line.from (row +ℤ pos 1)) slope.divisor k) (sym e) (start_moved slope s.line.from s.y_major row s.last last before ends) in
    let first_stepper = subst (λ (r : ℤ). IsStepper (total_of slope s.line.from r) slope.divisor first) (sym there.0) begins in
    let last_stepper = subst (λ (r : ℤ). IsStepper (total_of slope s.line.from (end_row s.y_major r)) slope.divisor last) (sym there.1) ends in
    record {
      drawn = at.drawn;
      rows = at.rows;
      columns = at.columns;
      near = at.near;
      small = at.small;
      order = order;
      step = at.step;
      first_moves = can_move slope s.line (top_of nib (row +ℤ pos 1) s.rows.from) s.step first at.small at.near (top_near nib (row +ℤ pos 1) s.rows.from s.rows.to is close order) at.step first_stepper;
      last_moves = can_move slope s.line (end_row s.y_major (bottom_of nib (row +ℤ pos 1) s.rows.to)) s.step last at.small at.near (end_near s.y_major _ (bottom_near nib (row +ℤ pos 1) s.rows.from s.rows.to is close order)) at.step last_stepper;
      first = first_stepper;
      last = last_stepper;
    }
