-- A strip one row on.
use Rattle.std.proofs.Common.{◌≡◌, ◌^◌, ◌≤◌, Bool, true, false, ℤ, pos, ◌+ℤ◌, ◌-ℤ◌, ◌≤ℤ◌, ◌<ℤ◌, refl, sym, subst, arith}
use Rattle.std.specs.Prelude.{int_le, int_lt, unsigned_abs}
use Rattle.std.proofs.lemmas.Int.{ints}
use Rattle.mapping.specs.Nibs.{IsNib, reach_before, reach_after}
use Rattle.mapping.specs.declared.geometry.Point.{Point}
use Rattle.mapping.specs.declared.nib.Nib.{Nib}
use Rattle.span_fill.specs.Steppers.{StepperCanMove, IsStepper, IsStepperIncrement, IsMovedStepper}
use Rattle.span_fill.specs.Lines.{HasNearEnds}
use Rattle.span_fill.specs.RowSlopes.{IsSmallRowSlope, total_of}
use Rattle.span_fill.specs.WideEdges.{IsAtRow, IsNearRow, bottom_of, end_row, wide_edge_row_slope, top_of}
use Rattle.span_fill.specs.declared.stepper.Stepper.{Stepper}
use Rattle.span_fill.specs.declared.stepper.StepperIncrement.{StepperIncrement}
use Rattle.span_fill.specs.declared.line.Line.{Line}
use Rattle.span_fill.specs.declared.row_slope.RowSlope.{RowSlope}
use Rattle.span_fill.specs.declared.wide_edge.WideEdge.{WideEdge}
use Rattle.span_fill.proofs.CoverLemmas.{reaches}
use Rattle.span_fill.proofs.StepperLemmas.{stepper_can_move, stepper_moved}
use Rattle.span_fill.proofs.WideEdgeExact.{total_more}
use Rattle.span_fill.proofs.TotalLemmas.{near_small, total_small}
use Rattle.span_fill.proofs.WideEdgeWindows.{greater_is, lesser_is}

-- one end of the window, and that of the next row's
pub record IsStep (moves : Bool) (here there : ℤ) : Type 0 where
  pub on : moves ≡ true → there ≡ here +ℤ pos 1
  pub stays : moves ≡ false → there ≡ here

top_step : (nib : Nib) (row from : ℤ) → IsStep (int_le from (row -ℤ pos (reach_after nib.y))) (top_of nib row from) (top_of nib (row +ℤ pos 1) from)
top_step nib row from =
    let a = greater_is (row -ℤ pos (reach_after nib.y)) from in
    let b = greater_is (row +ℤ pos 1 -ℤ pos (reach_after nib.y)) from in
    let a_first = a.first in let a_second = a.second in
    let b_first = b.first in let b_second = b.second in record {
      on = λ e.
          let h : from ≤ℤ (row -ℤ pos (reach_after nib.y)) = grind (arith, ints) in
          let k = a.least (row -ℤ pos (reach_after nib.y)) (omega (arith, ints)) h in
          let m = b.least (row +ℤ pos 1 -ℤ pos (reach_after nib.y)) (omega (arith, ints)) (omega (arith, ints, h)) in
          omega (arith, ints, a_first, b_first, k, m);
      stays = λ e.
          let h : (row -ℤ pos (reach_after nib.y)) <ℤ from = grind (arith, ints) in
          let k = a.least from (omega (arith, ints, h)) (omega (arith, ints)) in
          let m = b.least from (omega (arith, ints, h)) (omega (arith, ints)) in
          omega (arith, ints, a_second, b_second, k, m);
    }

bottom_step : (nib : Nib) (row to : ℤ) → IsStep (int_lt (row +ℤ pos (reach_before nib.y)) (to -ℤ pos 1)) (bottom_of nib row to) (bottom_of nib (row +ℤ pos 1) to)
bottom_step nib row to =
    let a = lesser_is (row +ℤ pos (reach_before nib.y)) (to -ℤ pos 1) in
    let b = lesser_is (row +ℤ pos 1 +ℤ pos (reach_before nib.y)) (to -ℤ pos 1) in
    let a_first = a.first in let a_second = a.second in
    let b_first = b.first in let b_second = b.second in record {
      on = λ e.
          let h : (row +ℤ pos (reach_before nib.y)) <ℤ (to -ℤ pos 1) = grind (arith, ints) in
          let k = a.most (row +ℤ pos (reach_before nib.y)) (omega (arith, ints)) (omega (arith, ints, h)) in
          let m = b.most (row +ℤ pos 1 +ℤ pos (reach_before nib.y)) (omega (arith, ints)) (omega (arith, ints, h)) in
          omega (arith, ints, a_first, b_first, k, m);
      stays = λ e.
          let h : (to -ℤ pos 1) ≤ℤ (row +ℤ pos (reach_before nib.y)) = grind (arith, ints) in
          let k = a.most (to -ℤ pos 1) (omega (arith, ints, h)) (omega (arith, ints)) in
          let m = b.most (to -ℤ pos 1) (omega (arith, ints, h)) (omega (arith, ints)) in
          omega (arith, ints, a_second, b_second, k, m);
    }

end_step : (y_major moves : Bool) (here there : ℤ) → IsStep moves here there → IsStep moves (end_row y_major here) (end_row y_major there)
end_step true moves here there h = h
end_step false moves here there h = record { on = λ e. let k = h.on e in omega (arith, ints, k); stays = λ e. let k = h.stays e in omega (arith, ints, k) }

-- a cut at either
moved_stepper :
    (slope : RowSlope) (start : Point) (moves : Bool) (here there : ℤ) (step : StepperIncrement) (old new : Stepper) → IsStepperIncrement slope.step slope.divisor step
    → IsStep moves here there → (moves ≡ true → IsMovedStepper step old new) → (moves ≡ false → new ≡ old)
    → IsStepper (total_of slope start here) slope.divisor old → IsStepper (total_of slope start there) slope.divisor new
moved_stepper slope start true here there step old new adds at moved same is =
    let next = stepper_moved (total_of slope start here) slope.step slope.divisor step old new adds is (moved refl) in
    let more = total_more slope start here in
    subst (λ (r : ℤ). IsStepper (total_of slope start r) slope.divisor new) (sym (at.on refl)) (subst (λ (t : ℤ). IsStepper t slope.divisor new) more next)
moved_stepper slope start false here there step old new adds at moved same is =
    subst (λ (r : ℤ). IsStepper (total_of slope start r) slope.divisor new) (sym (at.stays refl))
    (subst (λ (k : Stepper). IsStepper (total_of slope start here) slope.divisor k) (sym (same refl)) is)

-- cuts of a line in rows that are near
pub can_move :
    (slope : RowSlope) (line : Line) (row : ℤ) (step : StepperIncrement) (stepper : Stepper) → IsSmallRowSlope slope → HasNearEnds line → unsigned_abs row ≤ 2 ^ 14
    → IsStepperIncrement slope.step slope.divisor step → IsStepper (total_of slope line.from row) slope.divisor stepper → StepperCanMove step stepper
can_move slope line row step stepper small near close adds is =
    let ends = near_small line near in
    let total = total_small slope line.from row small ends.0 ends.1 close in
    let more = small.step in
    stepper_can_move (total_of slope line.from row) slope.step slope.divisor step stepper adds is (omega (arith, ints, total)) (omega (arith, ints, total)) (omega (arith, ints, more)) (omega (arith, ints, more)) small.divisor_high

-- the ends of the rows that a nib reaches are near
pub top_near :
    (nib : Nib) (row from to : ℤ) → IsNib nib → IsNearRow row → top_of nib row from ≤ℤ bottom_of nib row to
    → unsigned_abs (top_of nib row from) ≤ 2 ^ 14
top_near nib row from to is close order =
    let a = (greater_is (row -ℤ pos (reach_after nib.y)) from).first in
    let b = (lesser_is (row +ℤ pos (reach_before nib.y)) (to -ℤ pos 1)).first in
    let c = reaches nib.y in
    let low = close.low in let high = close.high in
    let d = is.y.within in omega (arith, ints, a, b, c, d, order, low, high)

pub bottom_near :
    (nib : Nib) (row from to : ℤ) → IsNib nib → IsNearRow row → top_of nib row from ≤ℤ bottom_of nib row to
    → unsigned_abs (bottom_of nib row to) ≤ 16382
bottom_near nib row from to is close order =
    let a = (greater_is (row -ℤ pos (reach_after nib.y)) from).first in
    let b = (lesser_is (row +ℤ pos (reach_before nib.y)) (to -ℤ pos 1)).first in
    let c = reaches nib.y in
    let low = close.low in let high = close.high in
    let d = is.y.within in omega (arith, ints, a, b, c, d, order, low, high)

pub end_near : (y_major : Bool) (bottom : ℤ) → unsigned_abs bottom ≤ 16382 → unsigned_abs (end_row y_major bottom) ≤ 2 ^ 14
end_near true bottom h = omega (arith, h)
end_near false bottom h = omega (arith, ints, h)

-- from the next row it reaches some too
pub next_order :
    (nib : Nib) (row from to : ℤ) → top_of nib row from ≤ℤ bottom_of nib row to → (row +ℤ pos 1 -ℤ pos (reach_after nib.y)) <ℤ to
    → top_of nib (row +ℤ pos 1) from ≤ℤ bottom_of nib (row +ℤ pos 1) to
next_order nib row from to order reached =
    let a_second = (greater_is (row -ℤ pos (reach_after nib.y)) from).second in
    let b = lesser_is (row +ℤ pos (reach_before nib.y)) (to -ℤ pos 1) in
    let b_first = b.first in
    let b_second = b.second in
    let from_low : from ≤ℤ (row +ℤ pos (reach_before nib.y)) = omega (arith, ints, a_second, b_first, order) in
    let from_to : from ≤ℤ (to -ℤ pos 1) = omega (arith, ints, a_second, b_second, order) in
    let top = (greater_is (row +ℤ pos 1 -ℤ pos (reach_after nib.y)) from).least (bottom_of nib (row +ℤ pos 1) to) in
    let bottom = (lesser_is (row +ℤ pos 1 +ℤ pos (reach_before nib.y)) (to -ℤ pos 1)).most in
    top (bottom (row +ℤ pos 1 -ℤ pos (reach_after nib.y)) (omega (arith, ints)) (omega (arith, ints, reached))) (bottom from (omega (arith, ints, from_low)) from_to)

pub wide_edge_moved :
    (nib : Nib) (row : ℤ) (s : WideEdge) (first last : Stepper) (first_moves last_moves : Bool) → IsNib nib → IsNearRow (row +ℤ pos 1) → IsAtRow nib row s
    → (row +ℤ pos 1 -ℤ pos (reach_after nib.y)) <ℤ s.rows.to
    → first_moves ≡ int_le s.rows.from (row -ℤ pos (reach_after nib.y)) → last_moves ≡ int_lt (row +ℤ pos (reach_before nib.y)) (s.rows.to -ℤ pos 1)
    → (first_moves ≡ true → IsMovedStepper s.step s.first first) → (first_moves ≡ false → first ≡ s.first)
    → (last_moves ≡ true → IsMovedStepper s.step s.last last) → (last_moves ≡ false → last ≡ s.last)
    → IsAtRow nib (row +ℤ pos 1) (record s { first = first; last = last })
wide_edge_moved nib row s first last first_moves last_moves is close at reached e f first_moved first_same last_moved last_same =
    let slope = wide_edge_row_slope s in
    let order = next_order nib row s.rows.from s.rows.to at.order reached in
    let top = subst (λ (b : Bool). IsStep b (top_of nib row s.rows.from) (top_of nib (row +ℤ pos 1) s.rows.from)) (sym e) (top_step nib row s.rows.from) in
    let bottom = subst (λ (b : Bool). IsStep b (bottom_of nib row s.rows.to) (bottom_of nib (row +ℤ pos 1) s.rows.to)) (sym f) (bottom_step nib row s.rows.to) in
    let first_stepper = moved_stepper slope s.line.from first_moves _ _ s.step s.first first at.step top first_moved first_same at.first in
    let last_stepper = moved_stepper slope s.line.from last_moves _ _ s.step s.last last at.step (end_step s.y_major last_moves _ _ bottom) last_moved last_same at.last in
    record {
      drawn = at.drawn;
      rows = at.rows;
      columns = at.columns;
      near = at.near;
      small = at.small;
      order = order;
      step = at.step;
      first_moves = can_move slope s.line (top_of nib (row +ℤ pos 1) s.rows.from) s.step first at.small at.near (top_near nib (row +ℤ pos 1) s.rows.from s.rows.to is close order) at.step first_stepper;
      last_moves = can_move slope s.line (end_row s.y_major (bottom_of nib (row +ℤ pos 1) s.rows.to)) s.step last at.small at.near (end_near s.y_major _ (bottom_near nib (row +ℤ pos 1) s.rows.from s.rows.to is close order)) at.step last_stepper;
      first = first_stepper;
      last = last_stepper;
    }
