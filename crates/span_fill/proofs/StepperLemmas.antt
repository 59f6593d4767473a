-- A fraction that is moved, and how large it is.
use Rattle.std.proofs.Common.{◌≡◌, ◌+◌, ◌^◌, ℤ, pos, negsuc, neg_ℤ, ◌+ℤ◌, ◌*ℤ◌, ◌≤ℤ◌, ◌<ℤ◌, arith, ap, ◌∙◌}
use Rattle.std.proofs.lemmas.Int.{ints, by_lt_z}
use Rattle.span_fill.specs.Steppers.{StepperCanMove, IsStepper, IsStepperIncrement, IsMovedStepper}
use Rattle.span_fill.specs.declared.stepper.Stepper.{Stepper}
use Rattle.span_fill.specs.declared.stepper.StepperIncrement.{StepperIncrement}
use Rattle.mapping.proofs.Products.{mul_add, mul_comm_ℤ, mul_neg, mul_one, order_mul}

stepper_kept :
    (total add divisor : ℤ) (step : StepperIncrement) (old new : Stepper) → (old.rest +ℤ step.more) <ℤ step.divisor → IsStepperIncrement add divisor step → IsStepper total divisor old
    → IsMovedStepper step old new → IsStepper (total +ℤ add) divisor new
stepper_kept total add divisor step old new under adds is moved =
    let there = moved.kept under in
    let column = there.0 in
    let rest = there.1 in
    let by = adds.by in
    let sum = mul_add divisor old.column step.across in
    let product : divisor *ℤ new.column ≡ divisor *ℤ old.column +ℤ divisor *ℤ step.across = ap (λ n. divisor *ℤ n) column ∙ sum in
    record {
      divided = omega (arith, ints, product, rest, is.divided, adds.steps);
      rest_low = omega (arith, ints, rest, is.rest_low, adds.more_low);
      rest_high = omega (arith, ints, rest, under, by);
    }

stepper_carried :
    (total add divisor : ℤ) (step : StepperIncrement) (old new : Stepper) → step.divisor ≤ℤ (old.rest +ℤ step.more) → IsStepperIncrement add divisor step → IsStepper total divisor old
    → IsMovedStepper step old new → IsStepper (total +ℤ add) divisor new
stepper_carried total add divisor step old new over adds is moved =
    let there = moved.carried over in
    let column = there.0 in
    let rest = there.1 in
    let by = adds.by in
    let sum = mul_add divisor (old.column +ℤ step.across) (pos 1) in
    let inner = mul_add divisor old.column step.across in
    let once = mul_one divisor in
    let product : divisor *ℤ new.column ≡ divisor *ℤ old.column +ℤ divisor *ℤ step.across +ℤ divisor = ap (λ n. divisor *ℤ n) column ∙ omega (arith, ints, sum, inner, once) in
    record {
      divided = omega (arith, ints, product, rest, is.divided, adds.steps, by);
      rest_low = omega (arith, ints, rest, over);
      rest_high = omega (arith, ints, rest, is.rest_high, adds.more_high, by);
    }

pub stepper_moved :
    (total add divisor : ℤ) (step : StepperIncrement) (old new : Stepper) → IsStepperIncrement add divisor step → IsStepper total divisor old → IsMovedStepper step old new
    → IsStepper (total +ℤ add) divisor new
stepper_moved total add divisor step old new adds is moved =
    by_lt_z (old.rest +ℤ step.more) step.divisor
    (λ under. stepper_kept total add divisor step old new under adds is moved)
    (λ over. stepper_carried total add divisor step old new over adds is moved)

-- a factor is no further from 0 than a product with a number above 0
factor_below : (d q : ℤ) → pos 1 ≤ℤ d → pos 0 ≤ℤ q → q ≤ℤ (d *ℤ q)
factor_below d q some low = let e = order_mul (pos 1) d q low some in omega (arith, ints, e, mul_comm_ℤ (pos 1) q, mul_one q)

factor_above : (d q : ℤ) → pos 1 ≤ℤ d → q ≤ℤ pos 0 → (d *ℤ q) ≤ℤ q
factor_above d q some high =
    let e = factor_below d (neg_ℤ q) some (omega (arith, ints, high)) in omega (arith, ints, e, mul_neg d q)

pub factor_most : (d q b : ℤ) → pos 1 ≤ℤ d → pos 0 ≤ℤ b → (d *ℤ q) ≤ℤ b → q ≤ℤ b
factor_most d q b some low h =
    by_lt_z q (pos 0) (λ (g : q <ℤ pos 0). omega (arith, ints, g, low)) (λ (g : pos 0 ≤ℤ q). let e = factor_below d q some g in omega (arith, ints, e, h))

pub factor_least : (d q b : ℤ) → pos 1 ≤ℤ d → b ≤ℤ pos 0 → b ≤ℤ (d *ℤ q) → b ≤ℤ q
factor_least d q b some high h =
    by_lt_z (pos 0) q (λ (g : pos 0 <ℤ q). omega (arith, ints, g, high)) (λ (g : q ≤ℤ pos 0). let e = factor_above d q some g in omega (arith, ints, e, h))

-- so a fraction whose numbers are not too large may be moved
pub stepper_can_move :
    (total add divisor : ℤ) (step : StepperIncrement) (stepper : Stepper) → IsStepperIncrement add divisor step → IsStepper total divisor stepper
    → negsuc (2 ^ 61) ≤ℤ total → total ≤ℤ pos (2 ^ 61) → negsuc (2 ^ 31) ≤ℤ add → add ≤ℤ pos (2 ^ 31) → divisor ≤ℤ pos (2 ^ 31) → StepperCanMove step stepper
stepper_can_move total add divisor step stepper adds is low high add_low add_high small =
    let rest_low = is.rest_low in
    let rest_high = is.rest_high in
    let more_low = adds.more_low in
    let more_high = adds.more_high in
    let by = adds.by in
    let some : pos 1 ≤ℤ divisor = omega (arith, ints, rest_low, rest_high) in
    let column_high = factor_most divisor stepper.column (pos (2 ^ 61)) some (omega (arith, ints)) (omega (arith, ints, is.divided, high, rest_low)) in
    let column_low = factor_least divisor stepper.column (negsuc (2 ^ 61 + 2 ^ 31)) some (omega (arith, ints)) (omega (arith, ints, is.divided, low, rest_high, small)) in
    let across_high = factor_most divisor step.across (pos (2 ^ 31)) some (omega (arith, ints)) (omega (arith, ints, adds.steps, add_high, more_low)) in
    let across_low = factor_least divisor step.across (negsuc (2 ^ 31 + 2 ^ 31)) some (omega (arith, ints)) (omega (arith, ints, adds.steps, add_low, more_high, small)) in
    record {
      column_low = omega (arith, ints, column_low);
      column_high = omega (arith, ints, column_high);
      across_low = omega (arith, ints, across_low);
      across_high = omega (arith, ints, across_high);
      rest_low = rest_low;
      rest_high = omega (arith, ints, rest_high, small);
      more_low = more_low;
      more_high = omega (arith, ints, more_high, small);
      divisor_low = omega (arith, ints, some, by);
      divisor_high = omega (arith, ints, small, by);
    }
