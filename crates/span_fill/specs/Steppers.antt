-- Fractions that move from row to row by additions.
use Rattle.std.specs.Prelude.{◌≡◌, ◌^◌, ℤ, pos, negsuc, ◌+ℤ◌, ◌-ℤ◌, ◌*ℤ◌, ◌≤ℤ◌, ◌<ℤ◌}
use Rattle.span_fill.specs.declared.stepper.Stepper.{Stepper}
use Rattle.span_fill.specs.declared.stepper.StepperIncrement.{StepperIncrement}

-- the fraction total / divisor
pub record IsStepper (total divisor : ℤ) (stepper : Stepper) : Type 0 where
  pub divided : total ≡ divisor *ℤ stepper.column +ℤ stepper.rest
  pub rest_low : pos 0 ≤ℤ stepper.rest
  pub rest_high : stepper.rest <ℤ divisor

-- a row adds add / divisor
pub record IsStepperIncrement (add divisor : ℤ) (step : StepperIncrement) : Type 0 where
  pub by : step.divisor ≡ divisor
  pub steps : add ≡ divisor *ℤ step.across +ℤ step.more
  pub more_low : pos 0 ≤ℤ step.more
  pub more_high : step.more <ℤ divisor

-- one more row causes no overflow
pub record StepperCanMove (step : StepperIncrement) (stepper : Stepper) : Type 0 where
  pub column_low : negsuc (2 ^ 62) ≤ℤ stepper.column
  pub column_high : stepper.column ≤ℤ pos (2 ^ 62)
  pub across_low : negsuc (2 ^ 32) ≤ℤ step.across
  pub across_high : step.across ≤ℤ pos (2 ^ 32)
  pub rest_low : pos 0 ≤ℤ stepper.rest
  pub rest_high : stepper.rest ≤ℤ pos (2 ^ 32)
  pub more_low : pos 0 ≤ℤ step.more
  pub more_high : step.more ≤ℤ pos (2 ^ 32)
  pub divisor_low : pos 1 ≤ℤ step.divisor
  pub divisor_high : step.divisor ≤ℤ pos (2 ^ 32)

-- the fraction in the next row: if the remainder reaches the divisor, it is carried
pub record IsMovedStepper (step : StepperIncrement) (old new : Stepper) : Type 0 where
  pub kept : (old.rest +ℤ step.more) <ℤ step.divisor → (new.column ≡ old.column +ℤ step.across) × (new.rest ≡ old.rest +ℤ step.more)
  pub carried :
      step.divisor ≤ℤ (old.rest +ℤ step.more)
      → (new.column ≡ old.column +ℤ step.across +ℤ pos 1) × (new.rest ≡ old.rest +ℤ step.more -ℤ step.divisor)
