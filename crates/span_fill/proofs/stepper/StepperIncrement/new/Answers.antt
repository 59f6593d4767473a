-- The division is whole.
use Rattle.std.proofs.Common.{rules, FitsSigned, ℤ, pos, ◌+ℤ◌, ◌*ℤ◌, ◌≡◌, ◌≤ℤ◌, ◌<ℤ◌, to_z, of_z, subst, sym, ap, ◌∙◌}
use Rattle.std.specs.Int.{w64}
use Rattle.std.proofs.lemmas.Int.{to_z-of_z}
use Rattle.span_fill.proofs.stepper.StepperIncrement.new.Goals as goal

-- a number in its 64 bits
in_bits : (z : ℤ) → FitsSigned w64 z → to_z w64 (of_z w64 z) ≡ z
in_bits z fits = simp to_z-of_z

pub returns : goal.returns
returns c =
    let step_fits = c.ranges.step in
    let divisor_fits = c.ranges.divisor in
    let across = in_bits c.divide-row.result.quotient (search rules) in
    let more = in_bits c.divide-row.result.rest (search rules) in
    let steps = simp to_z-of_z at c.divide-row.ensures.whole in
    let below = simp to_z-of_z at c.divide-row.ensures.below in
    record {
      by = in_bits c.args.divisor divisor_fits;
      steps = steps ∙ ap (λ q. c.args.divisor *ℤ q +ℤ c.divide-row.result.rest) (sym across) ∙ ap (λ r. c.args.divisor *ℤ to_z w64 (of_z w64 c.divide-row.result.quotient) +ℤ r) (sym more);
      more_low = subst (λ (r : ℤ). pos 0 ≤ℤ r) (sym more) c.divide-row.ensures.rest;
      more_high = subst (λ (r : ℤ). r <ℤ c.args.divisor) (sym more) below;
    }
