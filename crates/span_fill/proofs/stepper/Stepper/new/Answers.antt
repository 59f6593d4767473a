-- The division is whole.
use Rattle.std.proofs.Common.{rules, FitsSigned, ℤ, pos, ◌+ℤ◌, ◌*ℤ◌, ◌≡◌, ◌≤ℤ◌, ◌<ℤ◌, to_z, of_z, subst, sym, ap, ◌∙◌}
use Rattle.std.specs.Int.{w64}
use Rattle.std.proofs.lemmas.Int.{to_z-of_z}
use Rattle.span_fill.proofs.stepper.Stepper.new.Goals as goal

-- a number in its 64 bits
in_bits : (z : ℤ) → FitsSigned w64 z → to_z w64 (of_z w64 z) ≡ z
in_bits z fits = simp to_z-of_z

pub returns : goal.returns
returns c =
    let total_fits = c.ranges.total in
    let divisor_fits = c.ranges.divisor in
    let column = in_bits c.divide-here.result.quotient (search rules) in
    let rest = in_bits c.divide-here.result.rest (search rules) in
    let divided = simp to_z-of_z at c.divide-here.ensures.whole in
    let below = simp to_z-of_z at c.divide-here.ensures.below in
    record {
      divided = divided ∙ ap (λ q. c.args.divisor *ℤ q +ℤ c.divide-here.result.rest) (sym column) ∙ ap (λ r. c.args.divisor *ℤ to_z w64 (of_z w64 c.divide-here.result.quotient) +ℤ r) (sym rest);
      rest_low = subst (λ (r : ℤ). pos 0 ≤ℤ r) (sym rest) c.divide-here.ensures.rest;
      rest_high = subst (λ (r : ℤ). r <ℤ c.args.divisor) (sym rest) below;
    }
