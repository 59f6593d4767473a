-- What is left of a dividend fits, since it is less than the divisor.
use Rattle.std.proofs.Common.{◌+◌, rules, ◌∙◌, FitsSigned, w64, ◌≡◌, ◌^◌, ◌*ℤ◌, ◌-ℤ◌, ap, sym, arith, lit<}
use Rattle.std.proofs.lemmas.Int.{ints, to_z-of_z}
use Rattle.mapping.specs.Floor.{floor_div}
use Rattle.mapping.specs.Limits.{IsWithin}
use Rattle.span_fill.specs.Edges.{remainder_of}
use Rattle.span_fill.proofs.EdgeLemmas.{floor_positive, rest_bounds, within_fits}
use Rattle.span_fill.proofs.edge_start.divided.Goals as goal

-- the floor, as it is computed
floor_is : (c : goal.After-div_euclid-floor) → c.div_euclid-floor.result ≡ floor_div c.args.dividend c.args.divisor
floor_is c =
    let dividend : FitsSigned w64 c.args.dividend = c.ranges.dividend in
    let divisor : FitsSigned w64 c.args.divisor = c.ranges.divisor in
    let is = simp to_z-of_z at c.div_euclid-floor.ensures in
    is ∙ sym (floor_positive c.args.dividend c.args.divisor c.requires.low)

-- what is left, as it is computed
rest_is : (c : goal.After-div_euclid-floor) → c.args.dividend -ℤ c.div_euclid-floor.result *ℤ c.args.divisor ≡ remainder_of c.args.dividend c.args.divisor
rest_is c = ap (λ q. c.args.dividend -ℤ q *ℤ c.args.divisor) (floor_is c)

product_fits : (c : goal.After-div_euclid-floor) → FitsSigned w64 (c.div_euclid-floor.result *ℤ c.args.divisor)
product_fits c =
    let rest = rest_bounds c.args.dividend c.args.divisor c.requires.low in
    let is = rest_is c in
    let near : IsWithin (2 ^ 62 + 2 ^ 32) (c.div_euclid-floor.result *ℤ c.args.divisor) = record { low = omega (arith, ints, rest.0, rest.1, is); high = omega (arith, ints, rest.0, rest.1, is) } in
    within_fits (2 ^ 62 + 2 ^ 32) _ (lit< tt) near

rest_fits : (c : goal.After-div_euclid-floor) → FitsSigned w64 (c.args.dividend -ℤ c.div_euclid-floor.result *ℤ c.args.divisor)
rest_fits c =
    let rest = rest_bounds c.args.dividend c.args.divisor c.requires.low in
    let is = rest_is c in
    let near : IsWithin (2 ^ 32) (c.args.dividend -ℤ c.div_euclid-floor.result *ℤ c.args.divisor) = record { low = omega (arith, ints, rest.0, rest.1, is); high = omega (arith, ints, rest.0, rest.1, is) } in
    within_fits (2 ^ 32) _ (lit< tt) near

pub overflow_mul-result : goal.overflow_mul-result
overflow_mul-result c =
    let divisor : FitsSigned w64 c.args.divisor = c.ranges.divisor in
    let floor : FitsSigned w64 c.div_euclid-floor.result = search rules in
    simp to_z-of_z (product_fits c)

pub overflow_sub-result : goal.overflow_sub-result
overflow_sub-result c =
    let dividend : FitsSigned w64 c.args.dividend = c.ranges.dividend in
    let divisor : FitsSigned w64 c.args.divisor = c.ranges.divisor in
    let floor : FitsSigned w64 c.div_euclid-floor.result = search rules in
    let product = product_fits c in
    simp to_z-of_z (rest_fits c)

pub returns-clause-rest : goal.returns-clause-rest
returns-clause-rest c =
    let dividend : FitsSigned w64 c.args.dividend = c.ranges.dividend in
    let divisor : FitsSigned w64 c.args.divisor = c.ranges.divisor in
    let floor : FitsSigned w64 c.div_euclid-floor.result = search rules in
    let product = product_fits c in
    let rest = rest_fits c in
    simp to_z-of_z (rest_is c)

pub returns-clause-rest_low : goal.returns-clause-rest_low
returns-clause-rest_low c =
    let dividend : FitsSigned w64 c.args.dividend = c.ranges.dividend in
    let divisor : FitsSigned w64 c.args.divisor = c.ranges.divisor in
    let floor : FitsSigned w64 c.div_euclid-floor.result = search rules in
    let product = product_fits c in
    let rest = rest_fits c in
    let bounds = rest_bounds c.args.dividend c.args.divisor c.requires.low in
    let is = rest_is c in
    simp to_z-of_z (omega (arith, ints, bounds.0, is))

pub returns-clause-rest_high : goal.returns-clause-rest_high
returns-clause-rest_high c =
    let dividend : FitsSigned w64 c.args.dividend = c.ranges.dividend in
    let divisor : FitsSigned w64 c.args.divisor = c.ranges.divisor in
    let floor : FitsSigned w64 c.div_euclid-floor.result = search rules in
    let product = product_fits c in
    let rest = rest_fits c in
    let bounds = rest_bounds c.args.dividend c.args.divisor c.requires.low in
    let is = rest_is c in
    simp to_z-of_z (omega (arith, ints, bounds.1, is))
