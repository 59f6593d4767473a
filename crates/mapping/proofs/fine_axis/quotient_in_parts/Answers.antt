-- The dividend in parts is a multiple of the divisor, and what remains in parts.
use Rattle.std.proofs.Common.{◌^◌, ◌<◌, ◌≤◌, ℤ, ◌+ℤ◌, arith, rules}
use Rattle.std.specs.Prelude.{FitsSigned, unsigned_abs}
use Rattle.std.specs.Int.{w64}
use Rattle.std.proofs.lemmas.Int.{ints, fits_signed_from_abs, to_z-of_z}
use Rattle.mapping.proofs.RestLemmas.{floor_in_parts}
use Rattle.mapping.proofs.fine_axis.quotient_in_parts.Goals as goal

sum_fits : (a b : ℤ) (m : ℤ) → unsigned_abs a < 2 ^ 57 → unsigned_abs b ≤ unsigned_abs m → unsigned_abs m < 2 ^ 57 → FitsSigned w64 (a +ℤ b)
sum_fits a b m small less below = fits_signed_from_abs w64 (a +ℤ b) (omega (arith, ints, small, less, below))

pub overflow_add-result : goal.overflow_add-result
overflow_add-result c =
    let whole_fits : FitsSigned w64 c.times.result = search rules in
    let rest_fits : FitsSigned w64 c.times-2.result = search rules in
    let quotient_fits : FitsSigned w64 c.floor_quotient.result = search rules in
    let bound = simp to_z-of_z at c.floor_quotient.ensures.bound in
    simp to_z-of_z (sum_fits c.times.result c.floor_quotient.result c.times-2.result c.times.ensures.bound bound c.times-2.ensures.bound)

pub returns : goal.returns
returns c =
    let divisor_fits = c.ranges.divisor in
    let dividend_fits = c.ranges.dividend in
    let whole_arg_fits = c.ranges.whole in
    let parts_fits = c.ranges.parts in
    let whole_fits : FitsSigned w64 c.times.result = search rules in
    let rest_fits : FitsSigned w64 c.times-2.result = search rules in
    let remainder_fits : FitsSigned w64 c.remainder-rest.result = search rules in
    let quotient_fits : FitsSigned w64 c.floor_quotient.result = search rules in
    let bound = simp to_z-of_z at c.floor_quotient.ensures.bound in
    let sum = sum_fits c.times.result c.floor_quotient.result c.times-2.result c.times.ensures.bound bound c.times-2.ensures.bound in
    let units = simp to_z-of_z at c.times.ensures.value in
    let rest = simp to_z-of_z at c.remainder-rest.ensures.value in
    let parts = simp to_z-of_z at c.times-2.ensures.value in
    let quotient = simp to_z-of_z at c.floor_quotient.ensures.value in
    simp to_z-of_z (floor_in_parts c.args.dividend c.args.divisor c.args.whole c.args.parts c.remainder-rest.result c.times.result c.times-2.result c.floor_quotient.result c.requires.not_zero rest units parts quotient)
