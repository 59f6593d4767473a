-- What remains is shorter than the divisor, so the multiple is near the dividend.
use Rattle.std.proofs.Common.{◌+◌, ◌^◌, ◌<◌, ◌≤◌, ℤ, ◌-ℤ◌, ◌*ℤ◌, arith}
use Rattle.std.specs.Prelude.{FitsSigned, unsigned_abs}
use Rattle.std.specs.Int.{w64}
use Rattle.std.proofs.lemmas.Int.{ints, fits_signed_from_abs, to_z-of_z}
use Rattle.mapping.proofs.RestLemmas.{remainder_is_short}
use Rattle.mapping.proofs.fine_axis.remainder.Goals as goal

short : (c : goal.Start) → unsigned_abs (c.args.dividend -ℤ c.args.whole *ℤ c.args.divisor) < unsigned_abs c.args.divisor
short c = rw c.requires.whole (remainder_is_short c.args.dividend c.args.divisor c.requires.not_zero)

-- a multiple that is nearer to the dividend than the divisor is long
multiple_fits : (a m b : ℤ) → unsigned_abs a + 2 ^ 31 ≤ 2 ^ 63 → unsigned_abs b ≤ 2 ^ 31 → unsigned_abs (a -ℤ m) < unsigned_abs b → FitsSigned w64 m
multiple_fits a m b near small short = fits_signed_from_abs w64 m (omega (arith, ints, near, small, short))

product_fits : (c : goal.Start) → FitsSigned w64 (c.args.whole *ℤ c.args.divisor)
product_fits c = multiple_fits c.args.dividend (c.args.whole *ℤ c.args.divisor) c.args.divisor c.requires.dividend_fits c.requires.divisor_fits (short c)

rest_fits : (c : goal.Start) → FitsSigned w64 (c.args.dividend -ℤ c.args.whole *ℤ c.args.divisor)
rest_fits c = let near = short c in let small = c.requires.divisor_fits in fits_signed_from_abs w64 _ (omega (arith, near, small))

pub overflow_mul-result : goal.overflow_mul-result
overflow_mul-result c =
    let whole_fits = c.ranges.whole in
    let divisor_fits = c.ranges.divisor in
    simp to_z-of_z (product_fits c)

pub overflow_sub-result : goal.overflow_sub-result
overflow_sub-result c =
    let dividend_fits = c.ranges.dividend in
    let whole_fits = c.ranges.whole in
    let divisor_fits = c.ranges.divisor in
    let product = product_fits c in
    simp to_z-of_z (rest_fits c)

pub returns-clause-value : goal.returns-clause-value
returns-clause-value c =
    let dividend_fits = c.ranges.dividend in
    let whole_fits = c.ranges.whole in
    let divisor_fits = c.ranges.divisor in
    let product = product_fits c in
    let rest = rest_fits c in
    simp to_z-of_z

pub returns-clause-bound : goal.returns-clause-bound
returns-clause-bound c =
    let dividend_fits = c.ranges.dividend in
    let whole_fits = c.ranges.whole in
    let divisor_fits = c.ranges.divisor in
    let product = product_fits c in
    let rest = rest_fits c in
    let near = short c in
    let small = c.requires.divisor_fits in
    let below : unsigned_abs (c.args.dividend -ℤ c.args.whole *ℤ c.args.divisor) < 2 ^ 31 = omega (arith, near, small) in
    simp to_z-of_z below
