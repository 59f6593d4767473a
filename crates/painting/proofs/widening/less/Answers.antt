-- Numbers within these limits fit 32 bits.
use Rattle.std.proofs.Common.{◌-ℤ◌, FitsSigned, w32, arith}
use Rattle.std.proofs.lemmas.Int.{ints, fits_signed_from_abs, to_z-of_z}
use Rattle.mapping.specs.Limits.{place_limit}
use Rattle.painting.proofs.widening.less.Goals as goal

fits : (c : goal.Start) → FitsSigned w32 (c.args.edge -ℤ c.args.count)
unfolding place_limit
fits c =
    let low = c.requires.near.low in
    let high = c.requires.near.high in
    let some = c.requires.some in
    let few = c.requires.few in
    fits_signed_from_abs w32 (c.args.edge -ℤ c.args.count) (omega (arith, ints, low, high, some, few))

pub overflow_sub-result : goal.overflow_sub-result
overflow_sub-result c =
    let edge : FitsSigned w32 c.args.edge = c.ranges.edge in
    let count : FitsSigned w32 c.args.count = c.ranges.count in
    simp to_z-of_z (fits c)

pub returns : goal.returns
returns c =
    let edge : FitsSigned w32 c.args.edge = c.ranges.edge in
    let count : FitsSigned w32 c.args.count = c.ranges.count in
    let sum = fits c in
    simp to_z-of_z
