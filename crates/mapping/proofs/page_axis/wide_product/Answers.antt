use Rattle.std.proofs.Common.{◌^◌, arith, ◌*ℤ◌}
use Rattle.std.specs.Prelude.{FitsSigned}
use Rattle.std.specs.Int.{w128}
use Rattle.std.proofs.lemmas.Int.{to_z-of_z, fits_signed_mul, unsigned_abs-mul}
use Rattle.std.proofs.lemmas.Nat.{mul-le}
use Rattle.mapping.proofs.page_axis.wide_product.Goals as goal

-- the product fits, by the bounds of its factors
product_fits : (c : goal.Start) → FitsSigned w128 (c.args.distance *ℤ c.args.extent)
product_fits c = fits_signed_mul w128 c.args.distance c.args.extent (2 ^ 77) (2 ^ 31) c.requires.distance_fits c.requires.extent_fits (omega arith)

pub overflow_mul-result : goal.overflow_mul-result
overflow_mul-result c =
    let a = c.ranges.distance in
    let b = c.ranges.extent in
    simp to_z-of_z (product_fits c)

pub returns-clause-value : goal.returns-clause-value
returns-clause-value c =
    let fits = product_fits c in
    let a = c.ranges.distance in
    let b = c.ranges.extent in
    simp to_z-of_z

pub returns-clause-bound : goal.returns-clause-bound
returns-clause-bound c =
    let fits = product_fits c in
    let a = c.ranges.distance in
    let b = c.ranges.extent in
    simp (to_z-of_z, unsigned_abs-mul) (mul-le _ _ _ _ c.requires.distance_fits c.requires.extent_fits)
