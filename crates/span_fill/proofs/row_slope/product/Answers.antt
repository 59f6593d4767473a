-- The product is within the product of the bounds.
use Rattle.std.proofs.Common.{◌+◌, ◌^◌, arith, ◌*ℤ◌}
use Rattle.std.specs.Prelude.{FitsSigned}
use Rattle.std.specs.Int.{w64}
use Rattle.std.proofs.lemmas.Int.{to_z-of_z, fits_signed_mul, unsigned_abs-mul}
use Rattle.std.proofs.lemmas.Nat.{mul-le}
use Rattle.span_fill.proofs.row_slope.product.Goals as goal

product_fits : (c : goal.Start) → FitsSigned w64 (c.args.a *ℤ c.args.b)
product_fits c = fits_signed_mul w64 c.args.a c.args.b (2 ^ 31) (2 ^ 28 + 2 ^ 15) c.requires.a c.requires.b (omega arith)

pub overflow_mul-result : goal.overflow_mul-result
overflow_mul-result c =
    let a = c.ranges.a in
    let b = c.ranges.b in
    simp to_z-of_z (product_fits c)

pub returns-clause-value : goal.returns-clause-value
returns-clause-value c =
    let fits = product_fits c in
    let a = c.ranges.a in
    let b = c.ranges.b in
    simp to_z-of_z

pub returns-clause-bound : goal.returns-clause-bound
returns-clause-bound c =
    let fits = product_fits c in
    let a = c.ranges.a in
    let b = c.ranges.b in
    simp (to_z-of_z, unsigned_abs-mul) (mul-le _ _ _ _ c.requires.a c.requires.b)
