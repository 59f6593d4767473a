use Rattle.std.proofs.Common.{◌^◌, ◌≤◌, ℕ, ◌<◌, ◌*◌, arith, ◌*ℤ◌}
use Rattle.std.specs.Prelude.{FitsSigned, unsigned_abs}
use Rattle.std.specs.Int.{w64}
use Rattle.std.proofs.lemmas.Int.{to_z-of_z, fits_signed_mul, unsigned_abs-mul}
use Rattle.std.proofs.lemmas.Nat.{mul-le}
use Rattle.mapping.proofs.fine_axis.times.Goals as goal

-- the greatest number
abbrev most : ℕ
most = 35184372088831

-- the number is at most that
within : (c : goal.Start) → unsigned_abs c.args.number ≤ most
within c = let h = c.requires.number_fits in omega (arith, h)

-- the product fits, by the bounds of its factors
product_fits : (c : goal.Start) → FitsSigned w64 (c.args.number *ℤ c.args.parts)
product_fits c = fits_signed_mul w64 c.args.number c.args.parts most (2 ^ 12) (within c) c.requires.parts_fit (omega arith)

pub returns-clause-value : goal.returns-clause-value
returns-clause-value c =
    let fits = product_fits c in
    let a = c.ranges.number in
    let b = c.ranges.parts in
    simp to_z-of_z

-- the absolute value of the product is at most the product of the bounds
below : (c : goal.Start) (bound : ℕ) → unsigned_abs c.args.number ≤ bound → unsigned_abs (c.args.number *ℤ c.args.parts) ≤ bound * 2 ^ 12
below c bound within = rw (unsigned_abs-mul c.args.number c.args.parts) (mul-le _ _ _ _ within c.requires.parts_fit)

pub returns-clause-bound : goal.returns-clause-bound
returns-clause-bound c =
    let fits = product_fits c in
    let a = c.ranges.number in
    let b = c.ranges.parts in
    let h = below c most (within c) in
    let small : unsigned_abs (c.args.number *ℤ c.args.parts) < 2 ^ 57 = omega (arith, h) in
    simp to_z-of_z small

pub returns-clause-short : goal.returns-clause-short
returns-clause-short c near =
    let fits = product_fits c in
    let a = c.ranges.number in
    let b = c.ranges.parts in
    let h = below c 4294967295 (omega (arith, near)) in
    let small : unsigned_abs (c.args.number *ℤ c.args.parts) < 2 ^ 44 = omega (arith, h) in
    simp to_z-of_z small
