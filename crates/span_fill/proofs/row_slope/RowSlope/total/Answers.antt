-- The three parts are small.
use Rattle.std.proofs.Common.{◌+◌, ◌^◌, ◌≤◌, ℤ, ◌+ℤ◌, arith, refl, rules, FitsSigned}
use Rattle.std.specs.Prelude.{unsigned_abs}
use Rattle.std.specs.Int.{w32, w64}
use Rattle.std.proofs.lemmas.Int.{ints, fits_signed_from_abs, to_z-of_z}
use Rattle.span_fill.proofs.row_slope.RowSlope.total.Goals as goal

two_fit : (a b : ℤ) → unsigned_abs a ≤ 2 ^ 59 + 2 ^ 46 → unsigned_abs b ≤ 2 ^ 31 → FitsSigned w64 (a +ℤ b)
two_fit a b h k = fits_signed_from_abs w64 (a +ℤ b) (omega (arith, ints))

three_fit : (a b d : ℤ) → unsigned_abs a ≤ 2 ^ 59 + 2 ^ 46 → unsigned_abs b ≤ 2 ^ 31 → unsigned_abs d ≤ 2 ^ 59 + 2 ^ 46 → FitsSigned w64 (a +ℤ b +ℤ d)
three_fit a b d h k m = fits_signed_from_abs w64 (a +ℤ b +ℤ d) (omega (arith, ints))

pub overflow_add-result : goal.overflow_add-result
overflow_add-result c =
    let base : FitsSigned w64 c.args.self.base = search rules in
    let down : FitsSigned w64 c.down.result = search rules in
    simp to_z-of_z (two_fit c.down.result c.args.self.base c.down.ensures.bound c.requires.small.base)

pub overflow_add-result-2 : goal.overflow_add-result-2
overflow_add-result-2 c =
    let base : FitsSigned w64 c.args.self.base = search rules in
    let down : FitsSigned w64 c.down.result = search rules in
    let across : FitsSigned w64 c.across.result = search rules in
    let two = two_fit c.down.result c.args.self.base c.down.ensures.bound c.requires.small.base in
    simp to_z-of_z (three_fit c.down.result c.args.self.base c.across.result c.down.ensures.bound c.requires.small.base c.across.ensures.bound)

pub returns-clause-value : goal.returns-clause-value
returns-clause-value c =
    let base : FitsSigned w64 c.args.self.base = search rules in
    let down : FitsSigned w64 c.down.result = search rules in
    let across : FitsSigned w64 c.across.result = search rules in
    let x : FitsSigned w32 c.args.from.x = search rules in
    let y : FitsSigned w32 c.args.from.y = search rules in
    let row : FitsSigned w64 c.args.row = search rules in
    let two = two_fit c.down.result c.args.self.base c.down.ensures.bound c.requires.small.base in
    let three = three_fit c.down.result c.args.self.base c.across.result c.down.ensures.bound c.requires.small.base c.across.ensures.bound in
    let down_is = simp to_z-of_z at c.down.ensures.value in
    let across_is = simp to_z-of_z at c.across.ensures.value in
    simp to_z-of_z (rw (down_is, across_is) refl)

three_small : (a b d : ℤ) → unsigned_abs a ≤ 2 ^ 59 + 2 ^ 46 → unsigned_abs b ≤ 2 ^ 31 → unsigned_abs d ≤ 2 ^ 59 + 2 ^ 46 → unsigned_abs (a +ℤ b +ℤ d) ≤ 2 ^ 60 + 2 ^ 50
three_small a b d h k m = omega (arith, ints)

pub returns-clause-bound : goal.returns-clause-bound
returns-clause-bound c =
    let base : FitsSigned w64 c.args.self.base = search rules in
    let down : FitsSigned w64 c.down.result = search rules in
    let across : FitsSigned w64 c.across.result = search rules in
    let two = two_fit c.down.result c.args.self.base c.down.ensures.bound c.requires.small.base in
    let three = three_fit c.down.result c.args.self.base c.across.result c.down.ensures.bound c.requires.small.base c.across.ensures.bound in
    simp to_z-of_z (three_small c.down.result c.args.self.base c.across.result c.down.ensures.bound c.requires.small.base c.across.ensures.bound)
