-- How large the numbers of a row are.
use Rattle.std.proofs.Common.{◌+◌, ◌^◌, ◌≤◌, ℤ, ◌-ℤ◌, ◌*ℤ◌, arith}
use Rattle.std.specs.Prelude.{unsigned_abs}
use Rattle.std.proofs.lemmas.Int.{ints, unsigned_abs-mul}
use Rattle.std.proofs.lemmas.Nat.{mul-le}
use Rattle.mapping.specs.declared.geometry.Point.{Point}
use Rattle.span_fill.specs.Lines.{HasNearEnds}
use Rattle.span_fill.specs.RowSlopes.{IsSmallRowSlope, total_of}
use Rattle.span_fill.specs.declared.line.Line.{Line}
use Rattle.span_fill.specs.declared.row_slope.RowSlope.{RowSlope}
use Rattle.span_fill.proofs.MajorLineLemmas.{near_place}

-- the numbers of a row are small
product_small : (a b : ℤ) → unsigned_abs a ≤ 2 ^ 31 → unsigned_abs b ≤ 2 ^ 28 + 2 ^ 15 → unsigned_abs (a *ℤ b) ≤ 2 ^ 59 + 2 ^ 46
product_small a b h k = rw (unsigned_abs-mul a b) (mul-le _ _ _ _ h k)

pub total_small : (slope : RowSlope) (start : Point) (row : ℤ) → IsSmallRowSlope slope → unsigned_abs start.x ≤ 2 ^ 28 + 1 → unsigned_abs start.y ≤ 2 ^ 28 + 1 → unsigned_abs row ≤ 2 ^ 14 → unsigned_abs (total_of slope start row) ≤ 2 ^ 60 + 2 ^ 50
total_small slope start row small x y seen =
    let divisor_low = small.divisor_low in
    let divisor_high = small.divisor_high in
    let down = product_small slope.step (row -ℤ start.y) small.step (omega (arith, ints, y, seen)) in
    let across = product_small slope.divisor start.x (omega (arith, ints, divisor_low, divisor_high)) (omega (arith, ints, x)) in
    let base = small.base in
    omega (arith, ints, down, across, base)

pub near_small : (line : Line) → HasNearEnds line → (unsigned_abs line.from.x ≤ 2 ^ 28 + 1) × (unsigned_abs line.from.y ≤ 2 ^ 28 + 1)
near_small line near =
    let x = near_place line.from.x near.from.x in
    let y = near_place line.from.y near.from.y in
    let x_low = x.low in
    let x_high = x.high in
    let y_low = y.low in
    let y_high = y.high in
    (omega (arith, ints, x_low, x_high), omega (arith, ints, y_low, y_high))
