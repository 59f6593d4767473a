-- Numbers of two bytes are within the limits of lines.
use Rattle.std.proofs.Common.{FitsSigned, w32, ℕ, pos, ◌<◌, arith, rules}
use Rattle.std.proofs.lemmas.Int.{ints, to_z-of_z}
use Rattle.mapping.specs.Limits.{place_limit}
use Rattle.span_fill.specs.Lines.{IsNear}
use Rattle.part_tests.proofs.row_crossings.line.Goals as goal

small : (n : ℕ) → n < 65536 → IsNear (pos n)
unfolding place_limit
small n h = record { low = omega (arith, ints); high = omega (arith, ints, h) }

pub returns : goal.returns
returns c =
    let near_x : IsNear c.from.result = rw c.from.ensures (small c.args.x c.ranges.x.fits) in
    let near_y : IsNear c.from-2.result = rw c.from-2.ensures (small c.args.y c.ranges.y.fits) in
    let near_end_x : IsNear c.from-3.result = rw c.from-3.ensures (small c.args.end_x c.ranges.end_x.fits) in
    let near_end_y : IsNear c.from-4.result = rw c.from-4.ensures (small c.args.end_y c.ranges.end_y.fits) in
    let column : FitsSigned w32 c.from.result = search rules in
    let row : FitsSigned w32 c.from-2.result = search rules in
    let end_column : FitsSigned w32 c.from-3.result = search rules in
    let end_row : FitsSigned w32 c.from-4.result = search rules in
    simp to_z-of_z (record { from = record { x = near_x; y = near_y }; to = record { x = near_end_x; y = near_end_y } })
