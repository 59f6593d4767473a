use Rattle.std.proofs.Common.{◌<◌, ◌%◌, ◌∙◌, arith, refl}
use Rattle.raster_ops.proofs.HatchLemmas.{either_cells, first_cell}
use Rattle.raster_ops.proofs.hatches.hatch_cells.Goals as goal

pub returns-in-Vertical : goal.returns-in-Vertical
returns-in-Vertical c = λ x. rw c.in-Vertical.is (first_cell (x % 8) (omega arith))

pub returns-in-Cross : goal.returns-in-Cross
returns-in-Cross c = λ x.
    let m : x % 8 < 8 = omega arith in
    rw c.in-Cross.is (either_cells c.horizontal-in-Cross.result 1 (x % 8) ∙ rw (c.horizontal-in-Cross.ensures (x % 8) m, first_cell (x % 8) m) refl)

pub returns-in-DiagonalCross : goal.returns-in-DiagonalCross
returns-in-DiagonalCross c = λ x.
    let m : x % 8 < 8 = omega arith in
    rw c.in-DiagonalCross.is (either_cells c.forward-in-DiagonalCross.result c.backward-in-DiagonalCross.result (x % 8) ∙ rw (c.forward-in-DiagonalCross.ensures (x % 8) m, c.backward-in-DiagonalCross.ensures (x % 8) m) refl)
