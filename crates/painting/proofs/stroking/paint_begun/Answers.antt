use Rattle.std.proofs.Common.{refl}
use Rattle.span_fill.specs.WideStrokes.{in_wide_stroke}
use Rattle.painting.specs.PenStrokes.{stroke_paint}
use Rattle.painting.proofs.VisibleLemmas.{painted_same}
use Rattle.painting.proofs.stroking.paint_begun.Goals as goal

pub returns-clause-pixels : goal.returns-clause-pixels
returns-clause-pixels c =
    painted_same c.writing_law.ensures _ (stroke_paint c.args.stroke.now) (in_wide_stroke c.args.stroke.now.nib c.args.scratch.now.rows.lines) c.args.canvas.now c.paint_rows.new.canvas c.whole_law.ensures.whole
    (record { clip = refl; has = λ x y. c.full.ensures.test x; makes = λ x y old has. c.full.ensures.row_op x old })
    c.paint_rows.ensures.pixels
