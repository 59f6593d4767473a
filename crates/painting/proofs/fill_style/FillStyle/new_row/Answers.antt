use Rattle.std.proofs.Common.{Option, ap, is_some, sym, ◌∙◌}
use Rattle.mapping.specs.Colours.{black_colour}
use Rattle.mapping.specs.declared.geometry.Colour.{Colour}
use Rattle.raster_ops.specs.BrushRows.{row_paint}
use Rattle.raster_ops.specs.declared.sources.SourceReader.{SourceReader}
use Rattle.painting.specs.Joined.{joined_if}
use Rattle.painting.specs.FillStyles.{colour_of, colour_seen}
use Rattle.painting.proofs.SourceLemmas.{held_seen}
use Rattle.painting.proofs.fill_style.FillStyle.new_row.Goals as goal

pub returns-in-None : goal.returns-in-None
returns-in-None c =
    let paint = c.args.self.now in
    let given = c.brush_row-row.ensures in
    record {
      test = λ x. c.row_op.ensures.test x ∙ ap is_some (given x);
      colour = λ x old low high i.
          c.row_op.ensures.row_op x old low high i
          ∙ ap (λ (p : Option Colour). joined_if paint.operation.op.table black_colour p old) (given x)
          ∙ ap (λ (source : Option SourceReader). joined_if paint.operation.op.table (colour_seen source x c.args.y) (colour_of paint x c.args.y) old) (sym c.in-None.is);
    }

pub returns-in-Some : goal.returns-in-Some
returns-in-Some c =
    let paint = c.args.self.now in
    let table = paint.operation.op.table in
    let row = c.brush_row-row.result in
    let given = c.brush_row-row.ensures in
    let seen = held_seen paint.source c.args.columns c.args.y c.args.sources.now c.requires.seen (ap is_some c.in-Some.is) in
    record {
      test = λ x. c.source_row_op.ensures.test x ∙ ap is_some (given x);
      colour = λ x old low high i.
          c.source_row_op.ensures.row_op x old low high i
          ∙ ap (λ (source : Colour). joined_if table source (row_paint row x) old) (seen x low high)
          ∙ ap (λ (p : Option Colour). joined_if table (colour_seen paint.source x c.args.y) p old) (given x);
    }
