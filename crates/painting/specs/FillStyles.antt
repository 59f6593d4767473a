-- Fill styles as paints.
use Rattle.std.specs.Prelude.{ℕ, Bool, List, Option, Some, None, is_some}
use Rattle.mapping.specs.Colours.{black_colour}
use Rattle.mapping.specs.declared.geometry.Colour.{Colour}
use Rattle.dib_views.specs.PictureOf.{picture_of}
use Rattle.dib_views.specs.Pictures.{picture_colour}
use Rattle.draw_ops.specs.Objects.{brush_value_of}
use Rattle.dc_stack.specs.Values.{placed_value}
use Rattle.preflight_cert.specs.Shape.{fill_rule_of}
use Rattle.raster_ops.specs.Paints.{brush_paint}
use Rattle.raster_ops.specs.Readers.{column_read, row_read}
use Rattle.raster_ops.specs.declared.sources.SourceReader.{SourceReader}
use Rattle.span_fill.specs.Fill.{in_fill}
use Rattle.span_fill.specs.declared.line.Line.{Line}
use Rattle.painting.specs.Joined.{joined_if}
use Rattle.painting.specs.Painted.{PaintValue}
use Rattle.painting.specs.declared.fill_style.FillStyle.{FillStyle}

-- the brush's colour at a pixel, if any
abbrev pub colour_of : FillStyle → ℕ → ℕ → Option Colour
colour_of paint x y = brush_paint (brush_value_of paint.brush) paint.modes.background_mode paint.modes.background_colour x y

-- the source colour at a pixel; black if there is no source
abbrev pub colour_seen : Option SourceReader → ℕ → ℕ → Colour
colour_seen None x y = black_colour
colour_seen (Some reader) x y = picture_colour (picture_of reader.picture) (column_read reader x) (row_read reader y)

-- a fill style as a paint: it writes where the brush has a colour, and combines that with the source colour and the old
-- colour
abbrev pub fill_style_paint : FillStyle → PaintValue
fill_style_paint paint = record {
  clip = placed_value paint.clip.now;
  has = λ x y. is_some (colour_of paint x y);
  makes = λ x y old. joined_if paint.operation.op.table (colour_seen paint.source x y) (colour_of paint x y) old;
}

-- the pixel is inside the lines, by the fill mode of the style
abbrev pub in_inside : FillStyle → List Line → ℕ → ℕ → Bool
in_inside paint lines = in_fill (fill_rule_of paint.modes.fill_mode) lines
