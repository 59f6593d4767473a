-- What the code paints for a blit.
use Rattle.std.specs.Prelude.{◌≡◌, ℕ, Bool, ◌&&◌, if◌then◌else◌, Option, Some, is_some}
use Rattle.mapping.specs.Colours.{black_colour}
use Rattle.mapping.specs.declared.geometry.Colour.{Colour}
use Rattle.mapping.specs.declared.geometry.Point.{Point}
use Rattle.canvas.specs.CanvasState.{CanvasState}
use Rattle.canvas.specs.Writing.{Repaints}
use Rattle.draw_ops.specs.Blits.{SourceValue, source_of}
use Rattle.draw_ops.specs.Objects.{brush_value_of}
use Rattle.draw_ops.specs.declared.ternary_op.TernaryOp.{TernaryOp}
use Rattle.raster_ops.specs.Paints.{brush_paint}
use Rattle.raster_ops.specs.Sources.{source_colour}
use Rattle.raster_ops.specs.TernaryOps.{uses_pattern, ternary_colour}
use Rattle.mapping.specs.PixelBoxes.{in_box}
use Rattle.dc_stack.specs.Clip.{in_boxes}
use Rattle.raster_ops.specs.declared.sources.SourceReader.{SourceReader}
use Rattle.mapping.specs.Boxes.{box_between}
use Rattle.mapping.specs.Surface.{Surface, placed_point}
use Rattle.dc_stack.specs.Values.{placed_value}
use Rattle.dc_stack.specs.declared.dc.Dc.{Dc}
use Rattle.dc_stack.specs.declared.draw.PlaneBlit.{PlaneBlit}
use Rattle.painting.specs.FillStyles.{colour_seen}
use Rattle.painting.specs.Joined.{joined_if}

-- the brush's colour at a pixel, if any; black if the operation doesn't depend on the pattern
abbrev pub blit_colour : TernaryOp → Dc → ℕ → ℕ → Option Colour
blit_colour operation dc x y =
    if uses_pattern operation.table
    then brush_paint (brush_value_of dc.selected.brush) dc.modes.background_mode dc.modes.background_colour x y
    else Some black_colour

-- a blit writes the pixel: it lies in the box, the clip contains it, and the brush has a colour there
abbrev pub blit_paints : PlaneBlit → Surface → Dc → ℕ → ℕ → Bool
blit_paints blit s dc x y =
    in_boxes (placed_value dc.clip) x y && in_box (box_between (placed_point blit.first s) (placed_point blit.second s)) x y && is_some (blit_colour blit.operation dc x y)

-- the new colour of a pixel that a blit writes
abbrev pub blit_made : PlaneBlit → Surface → Dc → ℕ → ℕ → Colour → Colour
blit_made blit s dc x y old =
    joined_if blit.operation.table (source_colour (source_of blit.source) (placed_point blit.first s) (placed_point blit.second s) x y) (blit_colour blit.operation dc x y) old

-- a blit was painted
abbrev pub PaintsBlit : PlaneBlit → Surface → Dc → CanvasState → CanvasState → Type 0
PaintsBlit blit s dc old new = Repaints (blit_paints blit s dc) (blit_made blit s dc) old new

-- the operation gives the same result with a reader's colours as with the colours of a source between two corners
abbrev pub SeesAs : ℕ → Option SourceReader → Option SourceValue → Point → Point → Type 0
SeesAs table reader source first second =
    (x y : ℕ) (paint old : Colour)
    → ternary_colour table paint (colour_seen reader x y) old ≡ ternary_colour table paint (source_colour source first second x y) old
