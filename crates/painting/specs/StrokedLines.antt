-- Strokes of lines by a nib, and the regions that contain everything visible of them.
use Rattle.std.specs.Prelude.{List}
use Rattle.mapping.specs.declared.nib.Nib.{Nib}
use Rattle.canvas.specs.CanvasState.{CanvasState}
use Rattle.dc_stack.specs.Values.{placed_value}
use Rattle.span_fill.specs.WideStrokes.{in_wide_stroke}
use Rattle.span_fill.specs.declared.line.Line.{Line}
use Rattle.span_fill.specs.declared.span.Region.{Region}
use Rattle.painting.specs.Painted.{PaintsShape}
use Rattle.painting.specs.PenStrokes.{stroke_paint}
use Rattle.painting.specs.Regions.{HasVisible}
use Rattle.painting.specs.declared.stroke.Stroke.{Stroke}

-- the pixels that a nib covers along the lines were painted by a stroke
abbrev pub StrokesLines : Nib → Stroke → List Line → CanvasState → CanvasState → Type 0
StrokesLines nib stroke lines old new = PaintsShape (stroke_paint stroke) (in_wide_stroke nib lines) old new

-- a region of a canvas contains everything that is visible of a stroke under its clip
abbrev pub HasStroke : Nib → Stroke → List Line → CanvasState → Region → Type 0
HasStroke nib stroke lines canvas region = HasVisible (placed_value stroke.clip.now) (in_wide_stroke nib lines) canvas region
