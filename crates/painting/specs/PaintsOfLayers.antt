-- Paints that implement the paints of layers.
use Rattle.std.specs.Prelude.{◌≡◌, ℕ, is_some}
use Rattle.mapping.specs.Surface.{Surface}
use Rattle.mapping.specs.declared.geometry.Colour.{Colour}
use Rattle.dc_stack.specs.Clip.{placed_clip}
use Rattle.dc_stack.specs.Drawing.{Tools}
use Rattle.preflight_cert.specs.Apply.{mixed_with}
use Rattle.draw_ops.specs.Objects.{BrushValue}
use Rattle.preflight_cert.specs.Layer.{brushed_now}
use Rattle.preflight_cert.specs.Mixing.{binary}
use Rattle.draw_ops.specs.declared.objects.Pen.TheVariants.{Solid}
use Rattle.preflight_cert.specs.Paint.{Paint, paint_at, solid}
use Rattle.painting.specs.FillStyles.{fill_style_paint}
use Rattle.painting.specs.Painted.{PaintValue}
use Rattle.painting.specs.PenStrokes.{stroke_paint}
use Rattle.painting.specs.declared.fill_style.FillStyle.{FillStyle}
use Rattle.painting.specs.declared.stroke.Stroke.{Stroke}

-- a paint writes these colours on a surface, by the raster operation and the clip of the tools
pub record IsPaintOf (colours : Paint) (tools : Tools) (s : Surface) (paint : PaintValue) : Type 0 where
  pub clip : paint.clip ≡ placed_clip s tools.clip
  pub has : (x y : ℕ) → paint.has x y ≡ is_some (paint_at colours s x y)
  pub makes :
      (x y : ℕ) (old : Colour)
      → paint.makes x y old ≡ mixed_with (binary tools.modes.raster_op) s x y (paint_at colours s x y) old

-- a stroke is that of the tools' pen on a surface
pub record IsPenOf (tools : Tools) (s : Surface) (stroke : Stroke) : Type 0 where
  pub width : ℕ
  pub colour : Colour
  pub pen : tools.pen ≡ Solid width colour
  pub paint : IsPaintOf (solid colour) tools s (stroke_paint stroke)

-- a fill style is that of a brush with the tools on a surface
abbrev pub IsFillStyleOf : BrushValue → Tools → Surface → FillStyle → Type 0
IsFillStyleOf brush tools s paint = IsPaintOf (brushed_now brush tools) tools s (fill_style_paint paint)
