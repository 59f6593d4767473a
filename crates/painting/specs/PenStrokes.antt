-- How a pen's stroke changes pixels.
use Rattle.std.specs.Prelude.{ℕ, Bool, ◌&&◌}
use Rattle.mapping.specs.Mixes.{mixed_by}
use Rattle.canvas.specs.CanvasState.{CanvasState}
use Rattle.canvas.specs.Writing.{Repaints}
use Rattle.dc_stack.specs.Clip.{in_boxes}
use Rattle.dc_stack.specs.Values.{placed_value}
use Rattle.span_fill.specs.Steps.{StepsState}
use Rattle.painting.specs.LinePixels.{is_to_step}
use Rattle.painting.specs.Painted.{PaintValue, mixing_paint}
use Rattle.painting.specs.declared.stroke.Stroke.{Stroke}

-- a stroke as a paint, which mixes every pixel
abbrev pub stroke_paint : Stroke → PaintValue
stroke_paint stroke = mixing_paint (placed_value stroke.clip.now) stroke.mix

-- the pixel is one of a remaining step, and the stroke's clip contains it
abbrev pub is_uncut_step : StepsState → Stroke → ℕ → ℕ → Bool
is_uncut_step steps stroke x y = is_to_step steps x y && in_boxes (placed_value stroke.clip.now) x y

-- the pixels of remaining steps that the stroke's clip contains were mixed
abbrev pub MixesUncut : StepsState → Stroke → CanvasState → CanvasState → Type 0
MixesUncut steps stroke old new = Repaints (is_uncut_step steps stroke) (λ x y c. mixed_by stroke.mix c) old new
