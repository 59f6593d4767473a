-- Which pixels of lines lie in a region, and which remain.
use Rattle.std.specs.Prelude.{ℕ, ◌+◌, ◌-◌, ◌*◌, pos, Bool, ◌&&◌, nat_le, nat_lt, List}
use Rattle.mapping.specs.Mixes.{mixed_by}
use Rattle.mapping.specs.declared.mix.Mix.{Mix}
use Rattle.canvas.specs.CanvasState.{CanvasState}
use Rattle.canvas.specs.Writing.{Repaints}
use Rattle.span_fill.specs.Spans.{in_region}
use Rattle.span_fill.specs.Steps.{StepsState}
use Rattle.span_fill.specs.Strokes.{in_stroke, on_line, step_at}
use Rattle.span_fill.specs.declared.line.Line.{Line}
use Rattle.span_fill.specs.declared.span.Region.{Region}

-- the pixel lies in the region and on the line
abbrev pub is_visible : Region → Line → ℕ → ℕ → Bool
is_visible region line x y = in_region region x y && on_line line (pos x) (pos y)

-- the pixel lies in the region and on the line, at a remaining step
abbrev pub is_to_step : StepsState → ℕ → ℕ → Bool
is_to_step steps x y =
    on_line steps.line (pos x) (pos y)
    && (in_region steps.region x y && (nat_le steps.next (step_at steps.line (pos x) (pos y)) && nat_lt (step_at steps.line (pos x) (pos y)) steps.end))

-- the place of each pixel in a canvas, by the numbers that the steps have for it
abbrev pub place_on : StepsState → ℕ → ℕ → ℕ
place_on steps x y = (y - steps.grid.first) * steps.grid.stride + x

-- the pixels of a region that lie on some lines were mixed, each once
abbrev pub MixesLines : Region → List Line → Mix → CanvasState → CanvasState → Type 0
MixesLines region lines mix old new = Repaints (λ x y. in_region region x y && in_stroke lines x y) (λ x y c. mixed_by mix c) old new
