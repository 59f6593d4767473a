-- The steps of a line within a region.
use Rattle.std.specs.Prelude.{◌≡◌, ℕ, suc, ◌<◌, ◌≤◌, pos, IsTrue, Option, Some, None}
use Rattle.span_fill.specs.Spans.{in_region}
use Rattle.span_fill.specs.Strokes.{on_line, step_at}
use Rattle.span_fill.specs.Numberings.{number_of}
use Rattle.span_fill.specs.declared.grid.Grid.{Grid}
use Rattle.span_fill.specs.declared.line.Line.{Line}
use Rattle.span_fill.specs.declared.pixel.NumberedPixel.{NumberedPixel}
use Rattle.span_fill.specs.declared.pixel.Pixel.{Pixel}
use Rattle.span_fill.specs.declared.span.Region.{Region}

-- a line, a region, the numbers of its pixels, and the remaining steps: from `next` to before `end`
pub record StepsState : Type 0 where
  pub line : Line
  pub region : Region
  pub grid : Grid
  pub next : ℕ
  pub end : ℕ

-- each pixel of the line in the region is that of a remaining step
pub record HasAllSteps (steps : StepsState) : Type 0 where
  pub from :
      (x y : ℕ) → IsTrue (on_line steps.line (pos x) (pos y)) → IsTrue (in_region steps.region x y)
      → steps.next ≤ step_at steps.line (pos x) (pos y)
  pub to :
      (x y : ℕ) → IsTrue (on_line steps.line (pos x) (pos y)) → IsTrue (in_region steps.region x y)
      → step_at steps.line (pos x) (pos y) < steps.end

-- the line has the pixel at this step, and it lies in the region
pub record IsStepPixel (line : Line) (region : Region) (step : ℕ) (pixel : Pixel) : Type 0 where
  pub on : IsTrue (on_line line (pos pixel.x) (pos pixel.y))
  pub at : step_at line (pos pixel.x) (pos pixel.y) ≡ step
  pub inside : IsTrue (in_region region pixel.x pixel.y)

-- the line, the region, the numbers and the last step are the same
pub record IsSameWay (old new : StepsState) : Type 0 where
  pub line : new.line ≡ old.line
  pub region : new.region ≡ old.region
  pub grid : new.grid ≡ old.grid
  pub end : new.end ≡ old.end

-- the next step is taken, if there is one, and its pixel is returned
pub record TakesStep (old new : StepsState) (pixel : Pixel) : Type 0 where
  pub more : old.next < old.end
  pub given : IsStepPixel old.line old.region old.next pixel
  pub next : new.next ≡ suc old.next
  pub same : IsSameWay old new

-- the pixel of the next step is returned; or nothing, if no step remains, and then nothing changes
abbrev pub GivesPixel : StepsState → Option Pixel → StepsState → Type 0
GivesPixel old None new = (old.end ≤ old.next) × (new ≡ old)
GivesPixel old (Some pixel) new = TakesStep old new pixel

-- the next step is taken, and its pixel is returned with its number
pub record TakesNumbered (old new : StepsState) (numbered : NumberedPixel) : Type 0 where
  pub takes : TakesStep old new numbered.pixel
  pub number : numbered.number ≡ number_of old.grid (pos numbered.pixel.x) (pos numbered.pixel.y)

-- the pixel of the next step is returned with its number; or nothing, if no step remains, and then nothing changes
abbrev pub GivesNumbered : StepsState → Option NumberedPixel → StepsState → Type 0
GivesNumbered old None new = (old.end ≤ old.next) × (new ≡ old)
GivesNumbered old (Some numbered) new = TakesNumbered old new numbered
