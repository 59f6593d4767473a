-- Boxes that contain lines, and thus their pixels.
use Rattle.std.specs.Prelude.{◌≡◌, ℕ, ◌+◌, true, if◌then◌else◌, List, [], ◌∷◌}
use Rattle.std.specs.List.{All}
use Rattle.mapping.specs.Boxes.{HasPoint}
use Rattle.mapping.specs.PixelBoxes.{BoxHasPixel}
use Rattle.mapping.specs.declared.geometry.Rect.{Rect}
use Rattle.span_fill.specs.Fill.{has_row, in_fill}
use Rattle.span_fill.specs.Strokes.{in_stroke}
use Rattle.span_fill.specs.declared.fill_rule.FillRule.{FillRule}
use Rattle.span_fill.specs.declared.line.Line.{Line}

-- a box contains both ends of a line
pub record HasLine (box : Rect) (line : Line) : Type 0 where
  pub from : HasPoint box line.from
  pub to : HasPoint box line.to

-- how many lines run downwards, or upwards, across the centre of a row
abbrev pub met_downwards : List Line → ℕ → ℕ
met_downwards [] y = 0
met_downwards (line ∷ lines) y = (if has_row line.from line.to y then 1 else 0) + met_downwards lines y

abbrev pub met_upwards : List Line → ℕ → ℕ
met_upwards [] y = 0
met_upwards (line ∷ lines) y = (if has_row line.to line.from y then 1 else 0) + met_upwards lines y

-- as many lines run downwards as upwards across each row, as for closed polygons
abbrev pub IsBalanced : List Line → Type 0
IsBalanced lines = (y : ℕ) → met_downwards lines y ≡ met_upwards lines y

-- A box that contains lines contains their pixels, and a box that contains closed polygons contains the pixels inside
-- them.
pub record LineBoxLaws : Type 0 where
  pub stroke : (box : Rect) (lines : List Line) (x y : ℕ) → All (HasLine box) lines → in_stroke lines x y ≡ true → BoxHasPixel box x y
  pub fill :
      (rule : FillRule) (box : Rect) (lines : List Line) (x y : ℕ) → IsBalanced lines → All (HasLine box) lines
      → in_fill rule lines x y ≡ true → BoxHasPixel box x y
