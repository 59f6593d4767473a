-- The rows in which lines have pixels.
use Rattle.std.specs.Prelude.{◌≡◌, ◌⊎◌, ℕ, ℤ, pos, ◌≤ℤ◌, ◌<ℤ◌, false, List, All}
use Rattle.span_fill.specs.Fill.{in_fill}
use Rattle.span_fill.specs.Strokes.{in_stroke}
use Rattle.span_fill.specs.declared.fill_rule.FillRule.{FillRule}
use Rattle.span_fill.specs.declared.line.Line.{Line}

-- both ends of a line lie between two rows, inclusive
pub record LiesBetween (first last : ℤ) (line : Line) : Type 0 where
  pub from_first : first ≤ℤ line.from.y
  pub from_last : line.from.y ≤ℤ last
  pub to_first : first ≤ℤ line.to.y
  pub to_last : line.to.y ≤ℤ last

-- lines have no pixels above or below the rows in which they lie, and polygons have none above or below those of their
-- lines
pub record RowLaws : Type 0 where
  pub fill :
      (rule : FillRule) (lines : List Line) (first last : ℤ) (x y : ℕ) → All (LiesBetween first last) lines
      → (pos y <ℤ first) ⊎ (last <ℤ pos y) → in_fill rule lines x y ≡ false
  pub stroke :
      (lines : List Line) (first last : ℤ) (x y : ℕ) → All (LiesBetween first last) lines
      → (pos y <ℤ first) ⊎ (last <ℤ pos y) → in_stroke lines x y ≡ false
