-- Rows on which a drawing has nothing.
use Rattle.std.specs.Prelude.{◌≡◌, ◌⊎◌, ◌≤◌, ℕ, ◌+◌, pos, ◌≤ℤ◌, ◌<ℤ◌}
use Rattle.std.specs.List.{All}
use Rattle.mapping.specs.Boxes.{HasPoint}
use Rattle.mapping.specs.Image.{Image}
use Rattle.mapping.specs.PlacingLaws.{ShowsFrame}
use Rattle.mapping.specs.Surface.{Surface}
use Rattle.mapping.specs.declared.geometry.Rect.{Rect}
use Rattle.dc_stack.specs.Clip.{placed_box}
use Rattle.dc_stack.specs.Drawing.{Drawing, drawing_nib, drawing_points}
use Rattle.span_fill.specs.WideStrokes.{widened}
use Rattle.preflight_cert.specs.Apply.{apply_all}
use Rattle.preflight_cert.specs.Layer.{layers_of}
use Rattle.preflight_cert.specs.RowsLaws.{IsWholeImage}
use Rattle.preflight_cert.specs.Writes.{writes_of_layers}

-- a box of a surface, including its bottom, ends above these rows or begins below them
abbrev pub LiesOutside : Rect → ℕ → ℕ → Type 0
LiesOutside box first rows = box.b <ℤ pos first ⊎ pos (first + rows) ≤ℤ box.t

-- Take a box of the plane that contains a drawing's points. If that box, placed on the surface and widened by the
-- drawing's nib, lies outside some rows, the drawing leaves these rows unchanged and writes none of their pixels.
pub record MissedRowsLaws : Type 0 where
  pub image :
      (drawing : Drawing) (box : Rect) (s : Surface) (first : ℕ) (image : Image) → ShowsFrame s → All (HasPoint box) (drawing_points drawing)
      → IsWholeImage image → LiesOutside (widened (drawing_nib drawing s) (placed_box s box)) first image.height → apply_all (layers_of drawing) s first image ≡ image
  pub writes :
      (drawing : Drawing) (box : Rect) (s : Surface) (first rows : ℕ) → ShowsFrame s → All (HasPoint box) (drawing_points drawing)
      → 1 ≤ s.width → LiesOutside (widened (drawing_nib drawing s) (placed_box s box)) first rows → writes_of_layers (layers_of drawing) s first rows ≡ 0
