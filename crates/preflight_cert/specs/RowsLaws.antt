-- Parts of a surface's rows can be drawn separately.
use Rattle.std.specs.Prelude.{◌≡◌, ◌≤◌, ℕ, ◌+◌, ◌*◌, List, ◌++◌, length}
use Rattle.mapping.specs.Image.{Image}
use Rattle.mapping.specs.Surface.{Surface}
use Rattle.preflight_cert.specs.Apply.{apply_all, rows_after}
use Rattle.preflight_cert.specs.Drawings.{NumberedDrawing}
use Rattle.preflight_cert.specs.Layer.{Layer}
use Rattle.preflight_cert.specs.Writes.{writes_of_drawings, writes_of_layers}

-- an image has columns, and a colour for each pixel
pub record IsWholeImage (image : Image) : Type 0 where
  pub wide : 1 ≤ image.width
  pub whole : length image.colours ≡ image.height * image.width

-- an image's rows, followed by those of another of the same width
abbrev pub laid : Image → Image → Image
laid upper lower = record { width = upper.width; height = upper.height + lower.height; colours = upper.colours ++ lower.colours }

-- an image has the size of another, and a colour for each pixel if the other has
pub record HasDimensionsOf (old new : Image) : Type 0 where
  pub width : new.width ≡ old.width
  pub height : new.height ≡ old.height
  pub whole : IsWholeImage old → IsWholeImage new

-- Drawing on two consecutive parts of some rows separately gives the same image as drawing on all of these rows at
-- once, for layers and for drawings, and the writes on the parts add up. Drawing doesn't change the size.
pub record RowsLaws : Type 0 where
  pub layers :
      (layers : List Layer) (s : Surface) (first : ℕ) (upper lower : Image) → IsWholeImage upper → lower.width ≡ upper.width
      → apply_all layers s first (laid upper lower) ≡ laid (apply_all layers s first upper) (apply_all layers s (first + upper.height) lower)
  pub drawings :
      (drawings : List NumberedDrawing) (s : Surface) (first : ℕ) (upper lower : Image) → IsWholeImage upper → lower.width ≡ upper.width
      → rows_after drawings s first (laid upper lower) ≡ laid (rows_after drawings s first upper) (rows_after drawings s (first + upper.height) lower)
  pub dimensions : (drawings : List NumberedDrawing) (s : Surface) (first : ℕ) (image : Image) → HasDimensionsOf image (rows_after drawings s first image)
  pub layer_writes :
      (layers : List Layer) (s : Surface) (first rows more : ℕ)
      → writes_of_layers layers s first (rows + more) ≡ writes_of_layers layers s first rows + writes_of_layers layers s (first + rows) more
  pub writes :
      (drawings : List NumberedDrawing) (s : Surface) (first rows more : ℕ)
      → writes_of_drawings drawings s first (rows + more) ≡ writes_of_drawings drawings s first rows + writes_of_drawings drawings s (first + rows) more
