-- Reading and writing P6 texts.
use Rattle.std.specs.Prelude.{◌≡◌, ◌↔◌, ℕ, ◌*◌, List, length, Some}
use Rattle.mapping.specs.Image.{Image}
use Rattle.mapping.specs.Limits.{IsSurfaceSide}
use Rattle.canvas.specs.Ppm.{ppm_text}
use Rattle.canvas.specs.PpmReading.{IsPpm, read_ppm}

-- a surface can have this image
pub record IsSurfaceImage (image : Image) : Type 0 where
  pub wide : IsSurfaceSide image.width
  pub high : IsSurfaceSide image.height
  pub whole : length image.colours ≡ image.height * image.width

-- Reading returns exactly the image that the text describes, and the text that is written for an image is read as that
-- image.
pub record PpmLaws : Type 0 where
  pub reads : (text : List ℕ) (image : Image) → read_ppm text ≡ Some image ↔ IsPpm text image
  pub reads_back : (image : Image) → IsSurfaceImage image → read_ppm (ppm_text image) ≡ Some image
