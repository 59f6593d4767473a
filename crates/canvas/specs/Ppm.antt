-- The P6 text of an image, as ppm(5) describes it.
use Rattle.std.specs.Prelude.{◌≡◌, ℕ, List, [], ◌∷◌, ◌++◌, take, codes, decimal, Option}
use Rattle.std.specs.List.{flat_map}
use Rattle.std.specs.Io.KnownBytes.{Appends}
use Rattle.mapping.specs.declared.geometry.Colour.{Colour}
use Rattle.mapping.specs.Image.{Image}
use Rattle.canvas.specs.CanvasState.{CanvasState}

-- the magic number, the width and height in decimal digits, and the greatest sample value
abbrev pub header : ℕ → ℕ → List ℕ
header width height = codes "P6\n" ++ decimal width ++ codes " " ++ decimal height ++ codes "\n255\n"

-- red, green and blue
abbrev pub pixel_bytes : Colour → List ℕ
pixel_bytes colour = colour.r ∷ colour.g ∷ colour.b ∷ []

-- the samples of the colours, one after another
abbrev pub raster : List Colour → List ℕ
raster colours = flat_map pixel_bytes colours

-- the P6 text of an image: the header, followed by the raster row by row
abbrev pub ppm_text : Image → List ℕ
ppm_text image = header image.width image.height ++ raster image.colours

-- the bytes at the start of a piece, followed by the raster of the canvas's rows
abbrev pub rest : ℕ → List ℕ → CanvasState → List ℕ
rest ready piece canvas = take ready piece ++ raster canvas.colours

-- a prefix of the text was appended to the known bytes
pub record AppendsPrefix (old new : Option (List ℕ)) (text : List ℕ) : Type 0 where
  pub sent : List ℕ
  pub unsent : List ℕ
  pub prefix : text ≡ sent ++ unsent
  pub appended : Appends old new sent
