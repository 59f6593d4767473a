-- Images whose samples are in a buffer, and the rows of a canvas.
use Rattle.std.specs.Prelude.{ℕ, ◌-◌, ◌*◌, List, take, drop}
use Rattle.mapping.specs.Image.{Image}
use Rattle.mapping.specs.declared.geometry.Colour.{Colour}
use Rattle.canvas.specs.CanvasState.{CanvasState}
use Rattle.canvas.specs.PpmReading.{colours_at}

-- the image of this size whose samples are at the start of a buffer, row by row from the top
abbrev pub image_at : ℕ → ℕ → List ℕ → Image
image_at width height samples = record { width = width; height = height; colours = colours_at (height * width) samples }

-- the colours of the surface's row y in a canvas
abbrev pub row_in : CanvasState → ℕ → List Colour
row_in canvas y = take canvas.width (drop ((y - canvas.first) * canvas.width) canvas.colours)
