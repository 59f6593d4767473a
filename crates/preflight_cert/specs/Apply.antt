-- How layers change an image, pixel by pixel.
use Rattle.std.specs.Prelude.{ℕ, List, [], ◌∷◌, Option, Some, None}
use Rattle.mapping.specs.Pixels.{repainted}
use Rattle.mapping.specs.declared.geometry.Colour.{Colour}
use Rattle.mapping.specs.Image.{Image}
use Rattle.mapping.specs.Surface.{Surface}
use Rattle.preflight_cert.specs.Drawings.{NumberedDrawing}
use Rattle.preflight_cert.specs.Layer.{Layer, layers_of}
use Rattle.preflight_cert.specs.Mixing.{Mixing, mixed}
use Rattle.preflight_cert.specs.Paint.{paint_at}
use Rattle.preflight_cert.specs.Writes.{writes_pixel}

-- the result of the paint on the old colour, if the paint has a colour there
abbrev pub mixed_with : Mixing → Surface → ℕ → ℕ → Option Colour → Colour → Colour
mixed_with mixing s x y None old = old
mixed_with mixing s x y (Some paint) old = mixed mixing s x y paint old

-- the new colour of a pixel that the layer writes
abbrev pub ink_of : Layer → Surface → ℕ → ℕ → Colour → Colour
ink_of layer s x y old = mixed_with layer.mixing s x y (paint_at layer.paint s x y) old

-- the image of rows of a surface, from row `first` on, after a layer: the pixels that the layer writes are changed, the
-- others are unchanged
abbrev pub apply : Layer → Surface → ℕ → Image → Image
apply layer s first image = record {
  width = image.width;
  height = image.height;
  colours = repainted (writes_pixel layer s) (ink_of layer s) image.width first image.colours;
}

-- the image of these rows after several layers, in order
abbrev pub apply_all : List Layer → Surface → ℕ → Image → Image
apply_all [] s first image = image
apply_all (layer ∷ layers) s first image = apply_all layers s first (apply layer s first image)

-- the image of these rows after several drawings, in order
abbrev pub rows_after : List NumberedDrawing → Surface → ℕ → Image → Image
rows_after [] s first image = image
rows_after (drawing ∷ later) s first image = rows_after later s first (apply_all (layers_of drawing.drawing) s first image)

-- the image of the whole surface after several drawings
abbrev pub image_after : List NumberedDrawing → Surface → Image → Image
image_after drawings s image = rows_after drawings s 0 image
