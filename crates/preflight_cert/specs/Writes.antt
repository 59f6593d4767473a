-- Which pixels a layer writes, and how many.
use Rattle.std.specs.Prelude.{ℕ, ◌+◌, Bool, ◌&&◌, List, [], ◌∷◌, is_some}
use Rattle.mapping.specs.Pixels.{count_pixels}
use Rattle.mapping.specs.Surface.{Surface}
use Rattle.dc_stack.specs.Clip.{in_clip}
use Rattle.preflight_cert.specs.Drawings.{NumberedDrawing}
use Rattle.preflight_cert.specs.Layer.{Layer, layers_of}
use Rattle.preflight_cert.specs.Paint.{paint_at}
use Rattle.preflight_cert.specs.Shape.{in_shape}

-- the layer writes the surface's pixel (x, y): the clip and the shape contain it, and the paint has a colour there
abbrev pub writes_pixel : Layer → Surface → ℕ → ℕ → Bool
writes_pixel layer s x y = in_clip layer.clip s x y && in_shape layer.shape s x y && is_some (paint_at layer.paint s x y)

-- how many pixels of some rows, from row `first` on, a layer writes
abbrev pub writes_of_layer : Layer → Surface → ℕ → ℕ → ℕ
writes_of_layer layer s first rows = count_pixels (writes_pixel layer s) s.width first rows

-- how many pixels of some rows several layers write; a pixel that two layers write counts twice
abbrev pub writes_of_layers : List Layer → Surface → ℕ → ℕ → ℕ
writes_of_layers [] s first rows = 0
writes_of_layers (layer ∷ layers) s first rows = writes_of_layer layer s first rows + writes_of_layers layers s first rows

-- how many pixels of some rows several drawings write
abbrev pub writes_of_drawings : List NumberedDrawing → Surface → ℕ → ℕ → ℕ
writes_of_drawings [] s first rows = 0
writes_of_drawings (drawing ∷ later) s first rows =
    writes_of_layers (layers_of drawing.drawing) s first rows + writes_of_drawings later s first rows

-- how many pixels of the whole surface several drawings write
abbrev pub writes_after : List NumberedDrawing → Surface → ℕ
writes_after drawings s = writes_of_drawings drawings s 0 s.height
