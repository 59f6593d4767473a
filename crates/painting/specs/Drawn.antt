-- How a drawing changes a canvas.
use Rattle.std.specs.Prelude.{◌≡◌, ◌≤◌, ◌+◌, List, Option}
use Rattle.mapping.specs.Surface.{Surface}
use Rattle.canvas.specs.CanvasState.{CanvasState, image_of}
use Rattle.dc_stack.specs.Drawing.{Drawing}
use Rattle.preflight_cert.specs.Apply.{apply_all}
use Rattle.preflight_cert.specs.Layer.{Layer, layers_if_drawn}
use Rattle.preflight_cert.specs.Writes.{writes_of_layers}

-- the canvas has rows of a surface
pub record HoldsRows (canvas : CanvasState) (s : Surface) : Type 0 where
  pub width : canvas.width ≡ s.width
  pub within : canvas.first + canvas.rows ≤ s.height

-- two canvases have the same rows of the same surface
pub record SameRows (old new : CanvasState) : Type 0 where
  pub width : new.width ≡ old.width
  pub first : new.first ≡ old.first
  pub rows : new.rows ≡ old.rows
  pub most : new.most ≡ old.most

-- layers were drawn: the image of the canvas's rows is what they define, and their pixels there were counted
pub record DrawsLayers (layers : List Layer) (s : Surface) (old new : CanvasState) : Type 0 where
  pub image : image_of new ≡ apply_all layers s old.first (image_of old)
  pub writes : new.writes ≡ old.writes + writes_of_layers layers s old.first old.rows

-- a drawing was drawn, if there is one
abbrev pub DrawsDrawing : Option Drawing → Surface → CanvasState → CanvasState → Type 0
DrawsDrawing drawing s old new = DrawsLayers (layers_if_drawn drawing) s old new
