-- A bound on the number of pixels that layers write, by a box of the plane that contains their points and by the nib of
-- their stroke.
use Rattle.std.specs.Prelude.{◌≡◌, ℕ, ◌+◌, ◌*◌, List, [], ◌∷◌}
use Rattle.mapping.specs.Surface.{Surface}
use Rattle.mapping.specs.declared.geometry.Rect.{Rect}
use Rattle.mapping.specs.declared.nib.Nib.{Nib}
use Rattle.mapping.specs.Cells.{cells, wide_cells}
use Rattle.dc_stack.specs.Drawing.{Drawing}
use Rattle.preflight_cert.specs.Layer.{Layer, layers_of}
use Rattle.preflight_cert.specs.Shape.{Shape, inside_figures, inside_rectangle, pixel_under, stroke_of}

-- the most pixels of a surface that a box of the plane meets
abbrev pub box_cells : Rect → Surface → ℕ
box_cells box s = cells box.l box.r s.width s.frame_width * cells box.t box.b s.height s.frame_height

-- the most pixels of a surface that a nib covers as it moves over a box of the plane
abbrev pub wide_box_cells : Nib → Rect → Surface → ℕ
wide_box_cells nib box s = wide_cells box.l box.r s.width s.frame_width nib.x * wide_cells box.t box.b s.height s.frame_height nib.y

-- the most pixels of a shape: for a stroke those that the nib covers, otherwise those that the box meets
abbrev pub shape_cells : Shape → Nib → Rect → Surface → ℕ
shape_cells (pixel_under point) nib box s = box_cells box s
shape_cells (inside_figures mode figures) nib box s = box_cells box s
shape_cells (inside_rectangle p q edges) nib box s = box_cells box s
shape_cells (stroke_of width map outline) nib box s = wide_box_cells nib box s

-- the most pixels that a layer writes
abbrev pub layer_cells : Layer → Nib → Rect → Surface → ℕ
layer_cells layer nib box s = shape_cells layer.shape nib box s

-- the most pixels that several layers write
abbrev pub layers_budget : List Layer → Nib → Rect → Surface → ℕ
layers_budget [] nib box s = 0
layers_budget (layer ∷ layers) nib box s = layer_cells layer nib box s + layers_budget layers nib box s

-- the most pixels that a drawing writes
abbrev pub drawing_cells : Drawing → Nib → Rect → Surface → ℕ
drawing_cells drawing nib box s = layers_budget (layers_of drawing) nib box s
