-- A drawing has at most two layers, each of which writes a surface's pixels at most once.
use Rattle.std.proofs.Common.{ℕ, ◌+◌, ◌*◌, ◌-◌, ◌≤◌, ℤ, Bool, true, false, cond, min, List, [], ◌∷◌, ◌++◌, length, arith}
use Rattle.std.specs.Prelude.{int_lt}
use Rattle.std.proofs.lemmas.Nat.{mul-le}
use Rattle.std.proofs.Math.Nat.{mul-le-mul_right}
use Rattle.mapping.specs.Cells.{cells, count_of, is_away, rounded_up, wide_cells}
use Rattle.mapping.specs.Surface.{Surface}
use Rattle.mapping.specs.declared.geometry.Rect.{Rect}
use Rattle.mapping.specs.declared.nib.Nib.{Nib}
use Rattle.draw_ops.specs.Objects.{BrushValue, hatched_brush, null_brush, solid_brush, tile_brush}
use Rattle.draw_ops.specs.declared.objects.Pen.{Pen}
use Rattle.draw_ops.specs.declared.objects.Pen.TheVariants.{Null, Solid}
use Rattle.dc_stack.specs.Drawing.{Drawing, MarkValue, Tools, blit_between, dot, figures_painted, rectangle_between}
use Rattle.preflight_cert.specs.Budget.{drawing_cells, layer_cells, layers_budget, shape_cells}
use Rattle.dc_stack.specs.declared.draw.Painting.TheVariants.{Fill, Stroke, StrokeAndFill}
use Rattle.preflight_cert.specs.Drawings.{NumberedDrawing}
use Rattle.preflight_cert.specs.FigureLines.{all_closed}
use Rattle.preflight_cert.specs.Gathered.{least_budget, least_entry}
use Rattle.preflight_cert.specs.Layer.{Layer, filled, filled_with, fills_of, layers_of, plain_layers_of, stroked, stroked_with, strokes_of}
use Rattle.preflight_cert.specs.Shape.{Shape, inside_figures, inside_rectangle, pixel_under, stroke_of}
use Rattle.preflight_cert.specs.StrokedOutline.{Outline, along, round}

-- the most pixels that a surface has
abbrev most : ℕ
most = 67108864

-- no side meets more columns or rows than the surface has
at_most : (test : Bool) (w other : ℕ) → cond test 0 (min w other) ≤ w
at_most true w other = omega arith
at_most false w other = omega arith

few_cells : (l r : ℤ) (w side : ℕ) → cells l r w side ≤ w
few_cells l r w side = at_most (is_away l r side) w (rounded_up ((min (count_of r) side - count_of l) * w) side + 1)

few_wide_cells : (l r : ℤ) (w side n : ℕ) → wide_cells l r w side n ≤ w
few_wide_cells l r w side n = at_most (int_lt r l) w (cells l r w side + (n - 1))

module _ (s : Surface) (wide : s.width ≤ 8192) (high : s.height ≤ 8192) where
  few_pixels : (columns rows : ℕ) → columns ≤ s.width → rows ≤ s.height → columns * rows ≤ most
  few_pixels columns rows h k = let product = mul-le columns rows 8192 8192 (omega (arith, h, wide)) (omega (arith, k, high)) in omega (arith, product)

  of_box : (box : Rect) → cells box.l box.r s.width s.frame_width * cells box.t box.b s.height s.frame_height ≤ most
  of_box box = few_pixels _ _ (few_cells box.l box.r s.width s.frame_width) (few_cells box.t box.b s.height s.frame_height)

  of_nib : (nib : Nib) (box : Rect) → wide_cells box.l box.r s.width s.frame_width nib.x * wide_cells box.t box.b s.height s.frame_height nib.y ≤ most
  of_nib nib box = few_pixels _ _ (few_wide_cells box.l box.r s.width s.frame_width nib.x) (few_wide_cells box.t box.b s.height s.frame_height nib.y)

  of_shape : (shape : Shape) (nib : Nib) (box : Rect) → shape_cells shape nib box s ≤ most
  of_shape (pixel_under point) nib box = of_box box
  of_shape (inside_figures mode figures) nib box = of_box box
  of_shape (inside_rectangle p q edges) nib box = of_box box
  of_shape (stroke_of width map outline) nib box = of_nib nib box

  of_layers : (layers : List Layer) (nib : Nib) (box : Rect) → layers_budget layers nib box s ≤ length layers * most
  of_layers [] nib box = omega arith
  of_layers (layer ∷ layers) nib box =
      let first : layer_cells layer nib box s ≤ most = of_shape layer.shape nib box in
      let rest = of_layers layers nib box in omega (arith, first, rest)

  -- how many layers there are
  one_filled : (brush : BrushValue) (shape : Shape) (tools : Tools) → length (filled_with brush shape tools) ≤ 1
  one_filled null_brush shape tools = omega arith
  one_filled (solid_brush colour) shape tools = omega arith
  one_filled (hatched_brush hatch colour) shape tools = omega arith
  one_filled (tile_brush picture) shape tools = omega arith

  one_stroked : (pen : Pen) (outline : Outline) (tools : Tools) → length (stroked_with pen outline tools) ≤ 1
  one_stroked Null outline tools = omega arith
  one_stroked (Solid width colour) outline tools = omega arith

  both : (first second : List Layer) → length first ≤ 1 → length second ≤ 1 → length (first ++ second) ≤ 2
  both [] second a b = omega (arith, b)
  both (layer ∷ []) second a b = omega (arith, b)
  both (layer ∷ other ∷ layers) second a b = absurd (omega (arith, a))

  two_layers : (mark : MarkValue) (tools : Tools) → length (fills_of mark tools ++ (plain_layers_of mark tools ++ strokes_of mark tools)) ≤ 2
  two_layers (dot point colour) tools = omega arith
  two_layers (figures_painted Fill figures) tools = both (filled (inside_figures tools.modes.fill_mode (all_closed figures)) tools) [] (one_filled tools.brush _ tools) (omega arith)
  two_layers (figures_painted Stroke figures) tools = let few = one_stroked tools.pen (along figures) tools in omega (arith, few)
  two_layers (figures_painted StrokeAndFill figures) tools =
      both (filled (inside_figures tools.modes.fill_mode (all_closed figures)) tools) (stroked (along (all_closed figures)) tools) (one_filled tools.brush _ tools) (one_stroked tools.pen _ tools)
  two_layers (rectangle_between p q edges) tools =
      both (filled (inside_rectangle p q edges) tools) (stroked (round p q edges) tools) (one_filled tools.brush _ tools) (one_stroked tools.pen _ tools)
  two_layers (blit_between p q table source) tools = omega arith

  of_drawing : (drawing : Drawing) (nib : Nib) (box : Rect) → drawing_cells drawing nib box s ≤ 134217728
  of_drawing drawing nib box =
      let layers = of_layers (layers_of drawing) nib box in
      let product = mul-le-mul_right most (two_layers drawing.mark drawing.tools) in omega (arith, layers, product)

  pub of_drawings : (drawings : List NumberedDrawing) → least_budget drawings s ≤ length drawings * 134217728
  of_drawings [] = omega arith
  of_drawings (one ∷ later) =
      let entry = least_entry one s in
      let first = of_drawing one.drawing entry.nib entry.bounds in
      let rest = of_drawings later in omega (arith, first, rest)
