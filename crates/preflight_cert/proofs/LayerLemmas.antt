-- The layers of a drawing write no more pixels than its nib covers, led over a box that has its points.
use Rattle.std.proofs.Common.{◌≡◌, ℕ, zero, suc, ◌*◌, ◌≤◌, pos, ◌+ℤ◌, ◌-ℤ◌, ◌≤ℤ◌, ◌<ℤ◌, Bool, true, false, ◌&&◌, List, [], ◌∷◌, ◌++◌, is_some, refl, sym, subst, arith}
use Rattle.std.specs.List.{All}
use Rattle.std.proofs.Math.Nat.{mul-le-mul}
use Rattle.std.proofs.lemmas.Bool.{and_parts, and_from}
use Rattle.std.proofs.lemmas.Int.{ints, by_lt_z}
use Rattle.std.proofs.lemmas.List.Elements.{All-append, All-cons, All-head, All-nil, All-tail}
use Rattle.mapping.specs.Boxes.{HasPoint}
use Rattle.mapping.specs.Limits.{IsFrameSide}
use Rattle.mapping.specs.Pixels.{count_indexes, count_pixels}
use Rattle.mapping.specs.PlacingLaws.{IsNoLarger, PlacingLaws, ShowsFrame}
use Rattle.mapping.specs.Surface.{Surface, placed}
use Rattle.mapping.specs.declared.geometry.Rect.{Rect}
use Rattle.mapping.specs.declared.nib.Nib.{Nib}
use Rattle.draw_ops.specs.Objects.{BrushValue, hatched_brush, null_brush, solid_brush, tile_brush}
use Rattle.draw_ops.specs.declared.objects.Pen.{Pen}
use Rattle.draw_ops.specs.declared.objects.Pen.TheVariants.{Null, Solid}
use Rattle.dc_stack.specs.Clip.{in_clip}
use Rattle.dc_stack.specs.Drawing.{Drawing, MarkValue, Tools, blit_between, dot, drawing_nib, drawing_points, figures_painted, is_stroked, mark_points, paints_lines, pen_width, rectangle_between, stroke_width}
use Rattle.dc_stack.specs.Figures.{Figure, points_of_figures}
use Rattle.dc_stack.specs.declared.draw.Painting.{Painting}
use Rattle.dc_stack.specs.declared.draw.Painting.TheVariants.{Fill, Stroke, StrokeAndFill}
use Rattle.preflight_cert.specs.Budget.{box_cells, layers_budget, shape_cells, wide_box_cells}
use Rattle.mapping.specs.CellLaws.{CellLaws, WideCellLaws}
use Rattle.mapping.specs.Cells.{lies_near}
use Rattle.mapping.specs.Nibs.{CoversNib, NibLaws, nib_of, reach_after, reach_before}
use Rattle.mapping.specs.TestLaws.{int_le-from}
use Rattle.preflight_cert.specs.DrawingBoxLaws.{DrawingBoxLaws, IsClosedShape, Reaches, shape_points}
use Rattle.preflight_cert.specs.FigureLines.{all_closed}
use Rattle.preflight_cert.specs.Layer.{Layer, figures_filled, figures_stroked, fills_of, filled_with, layers_of, plain_layers_of, stroked_with, strokes_of}
use Rattle.span_fill.specs.LineBoxes.{LineBoxLaws}
use Rattle.span_fill.specs.WideStrokes.{WideStrokeLaws, one_pixel}
use Rattle.preflight_cert.specs.Paint.{paint_at}
use Rattle.preflight_cert.specs.Shape.{Shape, in_shape, inside_figures, inside_rectangle, pixel_under, shape_nib, stroke_of}
use Rattle.preflight_cert.specs.StrokedOutline.{Outline, along, outline_points, round}
use Rattle.preflight_cert.specs.Writes.{writes_of_layer, writes_of_layers, writes_pixel}
use Rattle.preflight_cert.proofs.OutlineLemmas.{closed_all, closed_points}
use Rattle.preflight_cert.proofs.ShapeLemmas.{shape_reaches}

-- a box has the points of a shape that isn't the inside of open figures, and a nib for each surface is no smaller than the shape's
pub record IsShapeIn (box : Rect) (nib : Surface → Nib) (shape : Shape) : Type 0 where
  pub closed : IsClosedShape shape
  pub points : All (HasPoint box) (shape_points shape)
  pub within : (s : Surface) → CoversNib (nib s) (shape_nib shape s)

-- the same of a layer
abbrev pub IsLayerIn : Rect → (Surface → Nib) → Layer → Type 0
IsLayerIn box nib layer = IsShapeIn box nib layer.shape

-- a box that has the points of a mark has those of each of its layers
module _ (box : Rect) (tools : Tools) (nib : Surface → Nib) (some : (s : Surface) → CoversNib (nib s) one_pixel) where
  -- the nib of a pen of this width is no larger
  abbrev IsWithin : ℕ → Type 0
  IsWithin width = (s : Surface) → CoversNib (nib s) (nib_of width tools.map s)

  stroked_in : (pen : Pen) (outline : Outline) → IsWithin (pen_width pen) → All (HasPoint box) (outline_points outline) → All (IsLayerIn box nib) (stroked_with pen outline tools)
  stroked_in Null outline within all = All-nil (IsLayerIn box nib)
  stroked_in (Solid width colour) outline within all = All-cons (IsLayerIn box nib) _ [] (record { closed = tt; points = all; within = within }) (All-nil (IsLayerIn box nib))

  filled_in : (brush : BrushValue) (shape : Shape) → IsShapeIn box nib shape → All (IsLayerIn box nib) (filled_with brush shape tools)
  filled_in null_brush shape h = All-nil (IsLayerIn box nib)
  filled_in (solid_brush colour) shape h = All-cons (IsLayerIn box nib) _ [] h (All-nil (IsLayerIn box nib))
  filled_in (hatched_brush hatch colour) shape h = All-cons (IsLayerIn box nib) _ [] h (All-nil (IsLayerIn box nib))
  filled_in (tile_brush picture) shape h = All-cons (IsLayerIn box nib) _ [] h (All-nil (IsLayerIn box nib))

  -- painted figures have the same points where they are closed
  points_closed : (figures : List Figure) → All (HasPoint box) (points_of_figures figures) → All (HasPoint box) (points_of_figures (all_closed figures))
  points_closed figures all = subst (All (HasPoint box)) (sym (closed_points figures)) all

  figures_filled_in : (painting : Painting) (figures : List Figure) → All (HasPoint box) (points_of_figures figures) → All (IsLayerIn box nib) (figures_filled painting figures tools)
  figures_filled_in Fill figures all = filled_in tools.brush _ (record { closed = closed_all figures; points = points_closed figures all; within = some })
  figures_filled_in Stroke figures all = All-nil (IsLayerIn box nib)
  figures_filled_in StrokeAndFill figures all = filled_in tools.brush _ (record { closed = closed_all figures; points = points_closed figures all; within = some })

  figures_stroked_in : (painting : Painting) (figures : List Figure) → (paints_lines painting ≡ true → IsWithin (pen_width tools.pen)) → All (HasPoint box) (points_of_figures figures) → All (IsLayerIn box nib) (figures_stroked painting figures tools)
  figures_stroked_in Fill figures within all = All-nil (IsLayerIn box nib)
  figures_stroked_in Stroke figures within all = stroked_in tools.pen (along figures) (within refl) all
  figures_stroked_in StrokeAndFill figures within all = stroked_in tools.pen (along (all_closed figures)) (within refl) (points_closed figures all)

  fills_in : (mark : MarkValue) → All (HasPoint box) (mark_points mark) → All (IsLayerIn box nib) (fills_of mark tools)
  fills_in (dot point colour) all = All-nil (IsLayerIn box nib)
  fills_in (figures_painted painting figures) all = figures_filled_in painting figures all
  fills_in (rectangle_between p q edges) all = filled_in tools.brush _ (record { closed = tt; points = all; within = some })
  fills_in (blit_between p q table source) all = All-nil (IsLayerIn box nib)

  strokes_in : (mark : MarkValue) → (is_stroked mark ≡ true → IsWithin (pen_width tools.pen)) → All (HasPoint box) (mark_points mark) → All (IsLayerIn box nib) (strokes_of mark tools)
  strokes_in (dot point colour) within all = All-nil (IsLayerIn box nib)
  strokes_in (figures_painted painting figures) within all = figures_stroked_in painting figures within all
  strokes_in (rectangle_between p q edges) within all = stroked_in tools.pen (round p q edges) (within refl) all
  strokes_in (blit_between p q table source) within all = All-nil (IsLayerIn box nib)

  plain_in : (mark : MarkValue) → All (HasPoint box) (mark_points mark) → All (IsLayerIn box nib) (plain_layers_of mark tools)
  plain_in (dot point colour) all = All-cons (IsLayerIn box nib) _ [] (record { closed = tt; points = all; within = some }) (All-nil (IsLayerIn box nib))
  plain_in (figures_painted painting figures) all = All-nil (IsLayerIn box nib)
  plain_in (rectangle_between p q edges) all = All-nil (IsLayerIn box nib)
  plain_in (blit_between p q table source) all = All-cons (IsLayerIn box nib) _ [] (record { closed = tt; points = all; within = some }) (All-nil (IsLayerIn box nib))

-- the nib of a drawing has at least one pixel
has_pixel : (drawing : Drawing) (s : Surface) → CoversNib (drawing_nib drawing s) one_pixel
has_pixel drawing s = record { x = omega arith; y = omega arith }

-- that of its pen is no larger
pen_within : (drawing : Drawing) → is_stroked drawing.mark ≡ true → (s : Surface) → CoversNib (drawing_nib drawing s) (nib_of (pen_width drawing.tools.pen) drawing.tools.map s)
pen_within drawing stroked s = rw stroked (record { x = omega arith; y = omega arith })

-- the box has the points of all layers of the drawing
pub layers_in : (box : Rect) (drawing : Drawing) → All (HasPoint box) (drawing_points drawing) → All (IsLayerIn box (drawing_nib drawing)) (layers_of drawing)
layers_in box drawing all =
    let nib = drawing_nib drawing in
    let some = has_pixel drawing in
    All-append (IsLayerIn box nib) (fills_of drawing.mark drawing.tools) (plain_layers_of drawing.mark drawing.tools ++ strokes_of drawing.mark drawing.tools)
    (fills_in box drawing.tools nib some drawing.mark all)
    (All-append (IsLayerIn box nib) (plain_layers_of drawing.mark drawing.tools) (strokes_of drawing.mark drawing.tools)
    (plain_in box drawing.tools nib some drawing.mark all) (strokes_in box drawing.tools nib some drawing.mark (pen_within drawing) all))

-- where no pixel passes a test, none is counted
no_index : (k n : ℕ) → count_indexes (λ i. false) k n ≡ 0
no_index k zero = refl
no_index k (suc n) = let rest = no_index (suc k) n in omega (arith, rest)

none_written : CellLaws → (test : ℕ → ℕ → Bool) (w h : ℕ) → ((x y : ℕ) → test x y ≡ true → ⊥) → count_pixels test w 0 h ≡ 0
none_written cell_laws test w h never =
    let few : count_pixels test w 0 h ≤ count_indexes (λ i. false) 0 h * count_indexes (λ i. false) 0 w =
    cell_laws.pixels (λ i. false) (λ i. false) test w h (λ x y t. absurd (never x y t)) in
    let e = no_index 0 h in let none = rw e at few in omega (arith, none)

-- a layer writes no more pixels of a surface than its nib covers there
module _ (cell_laws : CellLaws) (wide_laws : WideCellLaws) (boxes : LineBoxLaws) (strokes : WideStrokeLaws) (placing : PlacingLaws) (box : Rect) (nib : Surface → Nib) (s : Surface) (shows : ShowsFrame s) where
  pub written_reaches : (layer : Layer) (x y : ℕ) → IsLayerIn box nib layer → writes_pixel layer s x y ≡ true → Reaches (shape_nib layer.shape s) box s x y
  written_reaches layer x y h t =
      let parts = and_parts (in_clip layer.clip s x y && in_shape layer.shape s x y) (is_some (paint_at layer.paint s x y)) t in
      let within = and_parts (in_clip layer.clip s x y) (in_shape layer.shape s x y) parts.0 in
      shape_reaches placing boxes strokes box s shows layer.shape x y h.closed h.points within.1

  abbrev column : Layer → ℕ → Bool
  column layer x = lies_near box.l box.r s.width s.frame_width (shape_nib layer.shape s).x x

  abbrev row : Layer → ℕ → Bool
  row layer y = lies_near box.t box.b s.height s.frame_height (shape_nib layer.shape s).y y

  lies : (layer : Layer) (x y : ℕ) → IsLayerIn box nib layer → writes_pixel layer s x y ≡ true → (column layer x ≡ true) × (row layer y ≡ true)
  lies layer x y h t =
      let n = shape_nib layer.shape s in
      let p = (written_reaches layer x y h t).pixel in (
        and_from _ _ (int_le-from (placed box.l s.width s.frame_width -ℤ pos (reach_before n.x)) (pos x) p.left) (int_le-from (pos x) (placed box.r s.width s.frame_width +ℤ pos (reach_after n.x)) p.right),
        and_from _ _ (int_le-from (placed box.t s.height s.frame_height -ℤ pos (reach_before n.y)) (pos y) p.top) (int_le-from (pos y) (placed box.b s.height s.frame_height +ℤ pos (reach_after n.y)) p.bottom),
      )

  layer_few : (layer : Layer) → IsLayerIn box nib layer → writes_of_layer layer s 0 s.height ≤ wide_box_cells (shape_nib layer.shape s) box s
  layer_few layer h =
      let n = shape_nib layer.shape s in
      by_lt_z box.r box.l
      (λ (g : box.r <ℤ box.l).
      let e = none_written cell_laws (writes_pixel layer s) s.width s.height (λ x y t. let k = (written_reaches layer x y h t).wide in omega (arith, ints, g, k)) in omega (arith, e))
      (λ (wide : box.l ≤ℤ box.r). by_lt_z box.b box.t
      (λ (g : box.b <ℤ box.t).
      let e = none_written cell_laws (writes_pixel layer s) s.width s.height (λ x y t. let k = (written_reaches layer x y h t).high in omega (arith, ints, g, k)) in omega (arith, e))
      (λ (high : box.t ≤ℤ box.b).
      let counted = cell_laws.pixels (row layer) (column layer) (writes_pixel layer s) s.width s.height (λ x y t. lies layer x y h t) in
      let columns = wide_laws.few box.l box.r s.width s.frame_width n.x shows.wide wide in
      let rows = wide_laws.few box.t box.b s.height s.frame_height n.y shows.high high in
      let product = mul-le-mul rows columns in
      omega (arith, counted, product)))

-- a nib no smaller covers no fewer pixels of a surface no smaller
module _ (wide_laws : WideCellLaws) (box : Rect) (smaller larger : Surface) (shows : ShowsFrame larger) (no_larger : IsNoLarger smaller larger) where
  wide_grow : (nib other : Nib) → CoversNib nib other → wide_box_cells other box smaller ≤ wide_box_cells nib box larger
  wide_grow nib other covers =
      let columns = wide_laws.grows box.l box.r smaller.width larger.width larger.frame_width other.x nib.x shows.wide no_larger.width covers.x in
      let rows = wide_laws.grows box.t box.b smaller.height larger.height larger.frame_height other.y nib.y shows.high no_larger.height covers.y in
      rw (no_larger.frame_width, no_larger.frame_height) (mul-le-mul columns rows)

  -- and one pixel those that the box meets
  thin_grow : wide_box_cells one_pixel box smaller ≤ box_cells box larger
  thin_grow =
      let columns = wide_laws.one box.l box.r larger.width larger.frame_width in
      let rows = wide_laws.one box.t box.b larger.height larger.frame_height in
      rw (← columns, ← rows) (wide_grow one_pixel one_pixel (record { x = omega arith; y = omega arith }))

  shape_grows : (shape : Shape) (nib : Nib) → CoversNib nib (shape_nib shape smaller) → wide_box_cells (shape_nib shape smaller) box smaller ≤ shape_cells shape nib box larger
  shape_grows (pixel_under point) nib covers = thin_grow
  shape_grows (inside_figures mode figures) nib covers = thin_grow
  shape_grows (inside_rectangle p q edges) nib covers = thin_grow
  shape_grows (stroke_of width map outline) nib covers = wide_grow nib (nib_of width map smaller) covers

-- a smaller surface shows the same frame
shows_smaller : (smaller larger : Surface) → ShowsFrame larger → IsNoLarger smaller larger → ShowsFrame smaller
shows_smaller smaller larger shows no_larger = record {
  wide = subst IsFrameSide (sym no_larger.frame_width) shows.wide;
  high = subst IsFrameSide (sym no_larger.frame_height) shows.high;
}

-- a nib that is no smaller than one that is no smaller than a third
covers_through : (nib middle other : Nib) → CoversNib nib middle → CoversNib middle other → CoversNib nib other
covers_through nib middle other h k =
    let a = h.x in let b = h.y in let c = k.x in let d = k.y in record { x = omega (arith, a, c); y = omega (arith, b, d) }

-- the law, by the laws of cells, of nibs, of lines and of places
module _ (cell_laws : CellLaws) (wide_laws : WideCellLaws) (nibs : NibLaws) (boxes : LineBoxLaws) (strokes : WideStrokeLaws) (placing : PlacingLaws) where
  module _ (drawing : Drawing) (nib : Nib) (box : Rect) (smaller larger : Surface) (shows : ShowsFrame larger) (no_larger : IsNoLarger smaller larger) (covers : CoversNib nib (drawing_nib drawing larger)) where
    -- the nib is no smaller than that of a layer on the smaller surface
    covers_layer : (layer : Layer) → IsLayerIn box (drawing_nib drawing) layer → CoversNib nib (shape_nib layer.shape smaller)
    covers_layer layer h =
        let here = drawing_nib drawing smaller in
        let there = drawing_nib drawing larger in
        let grows : CoversNib there here = nibs.grows (stroke_width drawing) drawing.tools.map smaller larger shows no_larger in
        covers_through nib there (shape_nib layer.shape smaller) covers (covers_through there here (shape_nib layer.shape smaller) grows (h.within smaller))

    layers_few : (layers : List Layer) → All (IsLayerIn box (drawing_nib drawing)) layers → writes_of_layers layers smaller 0 smaller.height ≤ layers_budget layers nib box larger
    layers_few [] all = omega arith
    layers_few (layer ∷ layers) all =
        let h = All-head (IsLayerIn box (drawing_nib drawing)) layer layers all in
        let here = layer_few cell_laws wide_laws boxes strokes placing box (drawing_nib drawing) smaller (shows_smaller smaller larger shows no_larger) layer h in
        let more = shape_grows wide_laws box smaller larger shows no_larger layer.shape nib (covers_layer layer h) in
        let rest = layers_few layers (All-tail (IsLayerIn box (drawing_nib drawing)) layer layers all) in omega (arith, here, more, rest)

  pub drawing_box_laws : DrawingBoxLaws
  drawing_box_laws = record {
    shape = λ shape box s x y shows closed all t. shape_reaches placing boxes strokes box s shows shape x y closed all t;
    drawing = λ drawing nib box smaller larger shows no_larger covers all.
        layers_few drawing nib box smaller larger shows no_larger covers (layers_of drawing) (layers_in box drawing all);
  }
