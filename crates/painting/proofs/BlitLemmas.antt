-- What a blit paints is a layer.
use Rattle.std.proofs.Common.{◌≡◌, ℕ, Bool, true, false, cond, ◌&&◌, [], ◌∷◌, Option, Some, None, is_some, refl, ◌∙◌, ap}
use Rattle.mapping.specs.Colours.{black_colour}
use Rattle.mapping.specs.Surface.{Surface, placed_point}
use Rattle.mapping.specs.declared.geometry.Colour.{Colour}
use Rattle.mapping.specs.declared.geometry.Point.{Point}
use Rattle.mapping.specs.declared.geometry.Rect.{Rect}
use Rattle.canvas.specs.CanvasState.{CanvasState}
use Rattle.canvas.specs.Writing.{Repaints}
use Rattle.canvas.specs.WritingLaws.{WritingLaws, IsWhole}
use Rattle.draw_ops.specs.Blits.{SourceValue, source_of}
use Rattle.draw_ops.specs.Objects.{brush_value_of}
use Rattle.draw_ops.specs.declared.objects.Brush.{Brush}
use Rattle.draw_ops.specs.declared.objects.Brush.TheVariants.{Solid}
use Rattle.draw_ops.specs.declared.settings.BackgroundMode.{BackgroundMode}
use Rattle.draw_ops.specs.declared.ternary_op.TernaryOp.{TernaryOp}
use Rattle.raster_ops.specs.Paints.{brush_paint}
use Rattle.raster_ops.specs.Sources.{source_colour}
use Rattle.raster_ops.specs.TernaryOps.{ternary_colour, uses_pattern}
use Rattle.mapping.specs.PixelBoxes.{in_box}
use Rattle.dc_stack.specs.Clip.{ClipValue, in_boxes, placed_clip}
use Rattle.mapping.specs.Boxes.{box_between}
use Rattle.dc_stack.specs.Drawing.{Tools}
use Rattle.dc_stack.specs.Values.{placed_value}
use Rattle.dc_stack.specs.declared.clip.Clip.{Clip}
use Rattle.dc_stack.specs.declared.dc.Dc.{Dc}
use Rattle.dc_stack.specs.declared.draw.PlaneBlit.{PlaneBlit}
use Rattle.dc_stack.specs.declared.modes.Modes.{Modes}
use Rattle.preflight_cert.specs.Apply.{ink_of, mixed_with}
use Rattle.painting.specs.Blits.{blit_colour, blit_made, blit_paints}
use Rattle.preflight_cert.specs.Layer.{blit_layer, blit_paint, brushed_now}
use Rattle.preflight_cert.specs.Mixing.{ternary}
use Rattle.preflight_cert.specs.Paint.{paint_at, solid}
use Rattle.painting.specs.FillStyles.{fill_style_paint, colour_of, colour_seen}
use Rattle.painting.specs.Painted.{PaintsShape, paints}
use Rattle.painting.specs.Drawn.{DrawsLayers, HoldsRows}
use Rattle.painting.specs.Joined.{joined_if}
use Rattle.preflight_cert.specs.Writes.{writes_pixel}
use Rattle.painting.specs.declared.fill_style.FillStyle.{FillStyle}
use Rattle.painting.proofs.DrawingLemmas.{layer_drawn}

-- the brush's colour if the operation depends on the pattern, otherwise a substitute
chosen_colour : (b : Bool) (brush : Brush) (mode : BackgroundMode) (background : Colour) (x y : ℕ) → brush_paint (brush_value_of (cond b brush (Solid black_colour))) mode background x y ≡ cond b (brush_paint (brush_value_of brush) mode background x y) (Some black_colour)
chosen_colour true brush mode background x y = refl
chosen_colour false brush mode background x y = refl

-- the result of a paint and a source is the same for sources with the same colours
joined_alike : (op : TernaryOp) (seen source : Colour) (paint : Option Colour) (old : Colour) → ((p : Colour) → ternary_colour op.table p seen old ≡ ternary_colour op.table p source old) → joined_if op.table seen paint old ≡ joined_if op.table source paint old
joined_alike op seen source None old same = refl
joined_alike op seen source (Some p) old same = same p

-- What the paint of a blit does to its box is what the blit does to it.
pub blit_painted :
    WritingLaws → (s : Surface) (paint : FillStyle) (dc : Dc) (blit : PlaneBlit) (box : Rect) (old new : CanvasState) → IsWhole old
    → paint.brush ≡ cond (uses_pattern blit.operation.table) dc.selected.brush (Solid black_colour) → paint.modes ≡ dc.modes → paint.operation.op ≡ blit.operation → paint.clip.now ≡ dc.clip
    → box ≡ box_between (placed_point blit.first s) (placed_point blit.second s)
    → ((x y : ℕ) (p c : Colour) → ternary_colour blit.operation.table p (colour_seen paint.source x y) c ≡ ternary_colour blit.operation.table p (source_colour (source_of blit.source) (placed_point blit.first s) (placed_point blit.second s) x y) c)
    → PaintsShape (fill_style_paint paint) (in_box box) old new
    → Repaints (blit_paints blit s dc) (blit_made blit s dc) old new
blit_painted laws s paint dc blit box old new whole brush modes operation clip inside same r =
    let op = blit.operation in
    let first = placed_point blit.first s in
    let second = placed_point blit.second s in
    let source = source_of blit.source in
    let colour : (x y : ℕ) → colour_of paint x y ≡ blit_colour op dc x y =
    λ x y. ap (λ (b : Brush). brush_paint (brush_value_of b) paint.modes.background_mode paint.modes.background_colour x y) brush
    ∙ ap (λ (m : Modes). brush_paint (brush_value_of (cond (uses_pattern op.table) dc.selected.brush (Solid black_colour))) m.background_mode m.background_colour x y) modes
    ∙ chosen_colour (uses_pattern op.table) dc.selected.brush dc.modes.background_mode dc.modes.background_colour x y in
    laws.same (paints (fill_style_paint paint) (in_box box)) (blit_paints blit s dc) (fill_style_paint paint).makes (blit_made blit s dc) old new whole
    (λ x y held.
    ap (λ (k : Clip). in_boxes (placed_value k) x y && in_box box x y && is_some (colour_of paint x y)) clip
    ∙ ap (λ (b : Rect). in_boxes (placed_value dc.clip) x y && in_box b x y && is_some (colour_of paint x y)) inside
    ∙ ap (λ (c : Option Colour). in_boxes (placed_value dc.clip) x y && in_box (box_between first second) x y && is_some c) (colour x y))
    (λ x y c held t.
    ap (λ (o : TernaryOp). joined_if o.table (colour_seen paint.source x y) (colour_of paint x y) c) operation
    ∙ ap (λ (p : Option Colour). joined_if op.table (colour_seen paint.source x y) p c) (colour x y)
    ∙ joined_alike op (colour_seen paint.source x y) (source_colour source first second x y) (blit_colour op dc x y) c (λ p. same x y p c))
    r

-- the paint of a blit's layer is the brush's colour, or its substitute
layer_colour : (b : Bool) (brush : Brush) (tools : Tools) (s : Surface) (x y : ℕ) → brush_value_of brush ≡ tools.brush → cond b (brush_paint (brush_value_of brush) tools.modes.background_mode tools.modes.background_colour x y) (Some black_colour) ≡ paint_at (cond b (brushed_now tools.brush tools) (solid black_colour)) s x y
layer_colour true brush tools s x y same = ap (λ b. brush_paint b tools.modes.background_mode tools.modes.background_colour x y) same
layer_colour false brush tools s x y same = refl

joined_same : (op : TernaryOp) (s : Surface) (p q : Point) (source : Option SourceValue) (x y : ℕ) (paint : Option Colour) (old : Colour) → joined_if op.table (source_colour source (placed_point p s) (placed_point q s) x y) paint old ≡ mixed_with (ternary op.table source p q) s x y paint old
joined_same op s p q source x y None old = refl
joined_same op s p q source x y (Some paint) old = refl

module _ (laws : WritingLaws) (s : Surface) (old new : CanvasState) (there : IsWhole old) (held : HoldsRows old s) where
  -- a painted blit is the layer of the blit
  pub blit_drawn :
      (dc : Dc) (tools : Tools) (blit : PlaneBlit)
      → brush_value_of dc.selected.brush ≡ tools.brush → dc.modes ≡ tools.modes → placed_value dc.clip ≡ placed_clip s tools.clip
      → Repaints (blit_paints blit s dc) (blit_made blit s dc) old new
      → DrawsLayers (blit_layer blit.first blit.second blit.operation.table (source_of blit.source) tools ∷ []) s old new
  blit_drawn dc tools blit brush modes clip r =
      let op = blit.operation in
      let p = blit.first in
      let q = blit.second in
      let first = placed_point p s in
      let second = placed_point q s in
      let source = source_of blit.source in
      let layer = blit_layer p q op.table source tools in
      let colour : (x y : ℕ) → blit_colour op dc x y ≡ paint_at (blit_paint op.table tools) s x y =
      λ x y. ap (λ (m : Modes). cond (uses_pattern op.table) (brush_paint (brush_value_of dc.selected.brush) m.background_mode m.background_colour x y) (Some black_colour)) modes
      ∙ layer_colour (uses_pattern op.table) dc.selected.brush tools s x y brush in
      layer_drawn laws s old new there held layer
      (laws.same (blit_paints blit s dc) (writes_pixel layer s) (blit_made blit s dc) (ink_of layer s) old new there
      (λ x y held.
      ap (λ (boxes : ClipValue). in_boxes boxes x y && in_box (box_between first second) x y && is_some (blit_colour op dc x y)) clip
      ∙ ap (λ (k : Option Colour). in_boxes (placed_clip s tools.clip) x y && in_box (box_between first second) x y && is_some k) (colour x y))
      (λ x y c held t.
      ap (λ (k : Option Colour). joined_if op.table (source_colour source first second x y) k c) (colour x y)
      ∙ joined_same op s p q source x y (paint_at (blit_paint op.table tools) s x y) c)
      r)
