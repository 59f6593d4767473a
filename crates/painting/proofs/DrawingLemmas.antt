-- What is painted in a shape is a layer, and layers follow one another.
use Rattle.std.proofs.Common.{◌≡◌, ℕ, ◌+◌, Bool, true, ◌&&◌, List, [], ◌∷◌, ◌++◌, Option, Some, None, refl, sym, ◌∙◌, ap, arith}
use Rattle.std.proofs.Math.Bool.{and-true}
use Rattle.mapping.specs.Surface.{Surface, is_pixel, placed_point}
use Rattle.mapping.specs.declared.geometry.Colour.{Colour}
use Rattle.mapping.specs.declared.geometry.Point.{Point}
use Rattle.mapping.specs.Image.{Image}
use Rattle.mapping.specs.Pixels.{count_pixels}
use Rattle.draw_ops.specs.Objects.{brush_value_of}
use Rattle.draw_ops.specs.declared.objects.Brush.{Brush}
use Rattle.draw_ops.specs.declared.objects.Brush.TheVariants.{Hatched, Null, Solid, Tiled}
use Rattle.draw_ops.specs.declared.objects.Pen.TheVariants.{Solid as SolidPen}
use Rattle.draw_ops.specs.declared.raster_op.RasterOp.{RasterOp}
use Rattle.raster_ops.specs.RasterOps.{BinaryIsTernary, binary_table}
use Rattle.canvas.specs.CanvasState.{CanvasState, image_of}
use Rattle.canvas.specs.Writing.{Repaints}
use Rattle.canvas.specs.WritingLaws.{WritingLaws, IsWhole}
use Rattle.dc_stack.specs.Clip.{ClipValue, in_boxes, placed_clip}
use Rattle.mapping.specs.Nibs.{nib_of}
use Rattle.mapping.specs.declared.nib.Nib.{Nib}
use Rattle.dc_stack.specs.Drawing.{MarkValue, Tools, drawing_nib, is_stroked}
use Rattle.dc_stack.specs.State.{DcValue}
use Rattle.dc_stack.specs.Values.{IsPlacedOn, dc_value, placed_value}
use Rattle.dc_stack.specs.declared.clip.Clip.{Clip}
use Rattle.dc_stack.specs.declared.dc.Dc.{Dc}
use Rattle.preflight_cert.specs.Apply.{apply_all, ink_of, mixed_with}
use Rattle.preflight_cert.specs.Layer.{Layer, brushed_now, filled, layer_now, stroked}
use Rattle.preflight_cert.specs.Mixing.{binary, copied}
use Rattle.preflight_cert.specs.Paint.{Paint, solid}
use Rattle.painting.specs.Counts.{CountsLayer}
use Rattle.painting.specs.Drawn.{DrawsLayers, HoldsRows, SameRows}
use Rattle.painting.specs.Draws.{DrawsLayer}
use Rattle.painting.specs.Painted.{PaintValue, PaintsShape, paints}
use Rattle.painting.specs.PaintsOfLayers.{IsPaintOf}
use Rattle.preflight_cert.specs.Shape.{Shape, in_shape, pixel_under, stroke_of}
use Rattle.preflight_cert.specs.StrokedOutline.{Outline}
use Rattle.preflight_cert.specs.Writes.{writes_of_layers, writes_pixel}
use Rattle.painting.specs.Joined.{joined_if}

-- no layers draw nothing
pub no_layer_drawn : (s : Surface) (canvas : CanvasState) → DrawsLayer [] s canvas canvas
no_layer_drawn s canvas = record {
  drawn = record { image = refl; writes = omega arith };
  rows = record { width = refl; first = refl; rows = refl; most = refl };
  few = omega arith;
}

-- layers after other layers
applied_in_turn : (first second : List Layer) (s : Surface) (top : ℕ) (image : Image) → apply_all (first ++ second) s top image ≡ apply_all second s top (apply_all first s top image)
applied_in_turn [] second s top image = refl
applied_in_turn (layer ∷ first) second s top image = applied_in_turn first second s top _

counted_in_turn : (first second : List Layer) (s : Surface) (top rows : ℕ) → writes_of_layers (first ++ second) s top rows ≡ writes_of_layers first s top rows + writes_of_layers second s top rows
counted_in_turn [] second s top rows = omega arith
counted_in_turn (layer ∷ first) second s top rows = let rest = counted_in_turn first second s top rows in omega (arith, rest)

pub drawn_in_turn : (first second : List Layer) (s : Surface) (old between new : CanvasState) → SameRows old between → DrawsLayers first s old between → DrawsLayers second s between new → DrawsLayers (first ++ second) s old new
drawn_in_turn first second s old between new same a b =
    let a_writes = a.writes in
    let b_image : image_of new ≡ apply_all second s old.first (image_of between) = rw same.first at b.image in
    let b_writes : new.writes ≡ between.writes + writes_of_layers second s old.first old.rows = rw (same.first, same.rows) at b.writes in
    let counted = counted_in_turn first second s old.first old.rows in
    record {
      image = b_image ∙ ap (apply_all second s old.first) a.image ∙ sym (applied_in_turn first second s old.first (image_of old));
      writes = omega (arith, a_writes, b_writes, counted);
    }

-- a canvas keeps its rows
pub same_rows : (test : ℕ → ℕ → Bool) (f : ℕ → ℕ → Colour → Colour) (old new : CanvasState) → Repaints test f old new → SameRows old new
same_rows test f old new r = record { width = r.width; first = r.first; rows = r.rows; most = r.most }

-- a paint combines with the old colour by the raster operation
pub joined_same : BinaryIsTernary → (op : RasterOp) (s : Surface) (x y : ℕ) (source : Colour) (paint : Option Colour) (old : Colour) → joined_if (binary_table op) source paint old ≡ mixed_with (binary op) s x y paint old
joined_same law op s x y source None old = refl
joined_same law op s x y source (Some paint) old = sym (law op paint source old)

module _ (laws : WritingLaws) (s : Surface) (old new : CanvasState) (there : IsWhole old) (held : HoldsRows old s) where
  -- writing the pixels of a layer draws it
  pub layer_drawn : (layer : Layer) → Repaints (writes_pixel layer s) (ink_of layer s) old new → DrawsLayers (layer ∷ []) s old new
  layer_drawn layer r =
      let writes = r.writes in
      let counted : count_pixels (writes_pixel layer s) old.width old.first old.rows ≡ count_pixels (writes_pixel layer s) s.width old.first old.rows = ap (λ (w : ℕ). count_pixels (writes_pixel layer s) w old.first old.rows) held.width in
      record { image = rw (r.width, r.rows, r.colours) refl; writes = omega (arith, writes, counted) }

  -- painting with a paint that does what the layer asks for draws it
  pub painted_drawn : (colours : Paint) (tools : Tools) (paint : PaintValue) → IsPaintOf colours tools s paint → (shape : ℕ → ℕ → Bool) (drawn : Shape) → ((x y : ℕ) → shape x y ≡ in_shape drawn s x y) → PaintsShape paint shape old new → DrawsLayers (layer_now drawn colours tools ∷ []) s old new
  painted_drawn colours tools paint asked shape drawn same r =
      layer_drawn (layer_now drawn colours tools)
      (laws.same (paints paint shape) (writes_pixel (layer_now drawn colours tools) s) paint.makes (ink_of (layer_now drawn colours tools) s) old new there
      (λ x y held.
      ap (λ (boxes : ClipValue). in_boxes boxes x y && shape x y && paint.has x y) asked.clip
      ∙ ap (λ (b : Bool). in_boxes (placed_clip s tools.clip) x y && b && paint.has x y) (same x y)
      ∙ ap (λ (b : Bool). in_boxes (placed_clip s tools.clip) x y && in_shape drawn s x y && b) (asked.has x y))
      (λ x y c held t. asked.makes x y c) r)

  -- it is a layer that writes each pixel at most once
  pub painted_layer : (colours : Paint) (tools : Tools) (paint : PaintValue) → IsPaintOf colours tools s paint → (shape : ℕ → ℕ → Bool) (drawn : Shape) → ((x y : ℕ) → shape x y ≡ in_shape drawn s x y) → PaintsShape paint shape old new → CountsLayer old new → DrawsLayer (layer_now drawn colours tools ∷ []) s old new
  painted_layer colours tools paint asked shape drawn same r few = record {
    drawn = painted_drawn colours tools paint asked shape drawn same r;
    rows = same_rows _ _ old new r;
    few = few;
  }

  -- a dot is such a layer too
  pub dot_drawn : (point placed : Point) (colour : Colour) (clip : Clip) (tools : Tools) → placed ≡ placed_point point s → placed_value clip ≡ placed_clip s tools.clip → Repaints (λ x y. in_boxes (placed_value clip) x y && is_pixel placed x y) (λ x y c. colour) old new → DrawsLayers (record { shape = pixel_under point; paint = solid colour; mixing = copied; clip = tools.clip } ∷ []) s old new
  dot_drawn point placed colour clip tools lands boxes r =
      let layer : Layer = record { shape = pixel_under point; paint = solid colour; mixing = copied; clip = tools.clip } in
      layer_drawn layer
      (laws.same (λ x y. in_boxes (placed_value clip) x y && is_pixel placed x y) (writes_pixel layer s) (λ x y c. colour) (ink_of layer s) old new there
      (λ x y held.
      ap (λ (b : ClipValue). in_boxes b x y && is_pixel placed x y) boxes
      ∙ ap (λ (p : Point). in_boxes (placed_clip s tools.clip) x y && is_pixel p x y) lands
      ∙ sym (and-true (in_boxes (placed_clip s tools.clip) x y && is_pixel (placed_point point s) x y)))
      (λ x y c held t. refl) r)

-- a brush other than the null brush fills a layer
pub brush_fills : (brush : Brush) (shape : Shape) (tools : Tools) → (brush ≡ Null → ⊥) → brush_value_of brush ≡ tools.brush → filled shape tools ≡ layer_now shape (brushed_now tools.brush tools) tools ∷ []
brush_fills (Solid colour) shape tools some same = rw (← same) refl
brush_fills Null shape tools some same = absurd (some refl)
brush_fills (Hatched hatch colour) shape tools some same = rw (← same) refl
brush_fills (Tiled tile) shape tools some same = rw (← same) refl

-- a pen with a colour strokes a layer
pub pen_strokes : (outline : Outline) (tools : Tools) (width : ℕ) (colour : Colour) → tools.pen ≡ SolidPen width colour → stroked outline tools ≡ layer_now (stroke_of width tools.map outline) (solid colour) tools ∷ []
pen_strokes outline tools width colour same = rw same refl

-- its nib is that of the pen's width, if the mark is stroked
pub pen_nib : (mark : MarkValue) (tools : Tools) (s : Surface) (width : ℕ) (colour : Colour) (nib drawn : Nib) → nib ≡ drawn → drawn ≡ drawing_nib (record { mark = mark; tools = tools }) s → is_stroked mark ≡ true → tools.pen ≡ SolidPen width colour → nib ≡ nib_of width tools.map s
pen_nib mark tools s width colour nib drawn same is stroked pen = same ∙ is ∙ rw (stroked, pen) refl

-- the current clip, on the surface
pub clip_placed : (s : Surface) (clip : Clip) (dc : Dc) (state : DcValue) → clip ≡ dc.clip → dc_value dc ≡ state → IsPlacedOn s dc.clip → placed_value clip ≡ placed_clip s state.clip
clip_placed s clip dc state same value placed = ap placed_value same ∙ placed ∙ ap (λ (d : DcValue). placed_clip s d.clip) value
