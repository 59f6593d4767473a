-- What is visible of a shape on a canvas, and what a paint does to it.
use Rattle.std.proofs.Common.{◌≡◌, ℕ, suc, Bool, true, not, ◌&&◌, List, [], ◌∷◌, length, map, arith, refl, ap, sym, ◌∙◌, ◌==◌}
use Rattle.std.proofs.lemmas.Bool.{and_from, and_parts}
use Rattle.std.specs.List.{list_any}
use Rattle.mapping.specs.TestLaws.{same_test}
use Rattle.mapping.specs.declared.geometry.Colour.{Colour}
use Rattle.mapping.specs.declared.geometry.Rect.{Rect}
use Rattle.mapping.specs.declared.mix.Mix.{Mix}
use Rattle.canvas.specs.CanvasState.{CanvasState, HasPixel}
use Rattle.canvas.specs.WritingLaws.{IsWhole, WritingLaws}
use Rattle.mapping.specs.PixelBoxes.{in_box}
use Rattle.dc_stack.specs.Clip.{ClipValue, in_boxes, in_kept}
use Rattle.dc_stack.specs.Values.{cuts_of, placed_value}
use Rattle.dc_stack.specs.declared.clip.Clip.{Clip}
use Rattle.dc_stack.specs.declared.clip.ClipBox.{ClipBox}
use Rattle.span_fill.specs.Spans.{in_region}
use Rattle.span_fill.specs.declared.span.Region.{Region}
use Rattle.painting.specs.Fills.{PutsShape}
use Rattle.painting.specs.Painted.{PaintValue, PaintsShape, SamePaint, mixing_paint, paints}
use Rattle.painting.specs.Regions.{HasRegion, HasVisible}
use Rattle.painting.specs.RowsPainted.{IsSameColour}
use Rattle.painting.proofs.VisitedMaskLemmas.{inside_of}

-- a canvas that contains a region has its pixels
pub region_pixel : (canvas : CanvasState) (region : Region) → HasRegion canvas region → (x y : ℕ) → in_region region x y ≡ true → HasPixel canvas x y
region_pixel canvas region held x y h =
    let inside = inside_of region x y h in
    let column = inside.right in
    let low = inside.top in
    let high = inside.bottom in
    let right = held.right in
    let top = held.top in
    let bottom = held.bottom in
    record {
      column = omega (arith, column, right);
      from_first = omega (arith, low, top);
      to_last = omega (arith, high, bottom);
    }

-- what is visible of a shape is visible of each larger shape
pub seen_within : (clip : ClipValue) (shape part : ℕ → ℕ → Bool) (canvas : CanvasState) (region : Region) → ((x y : ℕ) → part x y ≡ true → shape x y ≡ true) → HasVisible clip shape canvas region → HasVisible clip part canvas region
seen_within clip shape part canvas region within visible = record {
  held = visible.held;
  kept = visible.kept;
  all = λ x y held kept there. visible.all x y held kept (within x y there);
}

-- a region that contains what a clip keeps contains everything visible of every shape
pub all_seen : (clip : ClipValue) (shape : ℕ → ℕ → Bool) (canvas : CanvasState) (region : Region) → HasRegion canvas region → ((x y : ℕ) → HasPixel canvas x y → in_region region x y ≡ in_kept clip.kept x y) → HasVisible clip shape canvas region
all_seen clip shape canvas region held kept = record {
  held = held;
  kept = λ x y pixel h. sym (kept x y pixel) ∙ h;
  all = λ x y pixel h there. kept x y pixel ∙ h;
}

-- nothing is cut out, if the list of boxes to cut out is empty
pub no_cuts : (clip : Clip) (boxes : List ClipBox) → boxes ≡ cuts_of clip → (length boxes == 0) ≡ true → (placed_value clip).cuts ≡ []
no_cuts clip [] same empty = ap (λ (b : List ClipBox). map (λ (box : ClipBox). box.placed) b) (sym same)
no_cuts clip (box ∷ boxes) same empty = absurd (none (length boxes) empty)
  where
    none : (n : ℕ) → (suc n == 0) ≡ true → ⊥
    none n h = grind (arith)

uncut : (x y : ℕ) (cuts : List Rect) → cuts ≡ [] → not (list_any (λ box. in_box box x y) cuts) ≡ true
uncut x y cuts none = rw none refl

module _ (clip : ClipValue) (mix : Mix) (shape : ℕ → ℕ → Bool) (canvas : CanvasState) (region : Region) (visible : HasVisible clip shape canvas region) where
  -- if nothing is cut out, a mix writes the pixels of the shape in the region
  pub seen_uncut : clip.cuts ≡ [] → (x y : ℕ) → HasPixel canvas x y → (in_region region x y && shape x y) ≡ paints (mixing_paint clip mix) shape x y
  seen_uncut none x y held =
      same_test _ _
      (λ h.
      let parts = and_parts (in_region region x y) (shape x y) h in
      let clipped = and_from (in_kept clip.kept x y) (not (list_any (λ box. in_box box x y) clip.cuts)) (visible.kept x y held parts.0) (uncut x y clip.cuts none) in
      and_from (in_boxes clip x y && shape x y) true (and_from (in_boxes clip x y) (shape x y) clipped parts.1) refl)
      (λ h.
      let parts = and_parts (in_boxes clip x y) (shape x y) (and_parts (in_boxes clip x y && shape x y) true h).0 in
      let kept = and_parts (in_kept clip.kept x y) (not (list_any (λ box. in_box box x y) clip.cuts)) parts.0 in
      and_from (in_region region x y) (shape x y) (visible.all x y held kept.0 parts.1) parts.1)

  -- otherwise it writes those of them that the clip contains
  pub seen_clipped : (x y : ℕ) → HasPixel canvas x y → ((in_region region x y && shape x y) && in_boxes clip x y) ≡ paints (mixing_paint clip mix) shape x y
  seen_clipped x y held =
      same_test _ _
      (λ h.
      let a = and_parts (in_region region x y && shape x y) (in_boxes clip x y) h in
      let b = and_parts (in_region region x y) (shape x y) a.0 in
      and_from (in_boxes clip x y && shape x y) true (and_from (in_boxes clip x y) (shape x y) a.1 b.1) refl)
      (λ h.
      let parts = and_parts (in_boxes clip x y) (shape x y) (and_parts (in_boxes clip x y && shape x y) true h).0 in
      let kept = and_parts (in_kept clip.kept x y) (not (list_any (λ box. in_box box x y) clip.cuts)) parts.0 in
      and_from (in_region region x y && shape x y) (in_boxes clip x y) (and_from (in_region region x y) (shape x y) (visible.all x y held kept.0 parts.1) parts.1) parts.0)

-- if nothing is cut out, a paint of one colour writes the pixels of the shape in the region
pub painted_uncut : WritingLaws → (paint : PaintValue) (colour : Colour) (shape : ℕ → ℕ → Bool) (old new : CanvasState) (region : Region) → IsWhole old → HasVisible paint.clip shape old region → paint.clip.cuts ≡ [] → IsSameColour paint colour → PutsShape region shape colour old new → PaintsShape paint shape old new
painted_uncut laws paint colour shape old new region whole visible none same r =
    laws.same (λ x y. in_region region x y && shape x y) (paints paint shape) (λ x y c. colour) paint.makes old new whole
    (λ x y held. seen_uncut paint.clip (record { keep = colour; flip = colour }) shape old region visible none x y held ∙ ap (λ (b : Bool). in_boxes paint.clip x y && shape x y && b) (sym (same.test x y)))
    (λ x y c held t. sym (same.makes x y c))
    r

-- a shape that was painted by one paint was painted by each paint that does the same
pub painted_same : WritingLaws → (one other : PaintValue) (shape : ℕ → ℕ → Bool) (old new : CanvasState) → IsWhole old → SamePaint one other → PaintsShape one shape old new → PaintsShape other shape old new
painted_same laws one other shape old new whole same r =
    laws.same (paints one shape) (paints other shape) one.makes other.makes old new whole
    (λ x y held. ap (λ (clip : ClipValue). in_boxes clip x y && shape x y && one.has x y) same.clip ∙ ap (λ (b : Bool). in_boxes other.clip x y && shape x y && b) (same.has x y))
    (λ x y c held t. same.makes x y c (and_parts (in_boxes one.clip x y && shape x y) (one.has x y) t).1)
    r

-- the same for each shape with the same pixels
pub painted_shape : WritingLaws → (paint : PaintValue) (shape other : ℕ → ℕ → Bool) (old new : CanvasState) → IsWhole old → ((x y : ℕ) → shape x y ≡ other x y) → PaintsShape paint shape old new → PaintsShape paint other old new
painted_shape laws paint shape other old new whole same r =
    laws.same (paints paint shape) (paints paint other) paint.makes paint.makes old new whole
    (λ x y held. ap (λ (b : Bool). in_boxes paint.clip x y && b && paint.has x y) (same x y))
    (λ x y c held t. refl)
    r
