-- A lone line is stroked step by step.
use Rattle.std.proofs.Common.{◌≡◌, ℕ, pos, ◌&&◌, Bool, [], refl, ap, ◌∙◌}
use Rattle.mapping.specs.Mixes.{mixed_by}
use Rattle.mapping.specs.declared.mix.Mix.{Mix}
use Rattle.canvas.specs.CanvasState.{CanvasState, HasPixel}
use Rattle.canvas.specs.Writing.{Repaints}
use Rattle.canvas.specs.WritingLaws.{IsWhole, WritingLaws}
use Rattle.dc_stack.specs.Clip.{ClipValue, in_boxes, in_kept}
use Rattle.span_fill.specs.Spans.{in_region}
use Rattle.span_fill.specs.Steps.{HasAllSteps, StepsState}
use Rattle.span_fill.specs.Strokes.{on_line}
use Rattle.span_fill.specs.declared.line.Line.{Line}
use Rattle.span_fill.specs.declared.span.Region.{Region}
use Rattle.painting.specs.LinePixels.{is_to_step, is_visible}
use Rattle.painting.specs.Painted.{PaintsShape, mixing_paint, paints}
use Rattle.painting.specs.Regions.{HasRegion}
use Rattle.painting.proofs.LinePixelLemmas.{all_to_step}
use Rattle.painting.proofs.VisibleLemmas.{all_seen, seen_clipped, seen_uncut}

-- all steps of a line in a region remain
pub steps_visible : (steps : StepsState) (line : Line) (region : Region) → steps.line ≡ line → steps.region ≡ region → HasAllSteps steps → (x y : ℕ) → is_to_step steps x y ≡ is_visible region line x y
steps_visible steps line region same there all x y =
    all_to_step steps all x y
    ∙ ap (λ (r : Region). is_visible r steps.line x y) there
    ∙ ap (λ (l : Line). is_visible region l x y) same

module _
    (laws : WritingLaws) (clip : ClipValue) (mix : Mix) (line : Line) (steps : StepsState) (region : Region) (old new : CanvasState) (whole : IsWhole old) (held : HasRegion old region)
    (kept : (x y : ℕ) → HasPixel old x y → in_region region x y ≡ in_kept clip.kept x y)
    (same : steps.line ≡ line) (there : steps.region ≡ region) (all : HasAllSteps steps) where
  -- if nothing is cut out, they are what is stroked
  pub stepped : clip.cuts ≡ [] → Repaints (is_to_step steps) (λ x y c. mixed_by mix c) old new → PaintsShape (mixing_paint clip mix) (λ x y. on_line line (pos x) (pos y)) old new
  stepped none r =
      let shape = λ (x y : ℕ). on_line line (pos x) (pos y) in
      laws.same (is_to_step steps) (paints (mixing_paint clip mix) shape) (λ x y c. mixed_by mix c) (mixing_paint clip mix).makes old new whole
      (λ x y pixel. steps_visible steps line region same there all x y ∙ seen_uncut clip mix shape old region (all_seen clip shape old region held kept) none x y pixel)
      (λ x y c pixel t. refl)
      r

  -- otherwise those that the clip contains are
  pub stepped_clipped : Repaints (λ x y. is_to_step steps x y && in_boxes clip x y) (λ x y c. mixed_by mix c) old new → PaintsShape (mixing_paint clip mix) (λ x y. on_line line (pos x) (pos y)) old new
  stepped_clipped r =
      let shape = λ (x y : ℕ). on_line line (pos x) (pos y) in
      laws.same (λ x y. is_to_step steps x y && in_boxes clip x y) (paints (mixing_paint clip mix) shape) (λ x y c. mixed_by mix c) (mixing_paint clip mix).makes old new whole
      (λ x y pixel.
      ap (λ (b : Bool). b && in_boxes clip x y) (steps_visible steps line region same there all x y)
      ∙ seen_clipped clip mix shape old region (all_seen clip shape old region held kept) x y pixel)
      (λ x y c pixel t. refl)
      r
