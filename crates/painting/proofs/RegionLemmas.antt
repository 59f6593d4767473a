-- A shape is painted row by row, in a region that contains everything visible of it.
use Rattle.std.proofs.Common.{◌≡◌, ℕ, ◌+◌, ◌<◌, ◌≤◌, Bool, true, false, ◌&&◌, arith, sym, ◌∙◌}
use Rattle.std.proofs.lemmas.Bool.{and_parts, and_from, true≢false}
use Rattle.mapping.specs.TestLaws.{same_test}
use Rattle.mapping.specs.declared.geometry.Rect.{Rect}
use Rattle.canvas.specs.CanvasState.{CanvasState, HasRow}
use Rattle.canvas.specs.Writing.{Repaints}
use Rattle.canvas.specs.WritingLaws.{IsWhole, WritingLaws}
use Rattle.mapping.specs.PixelBoxes.{in_box}
use Rattle.dc_stack.specs.Clip.{in_kept}
use Rattle.span_fill.specs.Spans.{in_region, in_span}
use Rattle.span_fill.specs.declared.span.Region.{Region}
use Rattle.span_fill.specs.declared.span.Span.{Span}
use Rattle.painting.specs.Painted.{PaintValue, PaintsShape}
use Rattle.painting.specs.Regions.{HasVisible}
use Rattle.painting.specs.RowOps.{inked}
use Rattle.painting.specs.RowsPainted.{IsRowOp}
use Rattle.painting.specs.Strips.{is_painted, is_uncut}
use Rattle.painting.specs.declared.row_op.RowOp.{RowOp}
use Rattle.painting.proofs.RowLemmas.{HasRowsPainted, before_first, after_last, nothing_painted, one_row_more, pixel_held, seen, seen_in_rows}
use Rattle.painting.proofs.TestLemmas.{column_from, column_true}

module _
    (paint : PaintValue) (shape : ℕ → ℕ → Bool) (canvas : CanvasState) (laws : WritingLaws) (whole : IsWhole canvas)
    (region : Region) (visible : HasVisible paint.clip shape canvas region) where
  -- without a pixel there is nothing to paint
  pub none_seen : ((x y : ℕ) → in_region region x y ≡ false) → PaintsShape paint shape canvas canvas
  none_seen none = nothing_painted paint shape laws canvas whole (λ x y held h. true≢false (sym (seen paint shape canvas region visible x y held h) ∙ none x y))

  -- no row is painted before the first
  pub rows_begun : HasRowsPainted paint shape region.rows.from canvas canvas
  rows_begun = before_first paint shape laws canvas whole region.rows.from
      (λ x y held h. (seen_in_rows paint shape canvas region visible x y held h).0)

  -- the pixels of a row in the columns and the shape are those in the kept box and the shape
  row_kept : (x y : ℕ) → region.rows.from ≤ y → y < region.rows.to → HasRow canvas y → x < canvas.width → (in_span region.columns x && shape x y) ≡ (in_kept paint.clip.kept x y && shape x y)
  row_kept x y low high held column =
      let row = column_from region.rows.from region.rows.to y low high in
      let pixel = pixel_held canvas x y column held in
      same_test _ _
      (λ h.
      let parts = and_parts (in_span region.columns x) (shape x y) h in
      and_from (in_kept paint.clip.kept x y) (shape x y) (visible.kept x y pixel (and_from (in_span region.columns x) (in_span region.rows y) parts.0 row)) parts.1)
      (λ h.
      let parts = and_parts (in_kept paint.clip.kept x y) (shape x y) h in
      let there = visible.all x y pixel parts.0 parts.1 in
      and_from (in_span region.columns x) (shape x y) (and_parts (in_span region.columns x) (in_span region.rows y) there).0 parts.1)

  -- one more row
  pub row_added :
      (now new : CanvasState) (y : ℕ) (row_op : RowOp) (written : ℕ → Bool) (columns : Span)
      → ((x : ℕ) → written x ≡ (in_span region.columns x && shape x y))
      → IsRowOp paint columns y row_op
      → ((x : ℕ) → written x ≡ true → is_uncut paint.clip.cuts x y ≡ true → in_span columns x ≡ true)
      → region.rows.from ≤ y → y < region.rows.to → HasRow canvas y
      → HasRowsPainted paint shape y canvas now
      → Repaints (is_painted row_op paint.clip.cuts y written) (λ column row old. inked row_op column old) now new
      → HasRowsPainted paint shape (y + 1) canvas new
  row_added now new y row_op written columns same row_ops within low high held so_far row =
      one_row_more paint shape laws canvas whole now new y row_op written row_ops.test
      (λ x old there uncut i.
      let at = column_true columns.from columns.to x (within x there uncut) in
      row_ops.colour x old at.0 at.1 i)
      (λ x column. same x ∙ row_kept x y low high held column)
      so_far row

  -- after the last row everything is painted
  pub rows_done : (now : CanvasState) (y : ℕ) → region.rows.to ≤ y → HasRowsPainted paint shape y canvas now → PaintsShape paint shape canvas now
  rows_done now y end so_far = after_last paint shape laws canvas whole now y
      (λ x r held h. let last = (seen_in_rows paint shape canvas region visible x r held h).1 in omega (arith, last, end))
      so_far

-- the visible columns of a row of a box are those of the box
pub box_row : (region : Region) (box : Rect) → ((x y : ℕ) → in_region region x y ≡ true → in_box box x y ≡ true) → (x y : ℕ) → region.rows.from ≤ y → y < region.rows.to → in_span region.columns x ≡ (in_span region.columns x && in_box box x y)
box_row region box boxed x y low high = same_test _ _
    (λ h.
    let there = and_from (in_span region.columns x) (in_span region.rows y) h (column_from region.rows.from region.rows.to y low high) in
    and_from (in_span region.columns x) (in_box box x y) h (boxed x y there))
    (λ h. (and_parts (in_span region.columns x) (in_box box x y) h).0)
