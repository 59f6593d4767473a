-- A line within the largest surface, marked pixel by pixel.
use Rattle.std.proofs.Common.{◌≡◌, ℕ, ◌+◌, ◌<◌, true, nat_eq, ℤ, pos, ◌-ℤ◌, ◌≤ℤ◌, ◌<ℤ◌, refl, ap, sym, subst, ◌∙◌, arith}
use Rattle.std.specs.Prelude.{IsTrue, unsigned_abs}
use Rattle.std.proofs.lemmas.Bool.{and_from, and_parts, eq-eqb, eqb-true}
use Rattle.std.proofs.lemmas.Int.{ints}
use Rattle.mapping.specs.Nibs.{IsNib}
use Rattle.span_fill.specs.LineBoxes.{HasLine}
use Rattle.span_fill.specs.MaskFrames.{first_row, marks_at, marks_in, mask_row, row_at}
use Rattle.span_fill.specs.MaskMarks.{IsAround, largest_surface}
use Rattle.span_fill.specs.Strokes.{on_line, step_at}
use Rattle.span_fill.specs.WideStrokes.{on_wide_line, row_of}
use Rattle.span_fill.specs.declared.line.Line.{Line}
use Rattle.span_fill.specs.declared.mask_frame.MaskFrame.{MaskFrame}
use Rattle.span_fill.specs.declared.pixel.Pixel.{Pixel}
use Rattle.span_fill.proofs.CoverLemmas.{any_from, any_passes, covered, covers}
use Rattle.span_fill.proofs.LineBoxLemmas.{on_line_has}
use Rattle.span_fill.proofs.LineLaw.{line_law, within_steps}

-- the nib's columns, as a nib of one row
row_is_nib : (frame : MaskFrame) → IsNib frame.nib → IsNib (row_of frame.nib)
row_is_nib frame is = record { x = is.x; y = record { not_empty = omega arith; within = omega arith } }

-- a pixel of a line marks the columns around it
pub pixel_marks :
    (frame : MaskFrame) (line : Line) (from count u v x i : ℕ) → IsNib frame.nib → IsTrue (on_line line (pos u) (pos v)) → row_at frame from ≤ℤ pos v → pos v <ℤ row_at frame (from + count)
    → IsAround frame.nib u (x + frame.region.columns.from) → i ≡ mask_row frame (unsigned_abs (pos v -ℤ first_row frame)) → marks_in frame line from count x i ≡ true
pixel_marks frame line from count u v x i is on low high around place =
    let k = unsigned_abs (pos v -ℤ row_at frame from) in
    let there : row_at frame (from + k) ≡ pos v = omega (arith, ints, low) in
    let number : unsigned_abs (pos v -ℤ first_row frame) ≡ from + k = omega (arith, ints, low) in
    let left = around.0 in
    let right = around.1 in
    let near : on_wide_line (row_of frame.nib) line (pos (x + frame.region.columns.from)) (pos v) ≡ true = covers (row_of frame.nib) line (pos (x + frame.region.columns.from)) (pos v) (row_is_nib frame is)
    (record { u = pos u; v = pos v; on = on; left = omega (arith, ints, left); right = omega (arith, ints, right); above = omega (arith, ints); below = omega (arith, ints) }) in
    any_from (λ k. marks_at frame line x i (from + k)) count k (omega (arith, ints, low, high))
    (and_from (nat_eq i (mask_row frame (from + k))) (on_wide_line (row_of frame.nib) line (pos (x + frame.region.columns.from)) (row_at frame (from + k)))
    (eq-eqb i (mask_row frame (from + k)) (place ∙ ap (mask_row frame) number))
    (subst (λ (r : ℤ). on_wide_line (row_of frame.nib) line (pos (x + frame.region.columns.from)) r ≡ true) (sym there) near))

-- what is marked, in a row of the mask, is around a pixel of the line
pub record IsMarkedBy (frame : MaskFrame) (line : Line) (from count x i : ℕ) : Type 0 where
  pub u : ℕ
  pub v : ℕ
  pub on : IsTrue (on_line line (pos u) (pos v))
  pub low : row_at frame from ≤ℤ pos v
  pub high : pos v <ℤ row_at frame (from + count)
  pub column : u < 8192
  pub row : v < 8192
  pub around : IsAround frame.nib u (x + frame.region.columns.from)
  pub place : i ≡ mask_row frame (unsigned_abs (pos v -ℤ first_row frame))

pub marked_by : (frame : MaskFrame) (line : Line) (from count x i : ℕ) → HasLine largest_surface line → marks_in frame line from count x i ≡ true → IsMarkedBy frame line from count x i
marked_by frame line from count x i inside test =
    let k = any_passes (λ k. marks_at frame line x i (from + k)) count test in
    let below = k.below in
    let parts = and_parts (nat_eq i (mask_row frame (from + k.at))) (on_wide_line (row_of frame.nib) line (pos (x + frame.region.columns.from)) (row_at frame (from + k.at))) k.passes in
    let near = covered (row_of frame.nib) line (pos (x + frame.region.columns.from)) (row_at frame (from + k.at)) parts.1 in
    let has = on_line_has largest_surface line near.u near.v inside near.on in
    let l = has.left in
    let r = has.right in
    let t = has.top in
    let b = has.bottom in
    let above = near.above in
    let under = near.below in
    let left = near.left in
    let right = near.right in
    let column : near.u ≡ pos (unsigned_abs near.u) = omega (arith, ints, l) in
    let row : near.v ≡ pos (unsigned_abs near.v) = omega (arith, ints, t) in
    let number : from + k.at ≡ unsigned_abs (pos (unsigned_abs near.v) -ℤ first_row frame) = omega (arith, ints, above, under, row) in
    record {
      u = unsigned_abs near.u;
      v = unsigned_abs near.v;
      on = subst (λ (n : ℤ). on_line line (pos (unsigned_abs near.u)) n ≡ true) row (subst (λ (n : ℤ). on_line line n near.v ≡ true) column near.on);
      low = omega (arith, ints, above, under, row);
      high = omega (arith, ints, above, under, row, below);
      column = omega (arith, ints, l, r);
      row = omega (arith, ints, t, b);
      around = (omega (arith, ints, left, column), omega (arith, ints, right, column));
      place = eqb-true i (mask_row frame (from + k.at)) parts.0 ∙ ap (mask_row frame) number;
    }

-- a line has one pixel at a step
pub same_pixel : (line : Line) (u v : ℕ) (pixel : Pixel) → IsTrue (on_line line (pos u) (pos v)) → IsTrue (on_line line (pos pixel.x) (pos pixel.y)) → step_at line (pos u) (pos v) ≡ step_at line (pos pixel.x) (pos pixel.y) → (u ≡ pixel.x) × (v ≡ pixel.y)
same_pixel line u v pixel here there same =
    let only = (line_law.each line (step_at line (pos pixel.x) (pos pixel.y)) (within_steps line (pos pixel.x) (pos pixel.y) there)).only in
    let a = only (pos u) (pos v) here same in
    let b = only (pos pixel.x) (pos pixel.y) there refl in
    let e = sym a ∙ b in
    let x = ap (λ p. p.x) e in
    let y = ap (λ p. p.y) e in
    (omega (arith, ints, x), omega (arith, ints, y))
