-- What the rows of a mask have of a line.
use Rattle.std.proofs.Common.{◌≡◌, ℕ, ◌+◌, ◌-◌, ◌<◌, ◌≤◌, Bool, true, ◌&&◌, ◌||◌, nat_eq, min, max, ℤ, pos, ◌+ℤ◌, ◌-ℤ◌, ap, sym, subst, ◌∙◌, arith}
use Rattle.std.proofs.lemmas.Bool.{and_from, and_parts, eq-eqb, eqb-true}
use Rattle.std.proofs.lemmas.Int.{ints}
use Rattle.mapping.specs.Nibs.{reach_before}
use Rattle.mapping.specs.TestLaws.{same_test}
use Rattle.span_fill.specs.MaskFrames.{IsMaskFrame, depth_of, marks, marks_at, mask_row, row_at, row_count}
use Rattle.span_fill.specs.StrokeMasks.{height_of}
use Rattle.span_fill.specs.WideStrokes.{any_below, covers_by_rows, on_wide_line, row_of}
use Rattle.span_fill.specs.declared.line.Line.{Line}
use Rattle.span_fill.specs.declared.mask_frame.MaskFrame.{MaskFrame}
use Rattle.span_fill.proofs.CoverLemmas.{any_from, any_passes, by_rows, reaches}

-- the rows of lines from which a nib reaches a row of the region are those whose rows of the mask cover it
seen_from : (side height q j : ℕ) → 1 ≤ side → j < height → j ≤ q → q < j + side
    → (j ≤ max (min q (height - 1)) (q - (side - min side height))) × (max (min q (height - 1)) (q - (side - min side height)) < j + min side height)
seen_from side height q j some within first last = (omega (arith, some, within, first, last), omega (arith, some, within, first, last))

seen_by : (side height q j : ℕ) → 1 ≤ side → j < height → q < height + (side - 1) → j ≤ max (min q (height - 1)) (q - (side - min side height))
    → max (min q (height - 1)) (q - (side - min side height)) < j + min side height → (j ≤ q) × (q < j + side)
seen_by side height q j some within all first last = (omega (arith, some, within, all, first, last), omega (arith, some, within, all, first, last))

-- the row of lines that lies so many rows before the last from which the nib reaches row y of the region
row_back : (frame : MaskFrame) (y q j : ℕ) → IsMaskFrame frame → j + q ≡ y + (frame.nib.y - 1)
    → row_at frame q ≡ pos (y + frame.region.rows.from) +ℤ pos (reach_before frame.nib.y) -ℤ pos j
row_back frame y q j is e = let reach = reaches frame.nib.y in omega (arith, ints, e, reach)

-- a row of the region has in its rows of the mask what the nib covers of a line
pub row_of_region : (frame : MaskFrame) (line : Line) (x y : ℕ) → IsMaskFrame frame → y < height_of frame.region
    → any_below (λ d. marks frame line x (y + d)) (depth_of frame) ≡ on_wide_line frame.nib line (pos (x + frame.region.columns.from)) (pos (y + frame.region.rows.from))
row_of_region frame line x y is within =
    same_test _ _ there back ∙ sym (by_rows frame.nib line (pos (x + frame.region.columns.from)) (pos (y + frame.region.rows.from)) is.nib)
  where
    below : ℕ → Bool
    below j = on_wide_line (row_of frame.nib) line (pos (x + frame.region.columns.from)) (pos (y + frame.region.rows.from) +ℤ pos (reach_before frame.nib.y) -ℤ pos j)

    there : any_below (λ d. marks frame line x (y + d)) (depth_of frame) ≡ true → covers_by_rows frame.nib line (pos (x + frame.region.columns.from)) (pos (y + frame.region.rows.from)) ≡ true
    there t =
        let some = is.nib.y.not_empty in
        let d = any_passes (λ d. marks frame line x (y + d)) (depth_of frame) t in
        let q = any_passes (λ q. marks_at frame line x (y + d.at) q) (row_count frame) d.passes in
        let parts = and_parts (nat_eq (y + d.at) (mask_row frame q.at)) (on_wide_line (row_of frame.nib) line (pos (x + frame.region.columns.from)) (row_at frame q.at)) q.passes in
        let same = eqb-true (y + d.at) (mask_row frame q.at) parts.0 in
        let near = d.below in
        let seen = seen_by frame.nib.y (height_of frame.region) q.at y some within q.below (omega (arith, same)) (omega (arith, same, near)) in
        let a = seen.0 in
        let b = seen.1 in
        let e = row_back frame y q.at (y + (frame.nib.y - 1) - q.at) is (omega (arith, a, b)) in
        any_from below frame.nib.y (y + (frame.nib.y - 1) - q.at) (omega (arith, a, some)) (subst (λ (r : ℤ). on_wide_line (row_of frame.nib) line (pos (x + frame.region.columns.from)) r ≡ true) e parts.1)

    back : covers_by_rows frame.nib line (pos (x + frame.region.columns.from)) (pos (y + frame.region.rows.from)) ≡ true → any_below (λ d. marks frame line x (y + d)) (depth_of frame) ≡ true
    back t =
        let some = is.nib.y.not_empty in
        let j = any_passes below frame.nib.y t in
        let near = j.below in
        let seen = seen_from frame.nib.y (height_of frame.region) (y + (frame.nib.y - 1) - j.at) y some within (omega (arith, near)) (omega (arith, some)) in
        let a = seen.0 in
        let b = seen.1 in
        let e = row_back frame y (y + (frame.nib.y - 1) - j.at) j.at is (omega (arith, near)) in
        let place : y + (mask_row frame (y + (frame.nib.y - 1) - j.at) - y) ≡ mask_row frame (y + (frame.nib.y - 1) - j.at) = omega (arith, a) in
        any_from (λ d. marks frame line x (y + d)) (depth_of frame) (mask_row frame (y + (frame.nib.y - 1) - j.at) - y) (omega (arith, a, b))
        (any_from (λ k. marks_at frame line x (y + (mask_row frame (y + (frame.nib.y - 1) - j.at) - y)) k) (row_count frame) (y + (frame.nib.y - 1) - j.at) (omega (arith, within, some))
        (and_from _ _ (eq-eqb (y + (mask_row frame (y + (frame.nib.y - 1) - j.at) - y)) (mask_row frame (y + (frame.nib.y - 1) - j.at)) place)
        (subst (λ (r : ℤ). on_wide_line (row_of frame.nib) line (pos (x + frame.region.columns.from)) r ≡ true) (sym e) j.passes)))

-- the same bit, by what is known of its columns
pub row_set : {new : Bool} (old : Bool) {a b : Bool} (i row : ℕ) → a ≡ b → new ≡ (old || (nat_eq i row && a)) → new ≡ (old || (nat_eq i row && b))
row_set old {a} {b} i row f h = h ∙ ap (λ (t : Bool). old || (nat_eq i row && t)) f
