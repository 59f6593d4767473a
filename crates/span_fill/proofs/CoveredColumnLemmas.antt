-- The columns that a nib covers along a line, of all of it and of some of its rows.
use Rattle.std.proofs.Common.{◌≡◌, ℕ, ◌+◌, ◌<◌, true, ℤ, pos, ◌+ℤ◌, ◌-ℤ◌, ◌≤ℤ◌, ◌<ℤ◌, arith, ◌∙◌}
use Rattle.std.specs.Int.{int_max, int_min}
use Rattle.std.proofs.lemmas.Int.{ints}
use Rattle.mapping.specs.Boxes.{HasPoint}
use Rattle.mapping.specs.Nibs.{IsNib, reach_after, reach_before}
use Rattle.span_fill.specs.MaskCovers.{EndsBefore, EndsFrom, is_in_region, is_in_rows, tall_nib, tall_row}
use Rattle.span_fill.specs.MaskFrames.{row_at}
use Rattle.span_fill.specs.Spans.{in_span}
use Rattle.span_fill.specs.StrokeMasks.{height_of}
use Rattle.span_fill.specs.Strokes.{on_line}
use Rattle.span_fill.specs.WideLines.{HasAllRows, TakesRowAmong, WideLineState, all_columns}
use Rattle.span_fill.specs.WideStrokes.{on_wide_line, row_of}
use Rattle.span_fill.specs.declared.line.Line.{Line}
use Rattle.span_fill.specs.declared.mask_frame.MaskFrame.{MaskFrame}
use Rattle.span_fill.specs.declared.wide_line.WideRow.{WideRow}
use Rattle.span_fill.proofs.CoverLemmas.{any_passes, covered, covers, reaches}
use Rattle.span_fill.proofs.LineBoxLemmas.{on_line_has}
use Rattle.span_fill.proofs.MarkLemmas.{columns_reported, reported}
use Rattle.span_fill.proofs.WideEdgeWindows.{greater_is, lesser_is}

-- two numbers lie between the lesser of them and the greater
record AreBetween (one other least most : ℤ) : Type 0 where
  pub one_least : least ≤ℤ one
  pub other_least : least ≤ℤ other
  pub one_most : one ≤ℤ most
  pub other_most : other ≤ℤ most

by_size : (one other : ℤ) → AreBetween one other (int_min one other) (int_max one other)
by_size one other =
    let lesser = lesser_is one other in
    let greater = greater_is one other in
    record { one_least = lesser.first; other_least = lesser.second; one_most = greater.first; other_most = greater.second }

-- a pixel of a line lies in each box that both its ends lie in
in_box_of_ends :
    (line : Line) (u v l t r b : ℤ) → AreBetween line.from.x line.to.x l r → AreBetween line.from.y line.to.y t b → on_line line u v ≡ true → HasPoint (record { l = l; t = t; r = r; b = b }) (record { x = u; y = v })
in_box_of_ends line u v l t r b across down on =
    on_line_has (record { l = l; t = t; r = r; b = b }) line u v
    (record {
      from = record { left = across.one_least; top = down.one_least; right = across.one_most; bottom = down.one_most };
      to = record { left = across.other_least; top = down.other_least; right = across.other_most; bottom = down.other_most };
    }) on

-- between the columns of its ends
pub between_ends : (line : Line) (u v least most : ℤ) → least ≤ℤ line.from.x → least ≤ℤ line.to.x → line.from.x ≤ℤ most → line.to.x ≤ℤ most → on_line line u v ≡ true → (least ≤ℤ u) × (u ≤ℤ most)
between_ends line u v least most a b c d on =
    let has = in_box_of_ends line u v least _ most _ (record { one_least = a; other_least = b; one_most = c; other_most = d }) (by_size line.from.y line.to.y) on in (has.left, has.right)

-- and between their rows
between_rows : (line : Line) (u v least most : ℤ) → least ≤ℤ line.from.y → least ≤ℤ line.to.y → line.from.y ≤ℤ most → line.to.y ≤ℤ most → on_line line u v ≡ true → (least ≤ℤ v) × (v ≤ℤ most)
between_rows line u v least most a b c d on =
    let has = in_box_of_ends line u v _ least _ most (by_size line.from.x line.to.x) (record { one_least = a; other_least = b; one_most = c; other_most = d }) on in (has.top, has.bottom)

-- a line has no pixel after both its ends
pub ends_before : (line : Line) (row u v : ℤ) → EndsBefore row line → on_line line u v ≡ true → v <ℤ row
ends_before line row u v ends on =
    let rows = by_size line.from.y line.to.y in
    let a = ends.0 in
    let b = ends.1 in
    let last = (between_rows line u v _ (row -ℤ pos 1) rows.one_least rows.other_least (omega (arith, ints, a)) (omega (arith, ints, b)) on).1 in
    omega (arith, ints, last)

-- and none before both
pub ends_from : (line : Line) (row u v : ℤ) → EndsFrom row line → on_line line u v ≡ true → row ≤ℤ v
ends_from line row u v ends on =
    let rows = by_size line.from.y line.to.y in
    (between_rows line u v row _ ends.0 ends.1 rows.one_most rows.other_most on).0

-- what the nib covers in a region is near to a column between the line's ends
pub around_ends :
    (frame : MaskFrame) (line : Line) (least most : ℤ) (x : ℕ) → least ≤ℤ line.from.x → least ≤ℤ line.to.x → line.from.x ≤ℤ most → line.to.x ≤ℤ most → is_in_region frame line x ≡ true
    → ((least -ℤ pos (reach_before frame.nib.x)) ≤ℤ pos (x + frame.region.columns.from)) × (pos (x + frame.region.columns.from) ≤ℤ (most +ℤ pos (reach_after frame.nib.x)))
around_ends frame line least most x a b c d test =
    let y = any_passes (λ y. on_wide_line frame.nib line (pos (x + frame.region.columns.from)) (pos (y + frame.region.rows.from))) (height_of frame.region) test in
    let near = covered frame.nib line (pos (x + frame.region.columns.from)) (pos (y.at + frame.region.rows.from)) y.passes in
    let ends = between_ends line near.u near.v least most a b c d near.on in
    let e = ends.0 in
    let f = ends.1 in
    let g = near.left in
    let h = near.right in
    (omega (arith, ints, e, g), omega (arith, ints, f, h))

-- a nib with as many rows covers what the nib's columns cover in one of some rows of lines
pub tall_covers :
    (frame : MaskFrame) (line : Line) (from count x : ℕ) → IsNib (tall_nib frame count) → is_in_rows frame line from count x ≡ true
    → on_wide_line (tall_nib frame count) line (pos (x + frame.region.columns.from)) (tall_row frame from count) ≡ true
tall_covers frame line from count x is test =
    let k = any_passes (λ k. on_wide_line (row_of frame.nib) line (pos (x + frame.region.columns.from)) (row_at frame (from + k))) count test in
    let near = covered (row_of frame.nib) line (pos (x + frame.region.columns.from)) (row_at frame (from + k.at)) k.passes in
    let below = k.below in
    let above_row = near.above in
    let below_row = near.below in
    let reach = reaches count in
    covers (tall_nib frame count) line (pos (x + frame.region.columns.from)) (tall_row frame from count) is
    (record { u = near.u; v = near.v; on = near.on; left = near.left; right = near.right; above = omega (arith, ints, above_row, below_row, below, reach); below = omega (arith, ints, above_row, below_row, below, reach) })

-- so its columns in that row have them
pub tall_reported :
    (frame : MaskFrame) (line : Line) (w new : WideLineState) (row : WideRow) (from count x : ℕ) → IsNib (tall_nib frame count) → HasAllRows (tall_row frame from count) (tall_row frame from count +ℤ pos 1) w
    → TakesRowAmong all_columns w new row → w.line ≡ line → w.nib ≡ tall_nib frame count → x + frame.region.columns.from < 8192 → is_in_rows frame line from count x ≡ true
    → in_span row.columns (x + frame.region.columns.from) ≡ true
tall_reported frame line w new row from count x is all takes line_is nib_is wide test =
    let first = all.first in
    let end = all.last in
    let left = takes.left in
    let next : w.next ≡ tall_row frame from count = omega (arith, ints, first, end, left) in
    columns_reported w row line (tall_nib frame count) (x + frame.region.columns.from) (tall_row frame from count) (takes.exact (x + frame.region.columns.from) (omega arith, wide)) line_is nib_is next ∙ tall_covers frame line from count x is test

-- and where it has no row there is nothing
pub tall_nothing :
    (frame : MaskFrame) (line : Line) (w : WideLineState) (from count x : ℕ) → IsNib (tall_nib frame count) → HasAllRows (tall_row frame from count) (tall_row frame from count +ℤ pos 1) w → w.end ≤ℤ w.next
    → w.line ≡ line → w.nib ≡ tall_nib frame count → is_in_rows frame line from count x ≡ true → ⊥
tall_nothing frame line w from count x is all ended line_is nib_is test =
    let there = all.all (pos (x + frame.region.columns.from)) (tall_row frame from count) (omega (arith, ints)) (omega (arith, ints))
    (reported w line (tall_nib frame count) (pos (x + frame.region.columns.from)) (tall_row frame from count) line_is nib_is ∙ tall_covers frame line from count x is test) in
    let a = there.0 in
    let b = there.1 in
    omega (arith, ints, a, b, ended)
