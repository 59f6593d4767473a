-- What marked rows cover once they are widened, and what is known to be covered.
use Rattle.std.proofs.Common.{◌≡◌, ℕ, ◌+◌, ◌-◌, ◌<◌, ◌≤◌, Bool, true, false, ◌||◌, nat_eq, pos, refl, ap, sym, ◌∙◌, arith}
use Rattle.std.proofs.Math.Bool.{or-false}
use Rattle.std.proofs.lemmas.Bool.{and_left, and_parts, ne_eqb, or_left}
use Rattle.std.proofs.lemmas.Int.{ints}
use Rattle.mapping.specs.TestLaws.{by_either, same_test}
use Rattle.span_fill.specs.BitRows.{BitRowsState, has_bit}
use Rattle.span_fill.specs.MaskCovers.{AreAmong, AreKnown, CoversLine, CoversRows, CoversToo, EndsBefore, EndsFrom, IsSpanCovered, KeepsLastRow, KnowsCovered, covers_in, is_covered, is_in_region, is_in_rows, last_row}
use Rattle.span_fill.specs.MaskFrames.{IsMaskFrame, depth_of, first_row, marks, marks_at, marks_in, mask_row, row_at, row_count, spare_of}
use Rattle.span_fill.specs.MaskMarks.{MarksLine, MarksRows, SetsToo}
use Rattle.span_fill.specs.Spans.{in_span}
use Rattle.span_fill.specs.StrokeMasks.{height_of}
use Rattle.span_fill.specs.WideStrokes.{any_below, on_wide_line, row_of}
use Rattle.span_fill.specs.declared.line.Line.{Line}
use Rattle.span_fill.specs.declared.mask_frame.MaskFrame.{MaskFrame}
use Rattle.span_fill.specs.declared.span.Span.{Span}
use Rattle.span_fill.proofs.AnyLemmas.{any_none, any_or, any_same}
use Rattle.span_fill.proofs.CoverLemmas.{any_from, any_passes, covered, reaches}
use Rattle.span_fill.proofs.CoveredColumnLemmas.{ends_before, ends_from}
use Rattle.span_fill.proofs.MaskRowLemmas.{row_of_region}
use Rattle.span_fill.proofs.SharedRowLemmas.{three_parts}
use Rattle.span_fill.proofs.SpanLemmas.{is_in}

-- bits that are set too are covered too
pub covered_too : (frame : MaskFrame) (test : ℕ → ℕ → Bool) (old new : BitRowsState) → SetsToo frame test old new → CoversToo frame (λ x y. any_below (λ d. test x (y + d)) (depth_of frame)) old new
covered_too frame test old new sets x y wide high =
    any_same (λ d. has_bit new x (y + d)) (λ d. has_bit old x (y + d) || test x (y + d)) (depth_of frame) (λ d below. sets x (y + d) wide (omega (arith, high, below)))
    ∙ any_or (λ d. has_bit old x (y + d)) (λ d. test x (y + d)) (depth_of frame)

-- what is marked of a line covers what the nib does
pub line_covered : (frame : MaskFrame) (line : Line) (old new : BitRowsState) → IsMaskFrame frame → MarksLine frame line old new → CoversLine frame line old new
line_covered frame line old new is marked x y wide high =
    covered_too frame (λ x i. marks frame line x i) old new marked x y wide high ∙ ap (λ (b : Bool). is_covered frame old x y || b) (row_of_region frame line x y is high)

-- rows of lines have rows of the mask before the last
pub before_last : (frame : MaskFrame) (q : ℕ) → IsMaskFrame frame → 1 ≤ height_of frame.region → q < row_count frame → mask_row frame q < last_row frame
before_last frame q is some below = let side = is.nib.y.not_empty in omega (arith, some, below, side)

apart : (frame : MaskFrame) (line : Line) (x q : ℕ) → IsMaskFrame frame → 1 ≤ height_of frame.region → q < row_count frame → marks_at frame line x (last_row frame) q ≡ false
apart frame line x q is some below =
    let before = before_last frame q is some below in
    and_left (nat_eq (last_row frame) (mask_row frame q)) (on_wide_line (row_of frame.nib) line (pos (x + frame.region.columns.from)) (row_at frame q)) (ne_eqb (last_row frame) (mask_row frame q) (λ e. omega (arith, before, e)))

-- rows that are marked leave the last row as it is
pub rows_keep_last :
    (frame : MaskFrame) (line : Line) (from count : ℕ) (old new : BitRowsState) → IsMaskFrame frame → 1 ≤ height_of frame.region → from + count ≤ row_count frame
    → MarksRows frame line from count old new → KeepsLastRow frame old new
rows_keep_last frame line from count old new is some within marked x wide =
    marked x (last_row frame) wide (omega (arith, some))
    ∙ ap (λ (b : Bool). has_bit old x (last_row frame) || b) (any_none (λ k. marks_at frame line x (last_row frame) (from + k)) count (λ k below. apart frame line x (from + k) is some (omega (arith, within, below))))
    ∙ or-false (has_bit old x (last_row frame))

pub line_keeps_last : (frame : MaskFrame) (line : Line) (old new : BitRowsState) → IsMaskFrame frame → 1 ≤ height_of frame.region → MarksLine frame line old new → KeepsLastRow frame old new
line_keeps_last frame line old new is some marked x wide =
    marked x (last_row frame) wide (omega (arith, some))
    ∙ ap (λ (b : Bool). has_bit old x (last_row frame) || b) (any_none (λ q. marks_at frame line x (last_row frame) q) (row_count frame) (λ q below. apart frame line x q is some below))
    ∙ or-false (has_bit old x (last_row frame))

-- what was known to be covered still is
pub known_still : (frame : MaskFrame) (test : ℕ → ℕ → Bool) (old new : BitRowsState) → CoversToo frame test old new → KeepsLastRow frame old new → KnowsCovered frame old → KnowsCovered frame new
known_still frame test old new covers keeps known x y wide high set =
    covers x y wide high ∙ or_left (is_covered frame old x y) (test x y) (known x y wide high (sym (keeps x wide) ∙ set))

-- rows of lines in columns that are known to be covered add nothing
pub rows_spared : (frame : MaskFrame) (line : Line) (from count : ℕ) (bits : BitRowsState) → KnowsCovered frame bits → AreKnown frame bits (is_in_rows frame line from count) → CoversRows frame line from count bits bits
rows_spared frame line from count bits known there x y wide high =
    same_test (is_covered frame bits x y) (is_covered frame bits x y || covers_in frame line from count x y)
    (λ t. or_left (is_covered frame bits x y) (covers_in frame line from count x y) t)
    (λ t. by_either (is_covered frame bits x y) (covers_in frame line from count x y) t
    (λ (h : is_covered frame bits x y ≡ true). h)
    (λ (h : covers_in frame line from count x y ≡ true).
    let d = any_passes (λ d. marks_in frame line from count x (y + d)) (depth_of frame) h in
    let k = any_passes (λ k. marks_at frame line x (y + d.at) (from + k)) count d.passes in
    let parts = and_parts (nat_eq (y + d.at) (mask_row frame (from + k.at))) (on_wide_line (row_of frame.nib) line (pos (x + frame.region.columns.from)) (row_at frame (from + k.at))) k.passes in
    known x y wide high (there x wide (any_from (λ k. on_wide_line (row_of frame.nib) line (pos (x + frame.region.columns.from)) (row_at frame (from + k))) count k.at k.below parts.1))))

-- nor does a line in a span of columns that is covered
pub line_spared :
    (frame : MaskFrame) (line : Line) (bits : BitRowsState) (columns : Span) → IsSpanCovered frame bits columns
    → AreAmong frame (is_in_region frame line) columns → CoversLine frame line bits bits
line_spared frame line bits columns covered there x y wide high =
    let on = on_wide_line frame.nib line (pos (x + frame.region.columns.from)) (pos (y + frame.region.rows.from)) in
    same_test (is_covered frame bits x y) (is_covered frame bits x y || on)
    (λ t. or_left (is_covered frame bits x y) on t)
    (λ t. by_either (is_covered frame bits x y) on t
    (λ (h : is_covered frame bits x y ≡ true). h)
    (λ (h : on ≡ true).
    covered x y wide high (there x wide (any_from (λ y. on_wide_line frame.nib line (pos (x + frame.region.columns.from)) (pos (y + frame.region.rows.from))) (height_of frame.region) y high h))))

-- what is covered where nothing is added
nothing_added : (before added : Bool) → (added ≡ true → ⊥) → before ≡ (before || added)
nothing_added true added none = refl
nothing_added false true none = absurd (none refl)
nothing_added false false none = refl

-- nor does a line above the rows from which the nib reaches the region
pub above_spared : (frame : MaskFrame) (line : Line) (bits : BitRowsState) → EndsBefore (first_row frame) line → CoversLine frame line bits bits
above_spared frame line bits ends x y wide high =
    nothing_added (is_covered frame bits x y) (on_wide_line frame.nib line (pos (x + frame.region.columns.from)) (pos (y + frame.region.rows.from)))
    (λ on.
    let near = covered frame.nib line (pos (x + frame.region.columns.from)) (pos (y + frame.region.rows.from)) on in
    let before = ends_before line (first_row frame) near.u near.v ends near.on in
    let below = near.below in
    omega (arith, ints, before, below))

-- or below them
pub below_spared : (frame : MaskFrame) (line : Line) (bits : BitRowsState) → IsMaskFrame frame → EndsFrom (row_at frame (row_count frame)) line → CoversLine frame line bits bits
below_spared frame line bits is ends x y wide high =
    nothing_added (is_covered frame bits x y) (on_wide_line frame.nib line (pos (x + frame.region.columns.from)) (pos (y + frame.region.rows.from)))
    (λ on.
    let near = covered frame.nib line (pos (x + frame.region.columns.from)) (pos (y + frame.region.rows.from)) on in
    let after = ends_from line (row_at frame (row_count frame)) near.u near.v ends near.on in
    let above = near.above in
    let some = is.nib.y.not_empty in
    let reach = reaches frame.nib.y in
    omega (arith, ints, after, above, high, some, reach))

-- no number is among none
pub nothing_within : (x : ℕ) → in_span (record { from = 0; to = 0 }) x ≡ true → ⊥
nothing_within x inside =
    let column = is_in (record { from = 0; to = 0 }) x inside in
    let below = column.1 in
    omega (arith, below)

-- columns in which all pixels are covered stay so
pub span_still : (frame : MaskFrame) (line : Line) (old new : BitRowsState) (columns : Span) → CoversLine frame line old new → IsSpanCovered frame old columns → IsSpanCovered frame new columns
span_still frame line old new columns covers covered x y wide high inside =
    covers x y wide high ∙ or_left (is_covered frame old x y) (on_wide_line frame.nib line (pos (x + frame.region.columns.from)) (pos (y + frame.region.rows.from))) (covered x y wide high inside)

-- all rows of a line, none of which shares its row of the mask
pub all_covered : (frame : MaskFrame) (line : Line) (count : ℕ) (old new : BitRowsState) → IsMaskFrame frame → count ≡ row_count frame → CoversRows frame line 0 count old new → CoversLine frame line old new
all_covered frame line count old new is all rows x y wide high =
    rows x y wide high
    ∙ ap (λ (b : Bool). is_covered frame old x y || b)
    (any_same (λ d. marks_in frame line 0 count x (y + d)) (λ d. marks frame line x (y + d)) (depth_of frame) (λ d below. whole x (y + d))
    ∙ row_of_region frame line x y is high)
  where
    whole : (x i : ℕ) → marks_in frame line 0 count x i ≡ marks frame line x i
    whole x i = any_same (λ k. marks_at frame line x i (0 + k)) (λ q. marks_at frame line x i q) count (λ k below. let z : 0 + k ≡ k = omega arith in ap (marks_at frame line x i) z) ∙ ap (any_below (λ q. marks_at frame line x i q)) all

-- a line in three parts
pub parts_covered :
    (frame : MaskFrame) (line : Line) (before spare : ℕ) (old one two new : BitRowsState) → IsMaskFrame frame → before ≡ height_of frame.region - 1 → spare ≡ spare_of frame → 1 ≤ height_of frame.region
    → (spare ≡ 0 → ⊥) → CoversRows frame line 0 before old one → CoversRows frame line (height_of frame.region - 1) (spare_of frame + 1) one two → CoversRows frame line (before + 1 + spare) before two new
    → CoversLine frame line old new
parts_covered frame line before spare old one two new is e f some more first second third x y wide high =
    third x y wide high
    ∙ ap (λ (b : Bool). b || covers_in frame line (before + 1 + spare) before x y)
    (second x y wide high ∙ ap (λ (b : Bool). b || covers_in frame line (height_of frame.region - 1) (spare_of frame + 1) x y) (first x y wide high))
    ∙ grouped (is_covered frame old x y) (covers_in frame line 0 before x y) (covers_in frame line (height_of frame.region - 1) (spare_of frame + 1) x y) (covers_in frame line (before + 1 + spare) before x y)
    ∙ ap (λ (b : Bool). is_covered frame old x y || b)
    (ap (λ (b : Bool). b || covers_in frame line (before + 1 + spare) before x y) (sym (any_or (λ d. marks_in frame line 0 before x (y + d)) (λ d. marks_in frame line (height_of frame.region - 1) (spare_of frame + 1) x (y + d)) (depth_of frame)))
    ∙ sym (any_or (λ d. marks_in frame line 0 before x (y + d) || marks_in frame line (height_of frame.region - 1) (spare_of frame + 1) x (y + d)) (λ d. marks_in frame line (before + 1 + spare) before x (y + d)) (depth_of frame))
    ∙ any_same (λ d. (marks_in frame line 0 before x (y + d) || marks_in frame line (height_of frame.region - 1) (spare_of frame + 1) x (y + d)) || marks_in frame line (before + 1 + spare) before x (y + d)) (λ d. marks frame line x (y + d)) (depth_of frame)
    (λ d below. three_parts frame line false before spare x (y + d) e f some more refl refl refl)
    ∙ row_of_region frame line x y is high)
  where
    grouped : (a b c d : Bool) → (((a || b) || c) || d) ≡ (a || ((b || c) || d))
    grouped true b c d = refl
    grouped false b c d = refl
