-- A line marked row by row.
use Rattle.std.proofs.Common.{◌≡◌, ℕ, suc, ◌+◌, ◌<◌, Bool, true, false, ◌&&◌, ◌||◌, nat_eq, min, ℤ, pos, ◌-ℤ◌, ◌≤ℤ◌, ◌<ℤ◌, refl, ap, sym, ◌∙◌, arith}
use Rattle.std.specs.Prelude.{◌↔◌, IsTrue, unsigned_abs}
use Rattle.std.proofs.Math.Bool.{or_assoc}
use Rattle.std.proofs.lemmas.Bool.{and_right, false_from_ne_true}
use Rattle.std.proofs.lemmas.Int.{ints}
use Rattle.mapping.specs.declared.nib.Nib.{Nib}
use Rattle.span_fill.specs.MaskFrames.{first_row, marks_at, marks_in, mask_row, row_at}
use Rattle.span_fill.specs.Clips.{IsIn}
use Rattle.span_fill.specs.Spans.{in_span}
use Rattle.span_fill.specs.StrokeMasks.{width_of}
use Rattle.span_fill.specs.WideLines.{HasAllRows, TakesRowAmong, WideLineState}
use Rattle.span_fill.specs.WideStrokes.{on_wide_line, row_of}
use Rattle.span_fill.specs.declared.line.Line.{Line}
use Rattle.span_fill.specs.declared.mask_frame.MaskFrame.{MaskFrame}
use Rattle.span_fill.specs.declared.wide_line.WideRow.{WideRow}
use Rattle.span_fill.proofs.AnyLemmas.{any_more, any_none}
use Rattle.span_fill.proofs.StrokeLemmas.{span_test}

-- how many of so many rows of lines from a row on lie before the next
abbrev pub rows_before : MaskFrame → ℕ → ℕ → ℤ → ℕ
rows_before frame from count next = min (unsigned_abs (next -ℤ row_at frame from)) count

-- rows in which the nib covers nothing mark nothing
nothing_at : (frame : MaskFrame) (line : Line) (x i q : ℕ) → on_wide_line (row_of frame.nib) line (pos (x + frame.region.columns.from)) (row_at frame q) ≡ false → marks_at frame line x i q ≡ false
nothing_at frame line x i q none = and_right (nat_eq i (mask_row frame q)) (on_wide_line (row_of frame.nib) line (pos (x + frame.region.columns.from)) (row_at frame q)) none

-- what a wide line tells of a line and a nib
pub reported : (w : WideLineState) (line : Line) (nib : Nib) (x y : ℤ) → w.line ≡ line → w.nib ≡ nib → on_wide_line w.nib w.line x y ≡ on_wide_line nib line x y
reported w line nib x y line_is nib_is = ap (λ (l : Line). on_wide_line w.nib l x y) line_is ∙ ap (λ (n : Nib). on_wide_line n line x y) nib_is

-- the first rows, before the first that the nib covers something of
pub none_before :
    (frame : MaskFrame) (line : Line) (w : WideLineState) (from count x i : ℕ) → HasAllRows (row_at frame from) (row_at frame (from + count)) w → w.line ≡ line → w.nib ≡ row_of frame.nib
    → marks_in frame line from (rows_before frame from count w.next) x i ≡ false
none_before frame line w from count x i all line_is nib_is =
    any_none (λ k. marks_at frame line x i (from + k)) (rows_before frame from count w.next)
    (λ k below. nothing_at frame line x i (from + k) (false_from_ne_true _ (λ t.
    let first = all.first in
    let here = reported w line (row_of frame.nib) (pos (x + frame.region.columns.from)) (row_at frame (from + k)) line_is nib_is ∙ t in
    let late = (all.all (pos (x + frame.region.columns.from)) (row_at frame (from + k)) (omega (arith, ints)) (omega (arith, ints, below)) here).0 in
    omega (arith, ints, below, late, first))))

-- the rows behind the last
pub none_after :
    (nib : Nib) (line : Line) (w : WideLineState) (from to x y : ℤ) → HasAllRows from to w → w.line ≡ line → w.nib ≡ nib → from ≤ℤ y → w.end ≤ℤ y → y <ℤ to
    → on_wide_line nib line x y ≡ false
none_after nib line w from to x y all line_is nib_is first after last = false_from_ne_true _ (λ t.
    let early = (all.all x y first last (reported w line nib x y line_is nib_is ∙ t)).1 in
    omega (arith, ints, after, early))

-- the columns of a row are what the nib covers there
pub columns_reported :
    (w : WideLineState) (row : WideRow) (line : Line) (nib : Nib) (x : ℕ) (y : ℤ) → IsIn row.columns x ↔ IsTrue (on_wide_line w.nib w.line (pos x) w.next) → w.line ≡ line → w.nib ≡ nib → w.next ≡ y
    → in_span row.columns x ≡ on_wide_line nib line (pos x) y
columns_reported w row line nib x y exact line_is nib_is next =
    span_test row.columns x (on_wide_line w.nib w.line (pos x) w.next) exact ∙ reported w line nib (pos x) w.next line_is nib_is ∙ ap (λ (r : ℤ). on_wide_line nib line (pos x) r) next

-- one row more
pub row_more :
    (frame : MaskFrame) (line : Line) (w new : WideLineState) (row : WideRow) {bit old : Bool} (start : Bool) (from count x i : ℕ) → TakesRowAmong frame.region.columns w new row → w.line ≡ line → w.nib ≡ row_of frame.nib
    → row_at frame from ≤ℤ w.next → w.end ≤ℤ row_at frame (from + count) → x < width_of frame.region
    → bit ≡ (old || (nat_eq i (mask_row frame (unsigned_abs (row.y -ℤ first_row frame))) && in_span row.columns (x + frame.region.columns.from)))
    → old ≡ (start || marks_in frame line from (rows_before frame from count w.next) x i) → bit ≡ (start || marks_in frame line from (rows_before frame from count new.next) x i)
row_more frame line w new row {bit} {old} start from count x i takes line_is nib_is first last wide set before =
    let left = takes.left in
    let next = takes.next in
    let y = takes.row in
    let here : rows_before frame from count w.next ≡ unsigned_abs (w.next -ℤ row_at frame from) = omega (arith, ints, first, left, last) in
    let after : rows_before frame from count new.next ≡ suc (unsigned_abs (w.next -ℤ row_at frame from)) = omega (arith, ints, first, left, last, next) in
    let place : w.next ≡ row_at frame (from + unsigned_abs (w.next -ℤ row_at frame from)) = omega (arith, ints, first) in
    let number : unsigned_abs (row.y -ℤ first_row frame) ≡ from + unsigned_abs (w.next -ℤ row_at frame from) = omega (arith, ints, first, y) in
    set
    ∙ ap (λ (q : ℕ). old || (nat_eq i (mask_row frame q) && in_span row.columns (x + frame.region.columns.from))) number
    ∙ ap (λ (b : Bool). old || (nat_eq i (mask_row frame (from + unsigned_abs (w.next -ℤ row_at frame from))) && b))
    (columns_reported w row line (row_of frame.nib) (x + frame.region.columns.from) (row_at frame (from + unsigned_abs (w.next -ℤ row_at frame from))) (takes.exact (x + frame.region.columns.from) (omega arith, omega (arith, wide))) line_is nib_is place)
    ∙ ap (λ (b : Bool). b || marks_at frame line x i (from + unsigned_abs (w.next -ℤ row_at frame from))) (before ∙ ap (λ n. start || marks_in frame line from n x i) here)
    ∙ last_first start (marks_in frame line from (unsigned_abs (w.next -ℤ row_at frame from)) x i) (marks_at frame line x i (from + unsigned_abs (w.next -ℤ row_at frame from)))
    ∙ ap (λ n. start || marks_in frame line from n x i) (sym after)
  where
    last_first : (a b c : Bool) → ((a || b) || c) ≡ (a || (c || b))
    last_first true b c = refl
    last_first false true true = refl
    last_first false true false = refl
    last_first false false true = refl
    last_first false false false = refl

-- all rows
pub all_marked :
    (frame : MaskFrame) (line : Line) (from count : ℕ) (next end : ℤ) (x i : ℕ) → end ≤ℤ next → row_at frame from ≤ℤ next
    → ((x y : ℤ) → row_at frame from ≤ℤ y → end ≤ℤ y → y <ℤ row_at frame (from + count) → on_wide_line (row_of frame.nib) line x y ≡ false)
    → marks_in frame line from (rows_before frame from count next) x i ≡ marks_in frame line from count x i
all_marked frame line from count next end x i ended first none =
    any_more (λ k. marks_at frame line x i (from + k)) (rows_before frame from count next) count (omega arith)
    (λ k low high.
    nothing_at frame line x i (from + k) (none (pos (x + frame.region.columns.from)) (row_at frame (from + k)) (omega (arith, ints)) (omega (arith, ints, low, high, ended, first)) (omega (arith, ints, high))))

-- one line more
pub line_more : (a b c : Bool) {d : Bool} → d ≡ (a || b) → (d || c) ≡ (a || (b || c))
line_more a b c e = ap (λ (t : Bool). t || c) e ∙ or_assoc a b c
