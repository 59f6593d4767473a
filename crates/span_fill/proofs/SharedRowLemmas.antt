-- The rows of lines that share a row of the mask, and all rows of a line in three parts.
use Rattle.std.proofs.Common.{◌≡◌, ℕ, ◌+◌, ◌-◌, ◌<◌, ◌≤◌, Bool, true, false, ◌&&◌, ◌||◌, nat_eq, min, ℤ, pos, ◌+ℤ◌, ◌-ℤ◌, ◌≤ℤ◌, refl, ap, sym, subst, ◌∙◌, arith}
use Rattle.std.proofs.Math.Bool.{or-false}
use Rattle.std.proofs.lemmas.Bool.{and_from, and_parts, and_right, eq-eqb, eqb-true, false_from_ne_true}
use Rattle.std.proofs.lemmas.Int.{ints}
use Rattle.mapping.specs.Nibs.{IsNib, reach_before}
use Rattle.mapping.specs.TestLaws.{same_test}
use Rattle.span_fill.specs.MaskFrames.{marks, marks_at, marks_in, mask_row, row_at, row_count, shared_nib, shared_row, spare_of}
use Rattle.span_fill.specs.Spans.{in_span}
use Rattle.span_fill.specs.StrokeMasks.{height_of}
use Rattle.span_fill.specs.WideLines.{HasAllRows, TakesRowAmong, WideLineState, all_columns}
use Rattle.span_fill.specs.WideStrokes.{any_below, covers_by_rows, on_wide_line, row_of}
use Rattle.span_fill.specs.declared.line.Line.{Line}
use Rattle.span_fill.specs.declared.mask_frame.MaskFrame.{MaskFrame}
use Rattle.span_fill.specs.declared.wide_line.WideRow.{WideRow}
use Rattle.span_fill.proofs.AnyLemmas.{any_same, any_three}
use Rattle.span_fill.proofs.CoverLemmas.{any_from, any_passes, by_rows, reaches}
use Rattle.span_fill.proofs.MarkLemmas.{columns_reported, reported}

-- they do
shares : (frame : MaskFrame) (k : ℕ) → 1 ≤ height_of frame.region → k < spare_of frame + 1 → mask_row frame (height_of frame.region - 1 + k) ≡ height_of frame.region - 1
shares frame k some below = omega (arith, some, below)

-- the row that lies so many before the last of them
row_back : (frame : MaskFrame) (k j : ℕ) → k + j ≡ spare_of frame → shared_row frame +ℤ pos (reach_before (spare_of frame + 1)) -ℤ pos j ≡ row_at frame (height_of frame.region - 1 + k)
row_back frame k j e = let reach = reaches (spare_of frame + 1) in omega (arith, ints, e, reach)

-- what the shared nib covers, led along the line, is what they mark
pub shared_marks :
    (frame : MaskFrame) (line : Line) (x i : ℕ) → IsNib (shared_nib frame) → 1 ≤ height_of frame.region
    → (nat_eq i (height_of frame.region - 1) && on_wide_line (shared_nib frame) line (pos (x + frame.region.columns.from)) (shared_row frame))
    ≡ marks_in frame line (height_of frame.region - 1) (spare_of frame + 1) x i
shared_marks frame line x i is some =
    ap (λ (b : Bool). nat_eq i (height_of frame.region - 1) && b) (by_rows (shared_nib frame) line (pos (x + frame.region.columns.from)) (shared_row frame) is) ∙ same_test _ _ there back
  where
    below : ℕ → Bool
    below j = on_wide_line (row_of frame.nib) line (pos (x + frame.region.columns.from)) (shared_row frame +ℤ pos (reach_before (spare_of frame + 1)) -ℤ pos j)

    there : (nat_eq i (height_of frame.region - 1) && covers_by_rows (shared_nib frame) line (pos (x + frame.region.columns.from)) (shared_row frame)) ≡ true
        → marks_in frame line (height_of frame.region - 1) (spare_of frame + 1) x i ≡ true
    there t =
        let parts = and_parts (nat_eq i (height_of frame.region - 1)) (any_below below (spare_of frame + 1)) t in
        let j = any_passes below (spare_of frame + 1) parts.1 in
        let near = j.below in
        let place = eqb-true i (height_of frame.region - 1) parts.0 in
        let same = shares frame (spare_of frame - j.at) some (omega arith) in
        any_from (λ k. marks_at frame line x i (height_of frame.region - 1 + k)) (spare_of frame + 1) (spare_of frame - j.at) (omega arith)
        (and_from _ _ (eq-eqb i (mask_row frame (height_of frame.region - 1 + (spare_of frame - j.at))) (place ∙ sym same))
        (subst (λ (r : ℤ). on_wide_line (row_of frame.nib) line (pos (x + frame.region.columns.from)) r ≡ true) (row_back frame (spare_of frame - j.at) j.at (omega (arith, near))) j.passes))

    back : marks_in frame line (height_of frame.region - 1) (spare_of frame + 1) x i ≡ true
        → (nat_eq i (height_of frame.region - 1) && covers_by_rows (shared_nib frame) line (pos (x + frame.region.columns.from)) (shared_row frame)) ≡ true
    back t =
        let k = any_passes (λ k. marks_at frame line x i (height_of frame.region - 1 + k)) (spare_of frame + 1) t in
        let near = k.below in
        let parts = and_parts (nat_eq i (mask_row frame (height_of frame.region - 1 + k.at))) (on_wide_line (row_of frame.nib) line (pos (x + frame.region.columns.from)) (row_at frame (height_of frame.region - 1 + k.at))) k.passes in
        let place = eqb-true i (mask_row frame (height_of frame.region - 1 + k.at)) parts.0 ∙ shares frame k.at some near in
        and_from _ _ (eq-eqb i (height_of frame.region - 1) place)
        (any_from below (spare_of frame + 1) (spare_of frame - k.at) (omega arith)
        (subst (λ (r : ℤ). on_wide_line (row_of frame.nib) line (pos (x + frame.region.columns.from)) r ≡ true) (sym (row_back frame k.at (spare_of frame - k.at) (omega (arith, near)))) parts.1))

-- the shared row, where the nib covers something there
pub shared_set :
    (frame : MaskFrame) (line : Line) (w new : WideLineState) (row : WideRow) {bit : Bool} (old : Bool) (place x i : ℕ) → IsNib (shared_nib frame) → 1 ≤ height_of frame.region
    → HasAllRows (shared_row frame) (shared_row frame +ℤ pos 1) w → TakesRowAmong all_columns w new row → w.line ≡ line → w.nib ≡ shared_nib frame → x + frame.region.columns.from < 8192
    → place ≡ height_of frame.region - 1 → bit ≡ (old || (nat_eq i place && in_span row.columns (x + frame.region.columns.from)))
    → bit ≡ (old || marks_in frame line (height_of frame.region - 1) (spare_of frame + 1) x i)
shared_set frame line w new row {bit} old place x i is some all takes line_is nib_is wide last set =
    let first = all.first in
    let end = all.last in
    let left = takes.left in
    let next : w.next ≡ shared_row frame = omega (arith, ints, first, end, left) in
    set
    ∙ ap (λ (q : ℕ). old || (nat_eq i q && in_span row.columns (x + frame.region.columns.from))) last
    ∙ ap (λ (b : Bool). old || (nat_eq i (height_of frame.region - 1) && b)) (columns_reported w row line (shared_nib frame) (x + frame.region.columns.from) (shared_row frame) (takes.exact (x + frame.region.columns.from) (omega arith, wide)) line_is nib_is next)
    ∙ ap (λ (b : Bool). old || b) (shared_marks frame line x i is some)

-- and where it covers nothing
pub shared_nothing :
    (frame : MaskFrame) (line : Line) (w : WideLineState) (old : Bool) (x i : ℕ) → IsNib (shared_nib frame) → 1 ≤ height_of frame.region
    → HasAllRows (shared_row frame) (shared_row frame +ℤ pos 1) w → w.end ≤ℤ w.next → w.line ≡ line → w.nib ≡ shared_nib frame
    → old ≡ (old || marks_in frame line (height_of frame.region - 1) (spare_of frame + 1) x i)
shared_nothing frame line w old x i is some all ended line_is nib_is =
    sym (or-false old)
    ∙ ap (λ (b : Bool). old || b) (sym (and_right (nat_eq i (height_of frame.region - 1)) (on_wide_line (shared_nib frame) line (pos (x + frame.region.columns.from)) (shared_row frame)) nothing) ∙ shared_marks frame line x i is some)
  where
    nothing : on_wide_line (shared_nib frame) line (pos (x + frame.region.columns.from)) (shared_row frame) ≡ false
    nothing = false_from_ne_true _ (λ t.
        let there = all.all (pos (x + frame.region.columns.from)) (shared_row frame) (omega (arith, ints)) (omega (arith, ints))
        (reported w line (shared_nib frame) (pos (x + frame.region.columns.from)) (shared_row frame) line_is nib_is ∙ t) in
        let a = there.0 in
        let b = there.1 in
        omega (arith, ints, a, b, ended))

-- a line whose rows all have their own
pub all_rows : (frame : MaskFrame) (line : Line) (count x i : ℕ) → count ≡ row_count frame → marks_in frame line 0 count x i ≡ marks frame line x i
all_rows frame line count x i e =
    any_same (λ k. marks_at frame line x i (0 + k)) (λ q. marks_at frame line x i q) count (λ k below. let z : 0 + k ≡ k = omega arith in ap (marks_at frame line x i) z)
    ∙ ap (any_below (λ q. marks_at frame line x i q)) e

-- a line in three parts
pub three_parts :
    (frame : MaskFrame) (line : Line) (start : Bool) {one two bit : Bool} (before spare x i : ℕ) → before ≡ height_of frame.region - 1 → spare ≡ spare_of frame → 1 ≤ height_of frame.region → (spare ≡ 0 → ⊥)
    → one ≡ (start || marks_in frame line 0 before x i)
    → two ≡ (one || marks_in frame line (height_of frame.region - 1) (spare_of frame + 1) x i)
    → bit ≡ (two || marks_in frame line (before + 1 + spare) before x i)
    → bit ≡ (start || marks frame line x i)
three_parts frame line start {one} {two} {bit} before spare x i e f some more first second third =
    third
    ∙ ap (λ (b : Bool). b || marks_in frame line (before + 1 + spare) before x i) (second ∙ ap (λ (b : Bool). b || marks_in frame line (height_of frame.region - 1) (spare_of frame + 1) x i) (first ∙ first_part))
    ∙ ap (λ (b : Bool). ((start || any_below (λ q. marks_at frame line x i q) (height_of frame.region - 1)) || marks_in frame line (height_of frame.region - 1) (spare_of frame + 1) x i) || b) last_part
    ∙ together start (any_below (λ q. marks_at frame line x i q) (height_of frame.region - 1)) (marks_in frame line (height_of frame.region - 1) (spare_of frame + 1) x i)
    (marks_in frame line (height_of frame.region - 1 + (spare_of frame + 1)) (height_of frame.region - 1) x i)
    ∙ ap (λ (b : Bool). start || b)
    (any_three (λ q. marks_at frame line x i q) (height_of frame.region - 1) (spare_of frame + 1) (height_of frame.region - 1) (row_count frame) (all_three frame.nib.y (height_of frame.region) some (λ none. more (f ∙ none))))
  where
    first_part : (start || marks_in frame line 0 before x i) ≡ (start || any_below (λ q. marks_at frame line x i q) (height_of frame.region - 1))
    first_part =
        ap (λ (b : Bool). start || b) (any_same (λ k. marks_at frame line x i (0 + k)) (λ q. marks_at frame line x i q) before (λ k below. let z : 0 + k ≡ k = omega arith in ap (marks_at frame line x i) z)
        ∙ ap (any_below (λ q. marks_at frame line x i q)) e)

    last_part : marks_in frame line (before + 1 + spare) before x i ≡ marks_in frame line (height_of frame.region - 1 + (spare_of frame + 1)) (height_of frame.region - 1) x i
    last_part =
        let place : before + 1 + spare ≡ height_of frame.region - 1 + (spare_of frame + 1) = omega (arith, e, f) in
        ap (λ (q : ℕ). marks_in frame line q before x i) place ∙ ap (λ (n : ℕ). marks_in frame line (height_of frame.region - 1 + (spare_of frame + 1)) n x i) e

    together : (a b c d : Bool) → (((a || b) || c) || d) ≡ (a || ((b || c) || d))
    together true b c d = refl
    together false b c d = refl

    all_three : (side height : ℕ) → 1 ≤ height → (side - min side height ≡ 0 → ⊥) → height + (side - 1) ≡ height - 1 + (side - min side height + 1 + (height - 1))
    all_three side height some more = omega (arith, some, more)
