-- The columns around a pixel of a line lie in the region, if those around its ends do.
use Rattle.std.proofs.Common.{◌≡◌, ℕ, ◌+◌, ◌-◌, ◌≤◌, Bool, ◌||◌, nat_eq, ℤ, pos, ◌+ℤ◌, ◌-ℤ◌, ◌≤ℤ◌, ◌<ℤ◌, ap, subst, sym, ◌∙◌, arith}
use Rattle.std.specs.Prelude.{◌&&◌, IfSome, IsTrue, None, Option, Some, nat_le, nat_lt, unsigned_abs}
use Rattle.std.proofs.Math.Bool.{or-false}
use Rattle.std.proofs.lemmas.Bool.{and_right, false_from_ne_true}
use Rattle.std.proofs.lemmas.Int.{ints}
use Rattle.mapping.specs.Nibs.{IsNib, reach_after, reach_before}
use Rattle.span_fill.specs.MaskFrames.{first_row, mask_row, row_at}
use Rattle.span_fill.specs.MaskRuns.{AreRuns, IsBehind, IsRunOf, IsShiftOf}
use Rattle.span_fill.specs.Spans.{in_span}
use Rattle.span_fill.specs.Strokes.{on_line}
use Rattle.span_fill.specs.declared.line.Line.{Line}
use Rattle.span_fill.specs.declared.mask_frame.MaskFrame.{MaskFrame}
use Rattle.span_fill.specs.declared.mask_runs.Runs.{Runs}
use Rattle.span_fill.specs.declared.pixel.Pixel.{Pixel}
use Rattle.span_fill.specs.declared.span.Span.{Span}
use Rattle.span_fill.specs.declared.wide_line.WideRow.{WideRow}
use Rattle.mapping.specs.PixelBoxes.{from_to_from, from_to_true, is_from_to}
use Rattle.mapping.specs.TestLaws.{same_test}
use Rattle.span_fill.proofs.CoveredColumnLemmas.{between_ends}
use Rattle.span_fill.proofs.SpanLemmas.{in_from, is_in}

pub run_around :
    (frame : MaskFrame) (line : Line) (pixel : Pixel) (row : WideRow) (runs : Runs) → IsNib frame.nib → AreRuns frame line runs → IsTrue (on_line line (pos pixel.x) (pos pixel.y))
    → row.columns.from ≡ pixel.x - reach_before frame.nib.x → row.columns.to ≡ pixel.x + reach_after frame.nib.x + 1 → IsShiftOf frame row.y runs.shift → IsRunOf frame row runs
run_around frame line pixel row runs is are on left right own =
    let a = are.first_end.0 in
    let b = are.last_end.0 in
    let c = are.first_end.1 in
    let d = are.last_end.1 in
    let between = between_ends line (pos pixel.x) (pos pixel.y) (pos frame.region.columns.from +ℤ pos (reach_before frame.nib.x)) ((pos frame.region.columns.to -ℤ pos (reach_after frame.nib.x)) -ℤ pos 1) a b (omega (arith, ints, c)) (omega (arith, ints, d)) on in
    let e = between.0 in
    let f = between.1 in
    let few = are.few in
    let width = are.width in
    let not_empty = is.x.not_empty in
    record {
      first = omega (arith, ints, e, left);
      last = omega (arith, ints, f, right);
      some = omega (arith, width, not_empty);
      few = omega (arith, width, few);
      width = omega (arith, ints, e, left, right, width, not_empty);
      own = own;
    }

-- what follows from two clauses on the value in a `Some`
pub IfSome_both : {X : Type 0} (r : Option X) {P Q R : X → Type 0} → IfSome r P → IfSome r Q → ((x : X) → P x → Q x → R x) → IfSome r R
IfSome_both (Some x) p q f = f x p q
IfSome_both None p q f = p

-- what is known of all shifts is so of the shift that is known
pub shift_known : (frame : MaskFrame) (row : ℤ) (shift : Option ℕ) (known : ℕ) → IfSome shift (IsShiftOf frame row) → shift ≡ Some known → IsShiftOf frame row known
shift_known frame row shift known all e = subst (λ s. IfSome s (IsShiftOf frame row)) e all

-- what is known of some rows of lines is so of each of them
pub shift_at : (frame : MaskFrame) (from count shift : ℕ) (row : ℤ) → IsBehind frame from count shift → row_at frame from ≤ℤ row → row <ℤ row_at frame (from + count) → IsShiftOf frame row shift
shift_at frame from count shift row behind low high =
    let k = unsigned_abs (row -ℤ row_at frame from) in
    let number : unsigned_abs (row -ℤ first_row frame) ≡ from + k = omega (arith, ints, low) in
    subst (λ n. mask_row frame n + shift ≡ n) (sym number) (behind k (omega (arith, ints, low, high)))

-- columns, counted from one that isn't after them
pub counted_from :
    (columns : Span) (start width x : ℕ) → start ≤ columns.from → columns.to ≡ columns.from + width
    → (nat_le (columns.from - start) x && nat_lt x ((columns.from - start) + width)) ≡ in_span columns (x + start)
counted_from columns start width x first last =
    let part : Span = record { from = columns.from - start; to = (columns.from - start) + width } in
    same_test (in_span part x) (in_span columns (x + start))
    (λ t. let there = is_in part x t in let a = there.0 in let b = there.1 in in_from columns (x + start) (omega (arith, a, first), omega (arith, b, first, last)))
    (λ t. let there = is_in columns (x + start) t in let a = there.0 in let b = there.1 in in_from part x (omega (arith, a, first), omega (arith, b, first, last)))

-- columns of which there are none set no bit
pub none_set : (old : Bool) (i row : ℕ) (columns : Span) (x : ℕ) → columns.to ≤ columns.from → old ≡ (old || (nat_eq i row && in_span columns x))
none_set old i row columns x none =
    sym (ap (λ b. old || b) (and_right (nat_eq i row) (in_span columns x) (false_from_ne_true _ (λ t. let there = is_in columns x t in let a = there.0 in let b = there.1 in absurd (omega (arith, a, b, none))))) ∙ or-false old)

-- the part of some columns in a region, of its columns
pub part_has : (columns seen part : Span) (x : ℕ) → in_span part x ≡ (in_span seen x && is_from_to (pos columns.from) (pos columns.to) x) → IsTrue (in_span seen x) → in_span part x ≡ in_span columns x
part_has columns seen part x e inside = e ∙ ap (λ b. b && is_from_to (pos columns.from) (pos columns.to) x) inside ∙ same_test _ _
    (λ t. let range = from_to_true (pos columns.from) (pos columns.to) x t in let a = range.0 in let b = range.1 in in_from columns x (omega (arith, ints, a), omega (arith, ints, b)))
    (λ t. let there = is_in columns x t in let a = there.0 in let b = there.1 in from_to_from (pos columns.from) (pos columns.to) x (omega (arith, ints, a)) (omega (arith, ints, b)))
