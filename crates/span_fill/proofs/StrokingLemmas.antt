-- The strips of a row buffer: from one row to the next, and with more room.
use Rattle.std.proofs.Common.{◌≡◌, ℕ, ◌<◌, ◌≤◌, Bool, true, false, ◌||◌, ℤ, pos, List, [], ◌∷◌, arith, ap, sym, ◌∙◌, refl}
use Rattle.std.specs.List.{list_any}
use Rattle.std.specs.List.Sorted.{IsPermutation}
use Rattle.span_fill.specs.RowFields.{IsStroking, row_work}
use Rattle.span_fill.specs.RowState.{FillsRow, IsFillingWork, IsStrokingWork, RowWork, filling, idle, stroking}
use Rattle.span_fill.specs.Spans.{AreRow, in_span, in_spans}
use Rattle.span_fill.specs.WideStrokes.{in_wide_stroke, on_wide_line}
use Rattle.span_fill.specs.declared.fill_rule.FillRule.{FillRule}
use Rattle.span_fill.specs.declared.row_buf.Work.{Work}
use Rattle.span_fill.specs.declared.row_buf.Work.TheVariants.{Filling, Idle, Stroking}
use Rattle.std.proofs.lemmas.List.Sorted.{list_any-IsPermutation}
use Rattle.span_fill.specs.StrokeRows.{AllAfter, lines_have, wide_edges_have}
use Rattle.span_fill.specs.Stroking.{AreStrokes, stroke_count, strokes_have}
use Rattle.span_fill.specs.declared.line.Line.{Line}
use Rattle.span_fill.specs.declared.span.Span.{Span}
use Rattle.span_fill.specs.declared.wide_edge.WideEdge.{WideEdge}
use Rattle.mapping.specs.declared.nib.Nib.{Nib}
use Rattle.span_fill.specs.declared.strokes.Strokes.{Strokes}
use Rattle.span_fill.proofs.StrokeLemmas.{none_after}

-- a buffer doesn't do both
pub not_both : (work : RowWork) → IsFillingWork work → IsStrokingWork work → ⊥
not_both idle h k = h
not_both (filling rule) h k = k
not_both (stroking nib) h k = h

pub stroking_grows : (lines : List Line) (y capacity more : ℕ) (old new : Strokes) → capacity ≤ more → ((row : ℕ) → AreStrokes row old → AreStrokes row new) → ((x : ℤ) (n : ℕ) → strokes_have new x n ≡ strokes_have old x n) → stroke_count new ≡ stroke_count old → new.nib ≡ old.nib → IsStroking lines y capacity old → IsStroking lines y more new
stroking_grows lines y capacity more old new order are have count nib is = record {
  row = is.row;
  are = are y is.are;
  have = λ x n h k. have x n ∙ is.have x n h k ∙ ap (λ (b : Nib). lines_have b lines x n) (sym nib);
  count = omega (arith, count, is.count, order);
}

-- a row's parts in another order, joined, are what the strips have
or_none : (b c : Bool) → c ≡ false → (b || c) ≡ b
or_none true c e = refl
or_none false c e = e

pub row_of_wide_edges : (nib : Nib) (row x : ℕ) (active new : List WideEdge) (waiting rest : List WideEdge) (parts sorted : List Span) → row < 8192 → AllAfter nib (pos row) (pos 8192) rest →
    (wide_edges_have nib new (pos x) row || wide_edges_have nib rest (pos x) row) ≡ (wide_edges_have nib active (pos x) row || wide_edges_have nib waiting (pos x) row) →
    in_spans parts x ≡ wide_edges_have nib new (pos x) row → in_spans sorted x ≡ in_spans parts x →
    in_spans sorted x ≡ (wide_edges_have nib active (pos x) row || wide_edges_have nib waiting (pos x) row)
row_of_wide_edges nib row x active new waiting rest parts sorted seen after have parts_have same =
    same ∙ parts_have ∙ sym (or_none (wide_edges_have nib new (pos x) row) (wide_edges_have nib rest (pos x) row) (none_after nib row rest (pos x) seen after)) ∙ have

-- in_spans asks each span the same
pub in_spans-list_any : (spans : List Span) (x : ℕ) → in_spans spans x ≡ list_any (λ span. in_span span x) spans
in_spans-list_any [] x = refl
in_spans-list_any (span ∷ spans) x = ap (λ t. in_span span x || t) (in_spans-list_any spans x)

pub in_spans-sorted : (spans sorted : List Span) (x : ℕ) → IsPermutation spans sorted → in_spans sorted x ≡ in_spans spans x
in_spans-sorted spans sorted x so = in_spans-list_any sorted x ∙ sym (list_any-IsPermutation (λ span. in_span span x) spans sorted so) ∙ sym (in_spans-list_any spans x)

-- a row of one test is one of another that is the same there
pub row_of_same : (p q : ℕ → Bool) (interval : Span) (spans : List Span) → ((x : ℕ) → x < interval.to → p x ≡ q x) → AreRow p interval spans → AreRow q interval spans
row_of_same p q interval spans same row = record { apart = row.apart; exact = λ x h k. row.exact x h k ∙ same x k }

-- the lines' pixels are those of the strips that begin with them
pub have_sorted : (nib : Nib) (wide_edges sorted : List WideEdge) (x : ℤ) (y : ℕ) → IsPermutation wide_edges sorted → wide_edges_have nib sorted x y ≡ wide_edges_have nib wide_edges x y
have_sorted nib wide_edges sorted x y so = sym (list_any-IsPermutation (λ edge. on_wide_line nib edge.line x (pos y)) wide_edges sorted so)

-- the spans of a row are those of the lines, where the lines are being drawn
pub stroked : (work : Work) (rule : FillRule) (y capacity : ℕ) (lines : List Line) (strokes : Strokes) (interval : Span) (spans : List Span) → IsStrokingWork (row_work work rule strokes.nib) → y < 8192 → interval.to ≤ 8192 → IsStroking lines y capacity strokes → AreRow (λ x. strokes_have strokes (pos x) y) interval spans → FillsRow (row_work work rule strokes.nib) lines y interval spans
stroked Idle rule y capacity lines strokes interval spans h seen end is row = absurd h
stroked Filling rule y capacity lines strokes interval spans h seen end is row = absurd h
stroked Stroking rule y capacity lines strokes interval spans h seen end is row =
    row_of_same (λ x. strokes_have strokes (pos x) y) (λ x. in_wide_stroke strokes.nib lines x y) interval spans (λ x k. is.have (pos x) y (omega arith) seen) row
