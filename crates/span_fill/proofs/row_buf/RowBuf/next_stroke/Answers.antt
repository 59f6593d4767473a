-- The strips' spans are the lines', and the strips go on to the next row.
use Rattle.std.proofs.Common.{◌<◌, ap, subst, sym, ◌∙◌, arith}
use Rattle.mapping.specs.declared.nib.Nib.{Nib}
use Rattle.span_fill.specs.StrokeRows.{lines_have}
use Rattle.span_fill.specs.RowFields.{row_work}
use Rattle.span_fill.specs.RowState.{FillsRow, IsFillingWork, IsStrokingWork, RowState}
use Rattle.span_fill.proofs.StrokingLemmas.{not_both, stroked}
use Rattle.span_fill.proofs.row_buf.RowBuf.next_stroke.Goals as goal

pub next_row-requires-clause-capacity : goal.next_row-requires-clause-capacity
next_row-requires-clause-capacity c = λ _.
    let work = subst (λ (s : RowState). IsStrokingWork s.work) (sym c.self.view_is) c.requires.stroking in
    let strokes = c.self.invariant.stroking work in
    let capacity = c.self.invariant.capacity.spans in
    omega (arith, capacity, strokes.count)

pub returns-clause-spans : goal.returns-clause-spans
returns-clause-spans c =
    let work = subst (λ (s : RowState). IsStrokingWork s.work) (sym c.self.view_is) c.requires.stroking in
    let next : c.self.inside.next < 8192 = subst (λ (s : RowState). s.next < 8192) (sym c.self.view_is) c.requires.next in
    subst (λ (s : RowState). FillsRow s.work s.lines s.next c.args.interval c.next_row.new.spans.items) c.self.view_is
    (stroked c.self.inside.work c.self.inside.rule c.self.inside.next c.self.inside.capacity c.self.inside.lines.items c.self.inside.strokes c.args.interval c.next_row.new.spans.items work next c.requires.interval (c.self.invariant.stroking work) c.next_row.ensures.spans)

pub invariant_of-self : goal.invariant_of-self
invariant_of-self c =
    let work = subst (λ (s : RowState). IsStrokingWork s.work) (sym c.self.view_is) c.requires.stroking in
    let next : c.self.inside.next < 8192 = subst (λ (s : RowState). s.next < 8192) (sym c.self.view_is) c.requires.next in
    let there = c.self.invariant.capacity in
    let strokes = c.self.invariant.stroking work in
    record {
      capacity = record {
        limit = there.limit;
        lines = there.lines;
        edges = there.edges;
        active = there.active;
        crossings = there.crossings;
        counts = there.counts;
        table = there.table;
        spans = omega (arith, there.spans, c.next_row.ensures.spans_capacity);
        strokes = c.next_row.ensures.capacity c.self.inside.capacity there.strokes;
      };
      count = c.self.invariant.count;
      near = c.self.invariant.near;
      row = omega (arith, next);
      filling = λ h unused. absurd (not_both _ (subst (λ (n : Nib). IsFillingWork (row_work c.self.inside.work c.self.inside.rule n)) c.next_row.ensures.nib h) work);
      tabled = λ h used. absurd (not_both _ (subst (λ (n : Nib). IsFillingWork (row_work c.self.inside.work c.self.inside.rule n)) c.next_row.ensures.nib h) work);
      counted = c.self.invariant.counted;
      stroking = λ h. record {
        row = omega (arith, next);
        are = c.next_row.ensures.strokes;
        have = λ x n k m. c.next_row.ensures.have x n (omega (arith, k)) m ∙ strokes.have x n (omega (arith, k)) m ∙ ap (λ (b : Nib). lines_have b c.self.inside.lines.items x n) (sym c.next_row.ensures.nib);
        count = omega (arith, c.next_row.ensures.count, strokes.count);
      };
    }
