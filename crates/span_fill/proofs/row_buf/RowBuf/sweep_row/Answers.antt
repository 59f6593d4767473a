-- The spans of the counts, or of the sweep over edges in order, or none where there is nothing to sweep.
use Rattle.std.proofs.Common.{List, subst, sym, ◌∙◌, arith}
use Rattle.std.proofs.lemmas.Bool.{false≢true}
use Rattle.span_fill.specs.Fill.{is_inside}
use Rattle.span_fill.specs.RowState.{FillsRow, IsFillingWork, RowState}
use Rattle.span_fill.specs.Spans.{AreRow}
use Rattle.span_fill.specs.Sweep.{downwards_at, upwards_at}
use Rattle.span_fill.specs.declared.edge.ActiveEdge.{ActiveEdge}
use Rattle.span_fill.proofs.RowLemmas.{filled_row, filled_swept, filling_sorts, unused_uncounted}
use Rattle.span_fill.proofs.StrokingLemmas.{not_both}
use Rattle.span_fill.proofs.row_buf.RowBuf.sweep_row.Goals as goal

pub put_row-requires-clause-flags : goal.put_row-requires-clause-flags
put_row-requires-clause-flags c =
    let work = subst (λ (s : RowState). IsFillingWork s.work) (sym c.self.view_is) c.requires.filling in
    (c.self.invariant.tabled work c.if-self.true).length

pub put_row-requires-clause-end : goal.put_row-requires-clause-end
put_row-requires-clause-end c =
    let work = subst (λ (s : RowState). IsFillingWork s.work) (sym c.self.view_is) c.requires.filling in
    (c.self.invariant.tabled work c.if-self.true).end

pub put_row-requires-clause-capacity : goal.put_row-requires-clause-capacity
put_row-requires-clause-capacity c =
    let work = subst (λ (s : RowState). IsFillingWork s.work) (sym c.self.view_is) c.requires.filling in
    let table = c.self.invariant.tabled work c.if-self.true in
    let few = table.few in
    let many = table.many in
    let count = c.self.invariant.count in
    let capacity = c.self.invariant.capacity.spans in
    let clear = c.clear.ensures.capacity in
    let has = c.has_columns.ensures c.if-has_columns.true in
    let first = has.first in
    let last = has.last in
    omega (arith, few, many, count, capacity, clear, first, last)

pub returns-then-is_counted-clause-spans : goal.returns-then-is_counted-clause-spans
returns-then-is_counted-clause-spans c =
    let work = subst (λ (s : RowState). IsFillingWork s.work) (sym c.self.view_is) c.requires.filling in
    let row = subst (λ (es : List ActiveEdge). AreRow (λ x. is_inside c.self.inside.rule (downwards_at es x) (upwards_at es x)) c.args.interval c.count_row.new.spans.items) c.as_slice.ensures.value c.count_row.ensures.spans in
    rw c.turn_to_table.ensures (subst (λ (s : RowState). FillsRow s.work s.lines s.next c.args.interval c.count_row.new.spans.items) c.self.view_is
    (filled_row c.self.inside.work c.self.inside.rule c.self.inside.strokes.nib c.self.inside.next c.self.inside.capacity c.self.inside.lines.items c.self.inside.edges.items c.self.inside.begun c.self.inside.active.items c.self.inside.is_sorted c.self.inside.event c.args.interval c.count_row.new.spans.items work c.self.invariant.near (c.self.invariant.filling work c.if-self.false) c.requires.interval row))

pub returns-clause-spans : goal.returns-clause-spans
returns-clause-spans c =
    let work = subst (λ (s : RowState). IsFillingWork s.work) (sym c.self.view_is) c.requires.filling in
    let sorted = filling_sorts c.self.inside.next c.self.inside.capacity c.self.inside.lines.items c.self.inside.edges.items c.self.inside.begun c.self.inside.active.items c.sort_active.new.active.items c.self.inside.is_sorted c.self.inside.event (c.self.invariant.filling work (unused_uncounted c.self.inside.table.is_used c.self.inside.active.items c.self.inside.is_sorted c.self.inside.event c.len.result c.args.interval c.self.invariant.counted c.requires.interval (omega (arith, c.len.ensures)) (sym c.is_counted.ensures.value ∙ c.if-is_counted.false))) c.sort_active.ensures.permutation (omega (arith, c.sort_active.ensures.length)) c.sort_active.ensures.sorted in
    subst (λ (s : RowState). FillsRow s.work s.lines s.next c.args.interval c.sweep.new.spans.items) c.self.view_is
    (filled_swept c.self.inside.work c.self.inside.rule c.self.inside.strokes.nib c.self.inside.next c.self.inside.capacity c.self.inside.lines.items c.self.inside.edges.items c.self.inside.begun c.sort_active.new.active.items c.self.inside.event c.args.interval c.sweep.new.spans.items work c.self.invariant.near sorted c.requires.interval (omega (arith, c.if-interval.false)) (rw (c.clear.ensures.items, c.as_slice-2.ensures.value) at c.sweep.ensures.spans))

pub invariant_of-self-2 : goal.invariant_of-self-2
invariant_of-self-2 c =
    let there = c.self.invariant.capacity in
    record {
      capacity = record {
        limit = there.limit;
        lines = there.lines;
        edges = there.edges;
        active = omega (arith, there.active, c.sort_active.ensures.capacity);
        crossings = there.crossings;
        counts = there.counts;
        table = there.table;
        spans = omega (arith, there.spans, c.clear.ensures.capacity, c.sweep.ensures.capacity);
        strokes = there.strokes;
      };
      count = c.self.invariant.count;
      near = c.self.invariant.near;
      row = c.self.invariant.row;
      filling = λ work unused. filling_sorts c.self.inside.next c.self.inside.capacity c.self.inside.lines.items c.self.inside.edges.items c.self.inside.begun c.self.inside.active.items c.sort_active.new.active.items c.self.inside.is_sorted c.self.inside.event (c.self.invariant.filling work (unused_uncounted c.self.inside.table.is_used c.self.inside.active.items c.self.inside.is_sorted c.self.inside.event c.len.result c.args.interval c.self.invariant.counted c.requires.interval (omega (arith, c.len.ensures)) (sym c.is_counted.ensures.value ∙ c.if-is_counted.false))) c.sort_active.ensures.permutation (omega (arith, c.sort_active.ensures.length)) c.sort_active.ensures.sorted;
      tabled = c.self.invariant.tabled;
      counted = λ used. absurd (false≢true (sym (unused_uncounted c.self.inside.table.is_used c.self.inside.active.items c.self.inside.is_sorted c.self.inside.event c.len.result c.args.interval c.self.invariant.counted c.requires.interval (omega (arith, c.len.ensures)) (sym c.is_counted.ensures.value ∙ c.if-is_counted.false)) ∙ used));
      stroking = λ h. absurd (not_both _ (subst (λ (s : RowState). IsFillingWork s.work) (sym c.self.view_is) c.requires.filling) h);
    }
