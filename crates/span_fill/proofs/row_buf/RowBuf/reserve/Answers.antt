-- There is more room, and nothing else differs.
use Rattle.std.proofs.Common.{arith, subst, sym, ◌∙◌}
use Rattle.mapping.specs.declared.nib.Nib.{Nib}
use Rattle.span_fill.specs.RowFields.{row_work}
use Rattle.span_fill.specs.RowState.{IsFillingWork, IsStrokingWork}
use Rattle.span_fill.proofs.RowLemmas.{filling_grows}
use Rattle.span_fill.proofs.StrokingLemmas.{stroking_grows}
use Rattle.span_fill.proofs.row_buf.RowBuf.reserve.Goals as goal

pub invariant_of-self-2 : goal.invariant_of-self-2
invariant_of-self-2 c =
    let lines = c.in_ok-grow.ensures.ok in
    let edges = c.in_ok-grow-2.ensures.ok in
    let active = c.in_ok-grow-3.ensures.ok in
    let crossings = c.in_ok-grow-4.ensures.ok in
    let counts = rw c.most_counts.ensures at c.in_ok-grow-5.ensures.ok in
    let spans = c.in_ok-grow_spans.ensures.ok in
    record {
      capacity = record {
        limit = c.requires;
        lines = lines;
        edges = edges;
        active = active;
        crossings = crossings;
        counts = counts;
        table = c.in_ok-reserve.ensures.ok;
        spans = spans;
        strokes = c.in_ok-reserve-2.ensures.ok;
      };
      count = rw c.grow.ensures.items (omega arith);
      near = rw c.grow.ensures.items c.self.invariant.near;
      row = c.self.invariant.row;
      filling = λ work unused. rw (c.grow.ensures.items, c.grow-2.ensures.items, c.grow-3.ensures.items) (filling_grows c.self.inside.next c.self.inside.capacity c.args.lines c.self.inside.lines.items c.self.inside.edges.items c.self.inside.begun c.self.inside.active.items c.self.inside.is_sorted c.self.inside.event (omega arith) (c.self.invariant.filling (subst (λ (n : Nib). IsFillingWork (row_work c.self.inside.work c.self.inside.rule n)) c.reserve-2.ensures.nib work) (sym c.reserve.ensures.used ∙ unused)));
      tabled = λ work used. rw c.grow.ensures.items (c.reserve.ensures.tabled c.self.inside.rule c.self.inside.lines.items (c.self.invariant.tabled (subst (λ (n : Nib). IsFillingWork (row_work c.self.inside.work c.self.inside.rule n)) c.reserve-2.ensures.nib work) (sym c.reserve.ensures.used ∙ used)));
      counted = λ used. rw c.grow-3.ensures.items (c.self.invariant.counted (sym c.reserve.ensures.used ∙ used));
      stroking = λ work. rw c.grow.ensures.items (stroking_grows c.self.inside.lines.items c.self.inside.next c.self.inside.capacity c.args.lines c.self.inside.strokes c.reserve-2.new.self (omega arith) c.reserve-2.ensures.strokes c.reserve-2.ensures.have c.reserve-2.ensures.count c.reserve-2.ensures.nib (c.self.invariant.stroking (subst (λ (n : Nib). IsStrokingWork (row_work c.self.inside.work c.self.inside.rule n)) c.reserve-2.ensures.nib work)));
    }

pub invariant_of-self-in_err-reserve : goal.invariant_of-self-in_err-reserve
invariant_of-self-in_err-reserve c =
    let there = c.self.invariant.capacity in
    let lines_kept = c.grow.ensures.kept in
    let edges_kept = c.grow-2.ensures.kept in
    let active_kept = c.grow-3.ensures.kept in
    let crossings_kept = c.grow-4.ensures.kept in
    let counts_kept = c.grow-5.ensures.kept in
    record {
      capacity = record {
        limit = there.limit;
        lines = omega (arith, there.lines, lines_kept);
        edges = omega (arith, there.edges, edges_kept);
        active = omega (arith, there.active, active_kept);
        crossings = omega (arith, there.crossings, crossings_kept);
        counts = omega (arith, there.counts, counts_kept);
        table = c.reserve.ensures.kept c.self.inside.capacity there.table;
        spans = there.spans;
        strokes = there.strokes;
      };
      count = rw c.grow.ensures.items c.self.invariant.count;
      near = rw c.grow.ensures.items c.self.invariant.near;
      row = c.self.invariant.row;
      filling = λ work unused. rw (c.grow.ensures.items, c.grow-2.ensures.items, c.grow-3.ensures.items) (c.self.invariant.filling work (sym c.reserve.ensures.used ∙ unused));
      tabled = λ work used. rw c.grow.ensures.items (c.reserve.ensures.tabled c.self.inside.rule c.self.inside.lines.items (c.self.invariant.tabled work (sym c.reserve.ensures.used ∙ used)));
      counted = λ used. rw c.grow-3.ensures.items (c.self.invariant.counted (sym c.reserve.ensures.used ∙ used));
      stroking = λ work. rw c.grow.ensures.items (c.self.invariant.stroking work);
    }

pub invariant_of-self-in_err-grow_spans : goal.invariant_of-self-in_err-grow_spans
invariant_of-self-in_err-grow_spans c =
    let there = c.self.invariant.capacity in
    let lines_kept = c.grow.ensures.kept in
    let edges_kept = c.grow-2.ensures.kept in
    let active_kept = c.grow-3.ensures.kept in
    let crossings_kept = c.grow-4.ensures.kept in
    let counts_kept = c.grow-5.ensures.kept in
    let spans_kept = c.grow_spans.ensures.kept in
    record {
      capacity = record {
        limit = there.limit;
        lines = omega (arith, there.lines, lines_kept);
        edges = omega (arith, there.edges, edges_kept);
        active = omega (arith, there.active, active_kept);
        crossings = omega (arith, there.crossings, crossings_kept);
        counts = omega (arith, there.counts, counts_kept);
        table = c.reserve.ensures.kept c.self.inside.capacity there.table;
        spans = omega (arith, there.spans, spans_kept);
        strokes = there.strokes;
      };
      count = rw c.grow.ensures.items c.self.invariant.count;
      near = rw c.grow.ensures.items c.self.invariant.near;
      row = c.self.invariant.row;
      filling = λ work unused. rw (c.grow.ensures.items, c.grow-2.ensures.items, c.grow-3.ensures.items) (c.self.invariant.filling work (sym c.reserve.ensures.used ∙ unused));
      tabled = λ work used. rw c.grow.ensures.items (c.reserve.ensures.tabled c.self.inside.rule c.self.inside.lines.items (c.self.invariant.tabled work (sym c.reserve.ensures.used ∙ used)));
      counted = λ used. rw c.grow-3.ensures.items (c.self.invariant.counted (sym c.reserve.ensures.used ∙ used));
      stroking = λ work. rw c.grow.ensures.items (c.self.invariant.stroking work);
    }

pub invariant_of-self-in_err-reserve-2 : goal.invariant_of-self-in_err-reserve-2
invariant_of-self-in_err-reserve-2 c =
    let there = c.self.invariant.capacity in
    let lines_kept = c.grow.ensures.kept in
    let edges_kept = c.grow-2.ensures.kept in
    let active_kept = c.grow-3.ensures.kept in
    let crossings_kept = c.grow-4.ensures.kept in
    let counts_kept = c.grow-5.ensures.kept in
    let spans_kept = c.grow_spans.ensures.kept in
    record {
      capacity = record {
        limit = there.limit;
        lines = omega (arith, there.lines, lines_kept);
        edges = omega (arith, there.edges, edges_kept);
        active = omega (arith, there.active, active_kept);
        crossings = omega (arith, there.crossings, crossings_kept);
        counts = omega (arith, there.counts, counts_kept);
        table = c.reserve.ensures.kept c.self.inside.capacity there.table;
        spans = omega (arith, there.spans, spans_kept);
        strokes = c.reserve-2.ensures.kept c.self.inside.capacity there.strokes;
      };
      count = rw c.grow.ensures.items c.self.invariant.count;
      near = rw c.grow.ensures.items c.self.invariant.near;
      row = c.self.invariant.row;
      filling = λ work unused. rw (c.grow.ensures.items, c.grow-2.ensures.items, c.grow-3.ensures.items) (c.self.invariant.filling (subst (λ (n : Nib). IsFillingWork (row_work c.self.inside.work c.self.inside.rule n)) c.reserve-2.ensures.nib work) (sym c.reserve.ensures.used ∙ unused));
      tabled = λ work used. rw c.grow.ensures.items (c.reserve.ensures.tabled c.self.inside.rule c.self.inside.lines.items (c.self.invariant.tabled (subst (λ (n : Nib). IsFillingWork (row_work c.self.inside.work c.self.inside.rule n)) c.reserve-2.ensures.nib work) (sym c.reserve.ensures.used ∙ used)));
      counted = λ used. rw c.grow-3.ensures.items (c.self.invariant.counted (sym c.reserve.ensures.used ∙ used));
      stroking = λ work. rw c.grow.ensures.items (stroking_grows c.self.inside.lines.items c.self.inside.next c.self.inside.capacity c.self.inside.capacity c.self.inside.strokes c.reserve-2.new.self (omega arith) c.reserve-2.ensures.strokes c.reserve-2.ensures.have c.reserve-2.ensures.count c.reserve-2.ensures.nib (c.self.invariant.stroking (subst (λ (n : Nib). IsStrokingWork (row_work c.self.inside.work c.self.inside.rule n)) c.reserve-2.ensures.nib work)));
    }
