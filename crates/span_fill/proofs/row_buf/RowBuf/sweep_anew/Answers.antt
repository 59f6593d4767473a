-- The edges are those of the lines that cross the row, in order.
use Rattle.std.proofs.Common.{true, false, List, length, ap, subst, sym, ◌∙◌, arith}
use Rattle.std.proofs.lemmas.Bool.{false≢true}
use Rattle.std.specs.List.{All}
use Rattle.span_fill.specs.Edges.{IsEdge}
use Rattle.span_fill.specs.RowFields.{IsFilling}
use Rattle.span_fill.specs.RowState.{FillsRow, IsFillingWork, RowState}
use Rattle.span_fill.specs.declared.edge.Edge.{Edge}
use Rattle.span_fill.proofs.RowLemmas.{filled_swept, filling_begins, filling_sorts, listed_edges}
use Rattle.span_fill.proofs.StrokingLemmas.{not_both}
use Rattle.span_fill.proofs.row_buf.RowBuf.sweep_anew.Goals as goal

pub admit-self-inside-requires-clause-edges : goal.admit-self-inside-requires-clause-edges
admit-self-inside-requires-clause-edges c =
    let collected = rw c.as_slice.ensures.value at c.collect_edges.ensures.edges in
    let listed = listed_edges c.self.inside.next c.self.inside.lines.items c.collect_edges.new.edges.items c.sort_edges.new.edges.items c.self.invariant.near collected c.sort_edges.ensures.permutation in
    subst (λ (es : List Edge). All IsEdge es) (sym c.as_slice-2.ensures.value) listed

-- the edges that begin, in order
in_order : (c : goal.After-sweep) → IsFilling c.self.inside.lines.items c.self.inside.next c.self.inside.capacity c.sort_edges.new.edges.items c.admit-self-inside.result c.sort_active.new.active.items true c.next_event-self-inside.result
in_order c =
    let collected = rw c.as_slice.ensures.value at c.collect_edges.ensures.edges in
    let admitted = rw (c.as_slice-2.ensures.value, c.clear-2.ensures.items) at c.admit-self-inside.ensures.active in
    let left = rw c.as_slice-2.ensures.value at c.admit-self-inside.ensures.left in
    let count = c.self.invariant.count in
    let given = ap (λ xs. length xs) c.as_slice.ensures.value in
    let edges = ap (λ xs. length xs) c.as_slice-2.ensures.value in
    let event = rw (c.as_slice-3.ensures.value, c.as_slice-4.ensures.value) at c.next_event-self-inside.ensures in
    let begins = filling_begins c.self.inside.next c.self.inside.capacity c.self.inside.lines.items c.collect_edges.new.edges.items c.sort_edges.new.edges.items c.admit-self-inside.result c.admit-self-inside.new.active.items c.next_event-self-inside.result c.self.invariant.near c.self.invariant.row collected c.sort_edges.ensures.permutation c.sort_edges.ensures.sorted admitted left (omega (arith, edges, c.admit-self-inside.ensures.within)) (omega (arith, edges, count, given, c.admit-self-inside.ensures.length, c.collect_edges.ensures.length)) event in
    filling_sorts c.self.inside.next c.self.inside.capacity c.self.inside.lines.items c.sort_edges.new.edges.items c.admit-self-inside.result c.admit-self-inside.new.active.items c.sort_active.new.active.items false c.next_event-self-inside.result begins c.sort_active.ensures.permutation (omega (arith, c.sort_active.ensures.length)) c.sort_active.ensures.sorted

pub returns-clause-spans : goal.returns-clause-spans
returns-clause-spans c =
    let work = subst (λ (s : RowState). IsFillingWork s.work) (sym c.self.view_is) c.requires.filling in
    subst (λ (s : RowState). FillsRow s.work s.lines s.next c.args.interval c.sweep.new.spans.items) c.self.view_is
    (filled_swept c.self.inside.work c.self.inside.rule c.self.inside.strokes.nib c.self.inside.next c.self.inside.capacity c.self.inside.lines.items c.sort_edges.new.edges.items c.admit-self-inside.result c.sort_active.new.active.items c.next_event-self-inside.result c.args.interval c.sweep.new.spans.items work c.self.invariant.near (in_order c) c.requires.interval c.requires.order (rw (c.clear.ensures.items, c.as_slice-5.ensures.value) at c.sweep.ensures.spans))

pub invariant_of-self : goal.invariant_of-self
invariant_of-self c =
    let there = c.self.invariant.capacity in
    record {
      capacity = record {
        limit = there.limit;
        lines = there.lines;
        edges = omega (arith, there.edges, c.collect_edges.ensures.capacity, c.sort_edges.ensures.capacity);
        active = omega (arith, there.active, c.clear-2.ensures.capacity, c.admit-self-inside.ensures.capacity, c.sort_active.ensures.capacity);
        crossings = there.crossings;
        counts = there.counts;
        table = c.begin.ensures.capacity c.self.inside.capacity there.table;
        spans = omega (arith, there.spans, c.clear.ensures.capacity, c.sweep.ensures.capacity);
        strokes = there.strokes;
      };
      count = c.self.invariant.count;
      near = c.self.invariant.near;
      row = c.self.invariant.row;
      filling = λ work unused. in_order c;
      tabled = λ work used. absurd (false≢true (sym c.begin.ensures.unused ∙ used));
      counted = λ used. absurd (false≢true (sym c.begin.ensures.unused ∙ used));
      stroking = λ h. absurd (not_both _ (subst (λ (s : RowState). IsFillingWork s.work) (sym c.self.view_is) c.requires.filling) h);
    }
