-- The edges are those of the outline's lines.
use Rattle.std.proofs.Common.{◌≡◌, ◌≤◌, List, length, ap, subst, sym, ◌∙◌, arith}
use Rattle.std.proofs.lemmas.Bool.{false≢true}
use Rattle.std.specs.List.{All}
use Rattle.span_fill.specs.Edges.{IsEdge}
use Rattle.span_fill.specs.RowState.{RowState}
use Rattle.span_fill.specs.declared.edge.Edge.{Edge}
use Rattle.span_fill.proofs.RowLemmas.{filling_begins, listed_edges}
use Rattle.span_fill.proofs.row_buf.RowBuf.begin_fill.Goals as goal

pub admit-self-inside-requires-clause-edges : goal.admit-self-inside-requires-clause-edges
admit-self-inside-requires-clause-edges g c =
    let collected = rw c.as_slice.ensures.value at c.collect_edges.ensures.edges in
    let listed = listed_edges c.args.y c.copy_lines.new.lines.items c.collect_edges.new.edges.items c.sort_edges.new.edges.items c.copy_lines.ensures.near collected c.sort_edges.ensures.permutation in
    subst (λ (es : List Edge). All IsEdge es) (sym c.as_slice-2.ensures.value) listed

pub invariant_of-self : goal.invariant_of-self
invariant_of-self g c =
    let collected = rw c.as_slice.ensures.value at c.collect_edges.ensures.edges in
    let admitted = rw (c.as_slice-2.ensures.value, c.clear-2.ensures.items) at c.admit-self-inside.ensures.active in
    let left = rw c.as_slice-2.ensures.value at c.admit-self-inside.ensures.left in
    let capacity : c.self.inside.capacity ≡ c.args.self.now.capacity = ap (λ (s : RowState). s.capacity) c.self.view_is in
    let lines : length c.copy_lines.new.lines.items ≡ length (g.O.Outline.lines c.args.outline.now) = ap (λ xs. length xs) c.copy_lines.ensures.lines in
    let asked : length (g.O.Outline.lines c.args.outline.now) ≤ c.args.self.now.capacity = c.requires.count in
    let count : length c.copy_lines.new.lines.items ≤ c.self.inside.capacity = omega (arith, capacity, lines, asked) in
    let given = ap (λ xs. length xs) c.as_slice.ensures.value in
    let edges = ap (λ xs. length xs) c.as_slice-2.ensures.value in
    let event = rw (c.as_slice-3.ensures.value, c.as_slice-4.ensures.value) at c.next_event-self-inside.ensures in
    record {
      capacity = record {
        limit = c.self.invariant.capacity.limit;
        lines = omega arith;
        edges = omega arith;
        active = omega arith;
        crossings = omega arith;
        counts = c.self.invariant.capacity.counts;
        table = c.begin.ensures.capacity c.self.inside.capacity c.self.invariant.capacity.table;
        spans = omega (arith, c.self.invariant.capacity.spans);
        strokes = c.self.invariant.capacity.strokes;
      };
      count = count;
      near = c.copy_lines.ensures.near;
      row = c.requires.row;
      filling = λ h unused. filling_begins c.args.y c.self.inside.capacity c.copy_lines.new.lines.items c.collect_edges.new.edges.items c.sort_edges.new.edges.items c.admit-self-inside.result c.admit-self-inside.new.active.items c.next_event-self-inside.result c.copy_lines.ensures.near c.requires.row collected c.sort_edges.ensures.permutation c.sort_edges.ensures.sorted admitted left (omega (arith, edges, c.admit-self-inside.ensures.within)) (omega (arith, edges, count, given, c.admit-self-inside.ensures.length, c.collect_edges.ensures.length)) event;
      tabled = λ h used. absurd (false≢true (sym c.begin.ensures.unused ∙ used));
      counted = λ used. absurd (false≢true (sym c.begin.ensures.unused ∙ used));
      stroking = λ h. absurd h;
    }
