-- The lines are those of the outline, and nothing uses them yet.
use Rattle.std.proofs.Common.{◌≡◌, ◌≤◌, length, ap, arith}
use Rattle.span_fill.specs.RowState.{RowState}
use Rattle.span_fill.proofs.row_buf.RowBuf.keep.Goals as goal

pub invariant_of-self : goal.invariant_of-self
invariant_of-self g c =
    let there = c.self.invariant.capacity in
    let capacity : c.self.inside.capacity ≡ c.args.self.now.capacity = ap (λ (s : RowState). s.capacity) c.self.view_is in
    let lines : length c.copy_lines.new.lines.items ≡ length (g.O.Outline.lines c.args.outline.now) = ap (λ xs. length xs) c.copy_lines.ensures.lines in
    let asked : length (g.O.Outline.lines c.args.outline.now) ≤ c.args.self.now.capacity = c.requires in
    record {
      capacity = record {
        limit = there.limit;
        lines = omega (arith, there.lines, c.copy_lines.ensures.capacity);
        edges = there.edges;
        active = there.active;
        crossings = there.crossings;
        counts = there.counts;
        table = there.table;
        spans = omega (arith, there.spans, c.clear.ensures.capacity);
        strokes = there.strokes;
      };
      count = omega (arith, capacity, lines, asked);
      near = c.copy_lines.ensures.near;
      row = c.self.invariant.row;
      filling = λ h unused. absurd h;
      tabled = λ h used. absurd h;
      counted = c.self.invariant.counted;
      stroking = λ h. absurd h;
    }
