-- The strips are those of the lines.
use Rattle.std.proofs.Common.{length, ap, sym, ◌∙◌, arith}
use Rattle.mapping.specs.declared.nib.Nib.{Nib}
use Rattle.span_fill.specs.StrokeRows.{lines_have}
use Rattle.span_fill.proofs.row_buf.RowBuf.begin_kept_stroke.Goals as goal

pub invariant_of-self : goal.invariant_of-self
invariant_of-self c =
    let there = c.self.invariant.capacity in
    let given = ap (λ xs. length xs) c.as_slice.ensures.value in
    let count = c.self.invariant.count in
    record {
      capacity = record {
        limit = there.limit;
        lines = there.lines;
        edges = there.edges;
        active = there.active;
        crossings = there.crossings;
        counts = there.counts;
        table = there.table;
        spans = omega (arith, there.spans, c.clear.ensures.capacity);
        strokes = c.begin.ensures.capacity c.self.inside.capacity there.strokes;
      };
      count = count;
      near = c.self.invariant.near;
      row = c.requires.row;
      filling = λ h unused. absurd h;
      tabled = λ h used. absurd h;
      counted = c.self.invariant.counted;
      stroking = λ h. record {
        row = c.requires.row;
        are = c.begin.ensures.strokes;
        have = λ x n k m. c.begin.ensures.have x n k m ∙ ap (λ l. lines_have c.args.nib l x n) c.as_slice.ensures.value ∙ ap (λ (b : Nib). lines_have b c.self.inside.lines.items x n) (sym c.begin.ensures.nib);
        count = omega (arith, c.begin.ensures.count, given, count);
      };
    }
