-- The row's spans are those of the strips that have it, and the others go on waiting.
use Rattle.std.proofs.Common.{pos, drop, length, ap, ◌∙◌, arith}
use Rattle.span_fill.specs.Spans.{in_spans}
use Rattle.span_fill.specs.Stroking.{strokes_have}
use Rattle.span_fill.proofs.StrokeLemmas.{wait_on}
use Rattle.span_fill.proofs.StrokingLemmas.{in_spans-sorted, row_of_same, row_of_wide_edges}
use Rattle.span_fill.proofs.strokes.Strokes.next_row.Goals as goal

pub join_within-requires-clause-capacity : goal.join_within-requires-clause-capacity
join_within-requires-clause-capacity c = λ some.
    let waiting = ap (λ xs. length xs) c.as_slice.ensures.value in
    let parts = ap (λ xs. length xs) c.as_slice-2.ensures.value in
    let capacity = c.requires.capacity (omega (arith, some, waiting, parts, c.enter-self.ensures.length, c.draw_row.ensures.parts_length, c.sort_parts.ensures.length)) in
    omega (arith, capacity, waiting, parts, c.enter-self.ensures.length, c.draw_row.ensures.parts_length, c.sort_parts.ensures.length)

pub returns-clause-spans : goal.returns-clause-spans
returns-clause-spans c =
    let old = c.args.self.now in
    let after = rw c.as_slice.ensures.value at c.enter-self.ensures.waiting in
    let have = rw c.as_slice.ensures.value at c.enter-self.ensures.have in
    row_of_same (λ x. in_spans c.as_slice-2.result.now x) (λ x. strokes_have c.args.self.now (pos x) c.args.row) c.args.interval c.join_within.new.spans.items
    (λ x h.
    ap (λ l. in_spans l x) c.as_slice-2.ensures.value
    ∙ row_of_wide_edges old.nib c.args.row x old.active.items c.enter-self.new.active.items (drop old.begun old.waiting.items) (drop c.enter-self.result old.waiting.items) c.draw_row.new.parts.items c.sort_parts.new.parts.items c.requires.row after (have (pos x) c.args.row)
    (c.draw_row.ensures.parts x (omega (arith, h, c.requires.interval)))
    (in_spans-sorted c.draw_row.new.parts.items c.sort_parts.new.parts.items x c.sort_parts.ensures.permutation))
    c.join_within.ensures.spans

pub returns-clause-strokes : goal.returns-clause-strokes
returns-clause-strokes c =
    let after = rw c.as_slice.ensures.value at c.enter-self.ensures.waiting in
    let waiting = ap (λ xs. length xs) c.as_slice.ensures.value in
    let there = c.requires.strokes.capacity in
    record {
      nib = c.requires.strokes.nib;
      active = c.draw_row.ensures.active;
      waiting = wait_on c.args.self.now.nib (pos c.args.row) (pos 8192) (drop c.enter-self.result c.args.self.now.waiting.items) after;
      sorted = c.requires.strokes.sorted;
      begun = omega (arith, waiting, c.enter-self.ensures.within);
      capacity = record {
        waiting = omega (arith, waiting, c.enter-self.ensures.length, c.draw_row.ensures.length, there.waiting);
        active = omega (arith, waiting, c.enter-self.ensures.length, c.enter-self.ensures.capacity, c.draw_row.ensures.length, c.draw_row.ensures.capacity, there.active);
        parts = omega (arith, waiting, c.enter-self.ensures.length, c.draw_row.ensures.length, c.draw_row.ensures.parts_capacity, c.sort_parts.ensures.capacity, there.parts);
      };
    }
