-- The strips that go on have what the lines had.
use Rattle.std.proofs.Common.{◌≡◌, length, drop, ap, ◌∙◌, arith}
use Rattle.std.proofs.lemmas.List.{take_at}
use Rattle.span_fill.specs.StrokeRows.{wide_edges_have}
use Rattle.span_fill.proofs.StrokeLemmas.{same_lines}
use Rattle.span_fill.proofs.stroke_rows.draw_row.Goals as goal

pub returns-clause-have : goal.returns-clause-have
returns-clause-have c = λ x y h k.
    let wide_edges = c.draw_wide_edges.new.active in
    let long : length wide_edges ≡ c.args.active.now.len = omega (arith, c.draw_wide_edges.auto.active, c.as_mut_slice.ensures.len) in
    let lines = rw c.as_mut_slice.ensures.value at c.draw_wide_edges.ensures.lines in
    let there = take_at wide_edges (drop (length wide_edges) c.args.active.now.items) c.args.active.now.len long in
    c.retire.ensures.have x y h k
    ∙ ap (λ l. wide_edges_have c.args.nib l x y) there
    ∙ same_lines c.args.nib c.args.active.now.items wide_edges x y lines
