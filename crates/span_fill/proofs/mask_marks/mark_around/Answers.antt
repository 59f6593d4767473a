-- The row of the mask is the row's.
use Rattle.std.proofs.Common.{rules, FitsSigned, ◌+◌, ◌||◌, ◌&&◌, nat_eq, ap, ◌∙◌}
use Rattle.std.specs.Int.{w32}
use Rattle.std.proofs.lemmas.Int.{to_z-of_z}
use Rattle.span_fill.specs.BitRows.{has_bit}
use Rattle.span_fill.specs.Spans.{in_span}
use Rattle.span_fill.proofs.mask_marks.mark_around.Goals as goal

pub returns-in-None-clause-row : goal.returns-in-None-clause-row
returns-in-None-clause-row c = λ x i wide high.
    let y : FitsSigned w32 c.args.row.y = search rules in
    let own = simp to_z-of_z at c.own_row.ensures.row in
    c.mark_columns.ensures.columns x i wide high
    ∙ ap (λ n. has_bit c.args.bits.now x i || (nat_eq i n && in_span c.args.row.columns (x + c.args.frame.region.columns.from))) own
