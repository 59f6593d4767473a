-- All rows at once, or in three parts.
use Rattle.std.proofs.Common.{◌-◌, ◌||◌, ap, ◌∙◌}
use Rattle.span_fill.specs.BitRows.{has_bit}
use Rattle.span_fill.proofs.SharedRowLemmas.{all_rows, three_parts}
use Rattle.span_fill.proofs.mask_marks.mark_line.Goals as goal

pub returns-then-spare-eq0-clause-line : goal.returns-then-spare-eq0-clause-line
returns-then-spare-eq0-clause-line c = λ x i wide high.
    c.mark_rows.ensures.rows x i wide high ∙ ap (λ b. has_bit c.args.bits.now x i || b) (all_rows c.args.frame c.args.line c.row_count.result x i c.row_count.ensures)

pub returns-clause-line : goal.returns-clause-line
returns-clause-line c = λ x i wide high.
    three_parts c.args.frame c.args.line (has_bit c.args.bits.now x i) (c.height-before.result - 1) c.spare-spare.result x i (ap (λ n. n - 1) c.height-before.ensures.height) c.spare-spare.ensures c.requires.some c.if-spare-eq0.false
    (c.mark_rows-first.ensures.rows x i wide high) (c.mark_shared.ensures.rows x i wide high) (c.mark_rows-last.ensures.rows x i wide high)
