-- The bits of the row are set where the columns are.
use Rattle.std.proofs.Common.{rules, FitsSigned, ◌+◌, ◌-◌, ◌||◌, ◌&&◌, nat_eq, ap, ◌∙◌}
use Rattle.std.specs.Int.{w32}
use Rattle.std.specs.Prelude.{nat_le, nat_lt}
use Rattle.std.proofs.lemmas.Int.{to_z-of_z}
use Rattle.span_fill.specs.BitRows.{has_bit}
use Rattle.span_fill.proofs.MaskRowLemmas.{row_set}
use Rattle.span_fill.proofs.MaskRunLemmas.{counted_from}
use Rattle.span_fill.proofs.mask_runs.mark_run.Goals as goal

pub returns-clause-row : goal.returns-clause-row
returns-clause-row c = λ x i wide high.
    let y : FitsSigned w32 c.args.row.y = search rules in
    let own = simp to_z-of_z at c.own_row-own.ensures.row in
    let run = c.requires.run in
    row_set (has_bit c.args.bits.now x i) i _ (counted_from c.args.row.columns c.args.frame.region.columns.from c.args.runs.width x run.first run.width)
    (c.set_run.ensures.bits x i (rw c.requires.size.column_count wide) (rw c.requires.size.row_count high)
    ∙ ap (λ n. has_bit c.args.bits.now x i || (nat_eq i n && (nat_le (c.args.row.columns.from - c.args.frame.region.columns.from) x && nat_lt x ((c.args.row.columns.from - c.args.frame.region.columns.from) + c.args.runs.width)))) own)
