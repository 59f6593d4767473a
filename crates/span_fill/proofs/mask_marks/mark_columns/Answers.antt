-- The part in the region is what the columns have there.
use Rattle.std.proofs.Common.{rules, ◌+◌, FitsSigned, arith}
use Rattle.std.specs.Int.{w64}
use Rattle.std.proofs.lemmas.Int.{to_z-of_z}
use Rattle.span_fill.specs.BitRows.{has_bit}
use Rattle.span_fill.proofs.MaskRowLemmas.{row_set}
use Rattle.span_fill.proofs.MaskRunLemmas.{part_has}
use Rattle.span_fill.proofs.SpanLemmas.{in_from}
use Rattle.span_fill.proofs.mask_marks.mark_columns.Goals as goal

pub returns-clause-columns : goal.returns-clause-columns
returns-clause-columns c = λ x i wide high.
    let seen = c.args.frame.region.columns in
    let from : FitsSigned w64 c.from.result = search rules in
    let to : FitsSigned w64 c.from-2.result = search rules in
    let part = simp to_z-of_z at (c.between-part.ensures.numbers (x + seen.from)) in
    row_set (has_bit c.args.bits.now x i) i c.args.row
    (part_has c.args.columns seen c.between-part.result (x + seen.from) (rw (c.from.ensures, c.from-2.ensures) at part) (in_from seen (x + seen.from) (omega arith, omega (arith, wide))))
    (c.mark_seen.ensures.columns x i wide high)
