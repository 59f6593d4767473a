-- Led along the line, the nib covers in one row what they mark.
use Rattle.std.proofs.Common.{rules, ◌≡◌, ◌-◌, pos, ◌+ℤ◌, ◌≤ℤ◌, ap, subst, ◌∙◌, arith, FitsSigned}
use Rattle.std.specs.Int.{w32}
use Rattle.std.proofs.lemmas.Int.{fits_signed_from_abs, ints, to_z-of_z}
use Rattle.mapping.specs.Nibs.{IsNib}
use Rattle.span_fill.specs.BitRows.{has_bit}
use Rattle.span_fill.specs.MaskFrames.{shared_nib, shared_row}
use Rattle.span_fill.specs.WideLines.{HasAllRows, TakesRowAmong, all_columns}
use Rattle.span_fill.proofs.SharedRowLemmas.{shared_nothing, shared_set}
use Rattle.span_fill.proofs.mask_marks.mark_shared.Goals as goal

pub returns-in_default-clause-rows : goal.returns-in_default-clause-rows
returns-in_default-clause-rows c = λ x i wide high.
    let row : FitsSigned w32 c.shared_row-row.result = search rules in
    let low = c.shared_row-row.ensures.low in
    let limit = c.shared_row-row.ensures.high in
    let next : FitsSigned w32 (c.shared_row-row.result +ℤ pos 1) = fits_signed_from_abs w32 (c.shared_row-row.result +ℤ pos 1) (omega (arith, ints, low, limit)) in
    let given = simp to_z-of_z at c.new-rows.ensures.all in
    let all : HasAllRows (shared_row c.args.frame) (shared_row c.args.frame +ℤ pos 1) c.new-rows.result = rw (← c.shared_row-row.ensures.row) given in
    let nib : IsNib (shared_nib c.args.frame) = subst IsNib c.shared_nib.ensures.nib c.shared_nib.ensures.is_nib in
    let ended : (c.new-rows.result.end ≤ℤ c.new-rows.result.next) × (c.next.new.self ≡ c.new-rows.result) = c.in_default.ensures in
    shared_nothing c.args.frame c.args.line c.new-rows.result (has_bit c.args.bits.now x i) x i nib c.requires.some all ended.0 c.new-rows.ensures.line (c.new-rows.ensures.nib ∙ c.shared_nib.ensures.nib)

pub returns-clause-rows : goal.returns-clause-rows
returns-clause-rows c = λ x i wide high.
    let row : FitsSigned w32 c.shared_row-row.result = search rules in
    let low = c.shared_row-row.ensures.low in
    let limit = c.shared_row-row.ensures.high in
    let next : FitsSigned w32 (c.shared_row-row.result +ℤ pos 1) = fits_signed_from_abs w32 (c.shared_row-row.result +ℤ pos 1) (omega (arith, ints, low, limit)) in
    let given = simp to_z-of_z at c.new-rows.ensures.all in
    let all : HasAllRows (shared_row c.args.frame) (shared_row c.args.frame +ℤ pos 1) c.new-rows.result = rw (← c.shared_row-row.ensures.row) given in
    let nib : IsNib (shared_nib c.args.frame) = subst IsNib c.shared_nib.ensures.nib c.shared_nib.ensures.is_nib in
    let takes : TakesRowAmong all_columns c.new-rows.result c.next.new.self c.in-Some.shared = c.in-Some.ensures in
    let region = c.requires.frame.region in
    let height = c.height.ensures.height in
    shared_set c.args.frame c.args.line c.new-rows.result c.next.new.self c.in-Some.shared (has_bit c.args.bits.now x i) (c.height.result - 1) x i nib c.requires.some all takes c.new-rows.ensures.line
    (c.new-rows.ensures.nib ∙ c.shared_nib.ensures.nib) (omega (arith, wide, region)) (ap (λ n. n - 1) height) (c.mark_columns.ensures.columns x i wide high)
