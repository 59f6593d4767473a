-- The row is the one from which a nib with as many rows reaches them.
use Rattle.std.proofs.Common.{rules, ◌≡◌, pos, ◌+ℤ◌, arith, FitsSigned, subst}
use Rattle.std.specs.Int.{w32}
use Rattle.std.proofs.lemmas.Int.{fits_signed_from_abs, ints, to_z-of_z}
use Rattle.span_fill.specs.MaskCovers.{tall_row}
use Rattle.span_fill.specs.WideLines.{HasAllRows}
use Rattle.span_fill.proofs.covered_columns.rows_at_once.Goals as goal

pub returns-clause-all : goal.returns-clause-all
returns-clause-all c =
    let row : FitsSigned w32 c.row_at.result = search rules in
    let reach : FitsSigned w32 c.reach_after.result = search rules in
    let low = c.row_at.ensures.low in
    let high = c.row_at.ensures.high in
    let at = c.row_at.ensures.row in
    let few = c.reach_after.ensures.few in
    let is = c.reach_after.ensures.reach in
    let sum : FitsSigned w32 (c.row_at.result +ℤ c.reach_after.result) = fits_signed_from_abs w32 (c.row_at.result +ℤ c.reach_after.result) (omega (arith, ints, low, high, few, is)) in
    let next : FitsSigned w32 (c.row_at.result +ℤ c.reach_after.result +ℤ pos 1) = fits_signed_from_abs w32 (c.row_at.result +ℤ c.reach_after.result +ℤ pos 1) (omega (arith, ints, low, high, few, is)) in
    let all = simp to_z-of_z at c.new.ensures.all in
    let there : c.row_at.result +ℤ c.reach_after.result ≡ tall_row c.args.frame c.args.from c.args.count = omega (arith, ints, at, is) in
    subst (λ r. HasAllRows r (r +ℤ pos 1) c.new.result) there all
