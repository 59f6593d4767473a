-- Each pixel of the line lies between its ends.
use Rattle.std.proofs.Common.{rules, pos, ◌+ℤ◌, ◌-ℤ◌, arith, FitsSigned}
use Rattle.std.specs.Int.{w64}
use Rattle.std.proofs.lemmas.Int.{ints, to_z-of_z}
use Rattle.mapping.specs.Nibs.{reach_after, reach_before}
use Rattle.span_fill.proofs.CoveredColumnLemmas.{around_ends}
use Rattle.span_fill.proofs.covered_columns.columns_around.Goals as goal

pub returns : goal.returns
returns c = λ x wide test.
    let first : FitsSigned w64 c.first_around-first.result = search rules in
    let last : FitsSigned w64 c.last_around-last.result = search rules in
    let between = simp to_z-of_z at (c.columns_between.ensures x wide) in
    let a = c.first_around-first.ensures.from in
    let b = c.first_around-first.ensures.to in
    let d = c.last_around-last.ensures.from in
    let e = c.last_around-last.ensures.to in
    let near = around_ends c.args.frame c.args.line (c.first_around-first.result +ℤ pos (reach_before c.args.frame.nib.x)) (c.last_around-last.result -ℤ pos (reach_after c.args.frame.nib.x)) x
    (omega (arith, ints, a)) (omega (arith, ints, b)) (omega (arith, ints, d)) (omega (arith, ints, e)) test in
    let low = near.0 in
    let high = near.1 in
    between (omega (arith, ints, low)) (omega (arith, ints, high))
