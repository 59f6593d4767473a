-- The span lies from the first seen column on.
use Rattle.std.proofs.Common.{rules, FitsSigned, arith}
use Rattle.std.specs.Int.{w32, w64}
use Rattle.std.proofs.lemmas.Int.{ints, to_z-of_z}
use Rattle.span_fill.proofs.WideEdgeWindows.{apart_fits, outside_fits, seen_near}
use Rattle.span_fill.proofs.wide_edge.near.Goals as goal

pub returns-clause-exact : goal.returns-clause-exact
returns-clause-exact c = λ x inside.
    let low = c.ranges.low in
    let high = c.ranges.high in
    let a : FitsSigned w64 c.from.result = search rules in
    let less : FitsSigned w32 c.reach_before.result = search rules in
    let b : FitsSigned w64 c.from-2.result = search rules in
    let more : FitsSigned w32 c.reach_after.result = search rules in
    let some = c.requires.some in
    let least = c.requires.least in
    let most = c.requires.most in
    let before_is = simp to_z-of_z at c.from.ensures in
    let after_is = simp to_z-of_z at c.from-2.ensures in
    let before = rw c.reach_before.ensures.reach at before_is in
    let few = c.reach_before.ensures.few in
    let after = rw c.reach_after.ensures.reach at after_is in
    let few_after = c.reach_after.ensures.few in
    let apart = apart_fits c.args.low c.from.result least (omega (arith, ints, some, most)) (omega (arith, ints, before)) (omega (arith, ints, before_is, few)) in
    let beside = outside_fits c.args.high c.from-2.result (omega (arith, ints, some, least)) most (omega (arith, ints, after)) (omega (arith, ints, after_is, few_after)) in
    let there = simp to_z-of_z at (c.between.ensures.numbers x) in
    seen_near c.args.nib c.args.low c.args.high c.args.columns _ x some (rw (before, after) at there) inside
