-- The ends, and those behind them.
use Rattle.std.proofs.Common.{rules, FitsSigned, pos, ◌+ℤ◌, ◌≡◌, ◌≤ℤ◌, ◌<ℤ◌, true, false, arith, sym, ◌∙◌, to_z, of_z}
use Rattle.std.specs.Prelude.{int_lt}
use Rattle.std.specs.Int.{w32}
use Rattle.std.proofs.lemmas.Int.{ints, to_z-of_z}
use Rattle.span_fill.proofs.HullLemmas.{run_up_ends, run_down_ends}
use Rattle.span_fill.proofs.bounds.run.Goals as goal

pub returns-then-is_forwards-clause-exact : goal.returns-then-is_forwards-clause-exact
returns-then-is_forwards-clause-exact c = λ u.
    let from : FitsSigned w32 c.args.major.from_u = search rules in
    let to : FitsSigned w32 c.args.major.to_u = search rules in
    let test : int_lt c.args.major.from_u c.args.major.to_u ≡ true = sym c.is_forwards.ensures ∙ c.if-is_forwards.true in
    let up : c.args.major.from_u <ℤ c.args.major.to_u = grind (arith, ints, test) in
    simp to_z-of_z (run_up_ends c.args.major.from_u c.args.major.to_u u up)

pub returns-else-is_forwards-clause-exact : goal.returns-else-is_forwards-clause-exact
returns-else-is_forwards-clause-exact c = λ u.
    let from_low = c.requires.from_u.low in
    let from_high = c.requires.from_u.high in
    let to_low = c.requires.to_u.low in
    let to_high = c.requires.to_u.high in
    let test : int_lt c.args.major.from_u c.args.major.to_u ≡ false = sym c.is_forwards.ensures ∙ c.if-is_forwards.false in
    let down : c.args.major.to_u ≤ℤ c.args.major.from_u = grind (arith, ints, test) in
    run_down_ends c.args.major.from_u c.args.major.to_u u
    (to_z w32 (of_z w32 (to_z w32 (of_z w32 c.args.major.to_u) +ℤ pos 1)))
    (to_z w32 (of_z w32 (to_z w32 (of_z w32 c.args.major.from_u) +ℤ pos 1)))
    down (omega (arith, ints, to_low, to_high)) (omega (arith, ints, from_low, from_high))
