-- The total is the line's.
use Rattle.std.proofs.Common.{rules, FitsSigned}
use Rattle.std.specs.Int.{w64}
use Rattle.std.proofs.lemmas.Int.{to_z-of_z}
use Rattle.span_fill.proofs.TotalLemmas.{near_small}
use Rattle.span_fill.proofs.wide_edge.stepper_in.Goals as goal

pub total-requires-clause-x : goal.total-requires-clause-x
total-requires-clause-x c = (near_small c.args.line c.requires.near).0

pub total-requires-clause-y : goal.total-requires-clause-y
total-requires-clause-y c = (near_small c.args.line c.requires.near).1

pub returns : goal.returns
returns c =
    let total : FitsSigned w64 c.total.result = search rules in
    let row : FitsSigned w64 c.args.row = search rules in
    let divisor : FitsSigned w64 c.args.slope.divisor = search rules in
    let there = simp to_z-of_z at c.new.ensures in
    let is = simp to_z-of_z at c.total.ensures.value in
    rw is at there
