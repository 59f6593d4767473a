-- The edge runs to the right, to the left or straight down.
use Rattle.std.proofs.Common.{FitsSigned, w64, pos, ◌-ℤ◌, ◌≡◌, ◌<ℤ◌, ◌≤ℤ◌, arith, rules}
use Rattle.std.proofs.lemmas.Int.{ints, to_z-of_z}
use Rattle.span_fill.specs.CrossedRows.{reach_of}
use Rattle.span_fill.specs.Fill.{across}
use Rattle.span_fill.proofs.CrossedLemmas.{crossed_always, crossed_left, crossed_never, crossed_right}
use Rattle.span_fill.proofs.crossed_rows.crossed_rows.Goals as goal

pub last_multiple-requires-then-across-lt0-clause-dividend :
    goal.last_multiple-requires-then-across-lt0-clause-dividend
last_multiple-requires-then-across-lt0-clause-dividend c =
    let width = c.across-across.ensures.near in
    let reach = c.reach-reach.ensures.near in
    record { low = omega (arith, ints, width.low, width.high, reach.low, reach.high); high = omega (arith, ints, width.low, width.high, reach.low, reach.high) }

pub last_multiple-requires-then-across-lt0-clause-low :
    goal.last_multiple-requires-then-across-lt0-clause-low
last_multiple-requires-then-across-lt0-clause-low c =
    let value = c.doubled-then-across-lt0.ensures.value in
    let width = c.across-across.ensures.near in
    omega (arith, ints, value, width.low, width.high, c.if-across-lt0.true)

pub returns-then-across-gt0-clause-rows : goal.returns-then-across-gt0-clause-rows
returns-then-across-gt0-clause-rows c =
    let across : FitsSigned w64 c.across-across.result = search rules in
    let reach : FitsSigned w64 c.reach-reach.result = search rules in
    let less : FitsSigned w64 (c.reach-reach.result -ℤ c.across-across.result) = search rules in
    let twice : FitsSigned w64 c.doubled.result = search rules in
    let last : FitsSigned w64 c.last_multiple.result = search rules in
    let twice_is = simp to_z-of_z at c.doubled.ensures.value in
    let multiple = simp to_z-of_z at c.last_multiple.ensures.last in
    let rows = simp to_z-of_z at c.rows_to.ensures.rows in
    let turn = rw (twice_is, c.reach-reach.ensures.value, c.across-across.ensures.value) at multiple in
    crossed_right c.args.edge.upper c.args.edge.lower c.args.column c.last_multiple.result c.rows_to.result turn rows

pub returns-then-across-lt0-clause-rows : goal.returns-then-across-lt0-clause-rows
returns-then-across-lt0-clause-rows c =
    let across : FitsSigned w64 c.across-across.result = search rules in
    let reach : FitsSigned w64 c.reach-reach.result = search rules in
    let flipped : FitsSigned w64 (pos 0 -ℤ c.across-across.result) = search rules in
    let less : FitsSigned w64 (c.across-across.result -ℤ c.reach-reach.result) = search rules in
    let least : FitsSigned w64 (c.across-across.result -ℤ c.reach-reach.result -ℤ pos 1) = search rules in
    let twice : FitsSigned w64 c.doubled-then-across-lt0.result = search rules in
    let last : FitsSigned w64 c.last_multiple-then-across-lt0.result = search rules in
    let twice_is = simp to_z-of_z at c.doubled-then-across-lt0.ensures.value in
    let multiple = simp to_z-of_z at c.last_multiple-then-across-lt0.ensures.last in
    let rows = simp to_z-of_z at c.rows_after.ensures.rows in
    let turn = rw (twice_is, c.reach-reach.ensures.value, c.across-across.ensures.value) at multiple in
    crossed_left c.args.edge.upper c.args.edge.lower c.args.column c.last_multiple-then-across-lt0.result c.rows_after.result turn rows

pub returns-then-reach-ge0-clause-rows : goal.returns-then-reach-ge0-clause-rows
returns-then-reach-ge0-clause-rows c =
    let reach : FitsSigned w64 c.reach-reach.result = search rules in
    let straight : across c.args.edge.upper c.args.edge.lower ≡ pos 0 = omega (arith, ints, c.across-across.ensures.value, c.if-across-gt0.false, c.if-across-lt0.false) in
    let above : pos 0 ≤ℤ reach_of c.args.edge.upper c.args.edge.lower c.args.column = omega (arith, ints, c.reach-reach.ensures.value, c.if-reach-ge0.true) in
    crossed_always c.args.edge.upper c.args.edge.lower c.args.column c.rows_after-then-reach-ge0.result straight above c.rows_after-then-reach-ge0.ensures.rows

pub returns-else-reach-ge0-clause-rows : goal.returns-else-reach-ge0-clause-rows
returns-else-reach-ge0-clause-rows c =
    let reach : FitsSigned w64 c.reach-reach.result = search rules in
    let straight : across c.args.edge.upper c.args.edge.lower ≡ pos 0 = omega (arith, ints, c.across-across.ensures.value, c.if-across-gt0.false, c.if-across-lt0.false) in
    let below : reach_of c.args.edge.upper c.args.edge.lower c.args.column <ℤ pos 0 = omega (arith, ints, c.reach-reach.ensures.value, c.if-reach-ge0.false) in
    crossed_never c.args.edge.upper c.args.edge.lower c.args.column c.rows_to-else-reach-ge0.result straight below c.rows_to-else-reach-ge0.ensures.rows
