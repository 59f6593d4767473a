-- The rows from which the nib reaches these.
use Rattle.std.proofs.Common.{rules, FitsSigned, arith}
use Rattle.std.specs.Int.{w32, w64}
use Rattle.std.proofs.lemmas.Int.{ints, to_z-of_z}
use Rattle.span_fill.specs.declared.bounds.CoordinateRange.{CoordinateRange}
use Rattle.span_fill.proofs.WideEdgeWindows.{apart_fits, outside_fits, least_32, most_32, rows_reached}
use Rattle.span_fill.proofs.wide_edge_rows.rows_seen.Goals as goal

pub returns-clause-exact : goal.returns-clause-exact
returns-clause-exact c = λ y inside.
    let f : FitsSigned w32 c.args.rows.from = search rules in
    let t : FitsSigned w32 c.args.rows.to = search rules in
    let a : FitsSigned w64 c.from-2.result = search rules in
    let b : FitsSigned w64 c.from-4.result = search rules in
    let less : FitsSigned w32 c.reach_before.result = search rules in
    let more : FitsSigned w32 c.reach_after.result = search rules in
    let d : FitsSigned w64 c.from.result = search rules in
    let e : FitsSigned w64 c.from-3.result = search rules in
    let g : FitsSigned w32 c.first_in.result = search rules in
    let h : FitsSigned w32 c.first_in-2.result = search rules in
    let from_is = simp to_z-of_z at c.from.ensures in
    let to_is = simp to_z-of_z at c.from-3.ensures in
    let before_is = simp to_z-of_z at c.from-2.ensures in
    let after_is = simp to_z-of_z at c.from-4.ensures in
    let before = rw c.reach_before.ensures.reach at before_is in
    let few = c.reach_before.ensures.few in
    let after = rw c.reach_after.ensures.reach at after_is in
    let few_after = c.reach_after.ensures.few in
    let f_low = least_32 c.args.rows.from f in
    let f_high = most_32 c.args.rows.from f in
    let t_low = least_32 c.args.rows.to t in
    let t_high = most_32 c.args.rows.to t in
    let apart = apart_fits c.from.result c.from-2.result (omega (arith, ints, from_is, f_low)) (omega (arith, ints, from_is, f_high)) (omega (arith, ints, before)) (omega (arith, ints, before_is, few)) in
    let beside = outside_fits c.from-3.result c.from-4.result (omega (arith, ints, to_is, t_low)) (omega (arith, ints, to_is, t_high)) (omega (arith, ints, after)) (omega (arith, ints, after_is, few_after)) in
    let from = simp to_z-of_z at (c.first_in.ensures.exact y inside.0 inside.1) in
    let to = simp to_z-of_z at (c.first_in-2.ensures.exact y inside.0 inside.1) in
    let seen : CoordinateRange = record { from = c.first_in.result; to = c.first_in-2.result } in
    simp to_z-of_z (rows_reached c.args.nib c.args.rows seen y (rw (from_is, before) at from) (rw (to_is, after) at to))
