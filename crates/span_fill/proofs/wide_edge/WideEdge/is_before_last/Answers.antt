-- The sums fit.
use Rattle.std.proofs.Common.{rules, FitsSigned, pos, ◌+ℤ◌, ◌-ℤ◌, refl, arith}
use Rattle.std.specs.Int.{w32, w64}
use Rattle.std.proofs.lemmas.Int.{ints, fits_signed_from_abs, to_z-of_z}
use Rattle.span_fill.proofs.WideEdgeWindows.{least_32, most_32}
use Rattle.span_fill.proofs.wide_edge.WideEdge.is_before_last.Goals as goal

pub returns : goal.returns
returns c =
    let row : FitsSigned w64 c.args.row = search rules in
    let before : FitsSigned w64 c.from.result = search rules in
    let reached : FitsSigned w32 c.reach_before.result = search rules in
    let to : FitsSigned w64 c.from-2.result = search rules in
    let end : FitsSigned w32 c.args.self.now.rows.to = search rules in
    let near = c.requires.row in
    let low = near.low in
    let high = near.high in
    let to_is = simp to_z-of_z at c.from-2.ensures in
    let before_is = simp to_z-of_z at c.from.ensures in
    let reach = rw c.reach_before.ensures.reach at before_is in
    let few = c.reach_before.ensures.few in
    let least = least_32 c.args.self.now.rows.to end in
    let most = most_32 c.args.self.now.rows.to end in
    let sum : FitsSigned w64 (c.args.row +ℤ c.from.result) = fits_signed_from_abs w64 (c.args.row +ℤ c.from.result) (omega (arith, ints, low, high, reach, before_is, few)) in
    let last : FitsSigned w64 (c.from-2.result -ℤ pos 1) = fits_signed_from_abs w64 (c.from-2.result -ℤ pos 1) (omega (arith, ints, to_is, least, most)) in
    simp to_z-of_z (rw (to_is, reach) refl)
