-- The difference fits.
use Rattle.std.proofs.Common.{rules, FitsSigned, ◌-ℤ◌, refl, arith}
use Rattle.std.specs.Int.{w32, w64}
use Rattle.std.proofs.lemmas.Int.{ints, fits_signed_from_abs, to_z-of_z}
use Rattle.span_fill.proofs.wide_edge.WideEdge.leaves_first.Goals as goal

pub returns : goal.returns
returns c =
    let from : FitsSigned w64 c.from.result = search rules in
    let row : FitsSigned w64 c.args.row = search rules in
    let after : FitsSigned w64 c.from-2.result = search rules in
    let reached : FitsSigned w32 c.reach_after.result = search rules in
    let first : FitsSigned w32 c.args.self.now.rows.from = search rules in
    let near = c.requires.row in
    let low = near.low in
    let high = near.high in
    let from_is = simp to_z-of_z at c.from.ensures in
    let after_is = simp to_z-of_z at c.from-2.ensures in
    let reach = rw c.reach_after.ensures.reach at after_is in
    let few = c.reach_after.ensures.few in
    let apart : FitsSigned w64 (c.args.row -ℤ c.from-2.result) = fits_signed_from_abs w64 (c.args.row -ℤ c.from-2.result) (omega (arith, ints, low, high, reach, after_is, few)) in
    simp to_z-of_z (rw (from_is, reach) refl)
