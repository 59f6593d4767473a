-- Each step's contract speaks of the number that it was passed, which is the one before it.
use Rattle.std.proofs.Common.{◌≡◌, refl, rules}
use Rattle.std.specs.Prelude.{◌-ℤ◌, FitsSigned}
use Rattle.std.specs.Int.{w32, w128}
use Rattle.std.proofs.lemmas.Int.{to_z-of_z}
use Rattle.mapping.proofs.fine_axis.FineAxis.wide_scaled.Goals as goal

pub returns : goal.returns
returns c =
    let axis = c.args.self.now in
    let coordinate_fits = c.ranges.coordinate in
    let viewport_fits : FitsSigned w32 axis.axis.viewport_extent = search rules in
    let window_fits : FitsSigned w32 axis.axis.window_extent = search rules in
    let origin_fits : FitsSigned w32 axis.axis.window_origin = search rules in
    let away_fits : FitsSigned w128 c.wide_distance.result = search rules in
    let distance_fits : FitsSigned w128 c.wide_in_parts-distance.result = search rules in
    let product_fits : FitsSigned w128 c.wide_product-product.result = search rules in
    let quotient_fits : FitsSigned w128 c.wide_floor_quotient.result = search rules in
    let from_fits : FitsSigned w128 c.from.result = search rules in
    let from2_fits : FitsSigned w128 c.from-2.result = search rules in
    let from3_fits : FitsSigned w128 c.from-3.result = search rules in
    let away : c.wide_distance.result ≡ c.args.coordinate -ℤ axis.axis.window_origin = simp to_z-of_z at c.wide_distance.ensures.value in
    let distance = simp to_z-of_z at c.wide_in_parts-distance.ensures.value in
    let from = c.from.ensures in
    let from2 = simp to_z-of_z at c.from-2.ensures in
    let from3 = simp to_z-of_z at c.from-3.ensures in
    let product = simp to_z-of_z at c.wide_product-product.ensures.value in
    let quotient = simp to_z-of_z at c.wide_floor_quotient.ensures.value in
    simp to_z-of_z (rw (quotient, product, distance, away, from, from2, from3) refl)
