-- Where the extents are the same, the distance is the floor of its own multiple.
use Rattle.std.proofs.Common.{◌≡◌, refl, sym, ap, ◌∙◌, rules, to_z}
use Rattle.std.specs.Prelude.{◌*ℤ◌, ◌-ℤ◌, FitsSigned}
use Rattle.std.specs.Int.{w32, w64}
use Rattle.std.proofs.lemmas.Int.{to_z-of_z}
use Rattle.mapping.specs.Floor.{floor_div}
use Rattle.mapping.proofs.FloorLemmas.{floor_of_multiple}
use Rattle.mapping.proofs.page_axis.PageAxis.scaled.Goals as goal

pub returns-then-self : goal.returns-then-self
returns-then-self c =
    let axis = c.args.self.now in
    let coordinate_fits = c.ranges.coordinate in
    let viewport_fits : FitsSigned w32 axis.viewport_extent = search rules in
    let window_fits : FitsSigned w32 axis.window_extent = search rules in
    let origin_fits : FitsSigned w32 axis.window_origin = search rules in
    let distance_fits : FitsSigned w64 c.distance-distance.result = search rules in
    let same : axis.viewport_extent ≡ axis.window_extent = simp to_z-of_z at (ap (to_z w32) c.if-self.true) in
    let distance : c.distance-distance.result ≡ c.args.coordinate -ℤ axis.window_origin = simp to_z-of_z at c.distance-distance.ensures.value in
    simp to_z-of_z (distance ∙ sym (ap (λ v. floor_div ((c.args.coordinate -ℤ axis.window_origin) *ℤ v) axis.window_extent) same ∙ floor_of_multiple (c.args.coordinate -ℤ axis.window_origin) axis.window_extent axis.window_has_extent))

pub returns : goal.returns
returns c =
    let axis = c.args.self.now in
    let coordinate_fits = c.ranges.coordinate in
    let viewport_fits : FitsSigned w32 axis.viewport_extent = search rules in
    let window_fits : FitsSigned w32 axis.window_extent = search rules in
    let origin_fits : FitsSigned w32 axis.window_origin = search rules in
    let distance_fits : FitsSigned w64 c.distance-distance.result = search rules in
    let product_fits : FitsSigned w64 c.product-product.result = search rules in
    let quotient_fits : FitsSigned w64 c.floor_quotient.result = search rules in
    let from_fits : FitsSigned w64 c.from.result = search rules in
    let from2_fits : FitsSigned w64 c.from-2.result = search rules in
    let distance : c.distance-distance.result ≡ c.args.coordinate -ℤ axis.window_origin = simp to_z-of_z at c.distance-distance.ensures.value in
    let from = simp to_z-of_z at c.from.ensures in
    let from2 = simp to_z-of_z at c.from-2.ensures in
    let product = simp to_z-of_z at c.product-product.ensures.value in
    let quotient = simp to_z-of_z at c.floor_quotient.ensures.value in
    simp to_z-of_z (rw (quotient, product, distance, from, from2) refl)
